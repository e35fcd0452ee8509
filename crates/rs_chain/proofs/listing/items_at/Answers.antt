-- Where a folder isn't there nothing is in it; else its kids are its children.
use Rattle.std.proofs.Common.{◌≡◌, List, IfOk, map, sym, ap, ◌∙◌, subst}
use Rattle.rs_path.specs.declared.child.Child.{Child}
use Rattle.rs_path.specs.declared.entry.Entry.{Entry}
use Rattle.rs_rules.specs.Contents.{paths_in}
use Rattle.rs_rules.specs.Listings.{item_of}
use Rattle.rs_chain.proofs.ListedLemmas.{listed_kids, no_children}
use Rattle.rs_chain.proofs.KidLemmas.{items_kids}
use Rattle.rs_chain.proofs.listing.items_at.Goals as goal

pub returns-in-None : goal.returns-in-None
returns-in-None c = record {
  items = λ w shows plain.
      c.new.ensures.empty
      ∙ sym (ap (λ (cs : List Child). map (item_of w c.args.folder.now) cs)
      (no_children c.args.nodes.now c.args.root w c.args.folder.now c.requires.folder shows (sym c.in-None.ensures.key)
      (λ child document. c.listing_laws.ensures.documents c.args.folder.now child w.docs document)
      (λ child folder. c.listing_laws.ensures.folders c.args.folder.now child w.docs folder plain)));
}

pub returns-in-Some : goal.returns-in-Some
returns-in-Some c = record {
  items = λ w shows plain.
      let p = c.args.folder.now in
      let s = c.args.nodes.now in
      let here = sym c.in-Some.ensures.key in
      let kids = listed_kids s c.args.root w p c.in-Some.key c.requires.listed shows c.requires.folder here plain (c.listing_laws.ensures.sorted p (paths_in w.docs))
      (λ child document. c.listing_laws.ensures.documents p child w.docs document) (λ child folder. c.listing_laws.ensures.folders p child w.docs folder plain) in
      subst (λ (es : List Entry). IfOk c.items_of.result (λ (items : List Entry). items ≡ es))
      (items_kids s c.args.root w p c.in-Some.key c.requires.listed shows c.requires.folder here kids) c.items_of.ensures.items;
}
