-- Front by front: a document there is the first, and where no folder is there nothing is left.
use Rattle.std.proofs.Common.{◌≡◌, ◌<◌, ◌≤◌, ℕ, ◌+◌, ◌&&◌, Bool, true, false, not, cond, List, [], length, take, drop, get_or, Option, Some, None, is_some, refl, sym, ap, ◌∙◌, subst, take_all}
use Rattle.std.proofs.lemmas.Bool.{and_parts}
use Rattle.std.proofs.lemmas.List.{get_or_read}
use Rattle.rs_path.specs.declared.child.Child.{Child}
use Rattle.rs_path.specs.Paths.{folder_at, is_nil}
use Rattle.rs_rules.specs.Documents.{has_below}
use Rattle.rs_rules.specs.Contents.{paths_in}
use Rattle.rs_chain.specs.Walks.{child_in, key_at}
use Rattle.rs_chain.proofs.WalkLemmas.{child_in_live, front_goes}
use Rattle.rs_chain.proofs.FrontLemmas.{left_here, next_document, next_folder, step_past, clash_here, clash_none, clash_end}
use Rattle.rs_chain.proofs.EmptyLemmas.{below_kids}
use Rattle.rs_chain.proofs.obstacles.clash_in.Goals as goal

abbrev child_of : List ℕ → Bool → Child
child_of name folder = record { name = name; folder = folder }

pub returns-then-is_document : goal.returns-then-is_document
returns-then-is_document c =
    let s = c.args.nodes.now in
    let p = c.args.path.now in
    let depth : ℕ = c.loop-depth.depth in
    let key : ℕ = c.loop-depth.key in
    let within : depth < length p.names = subst (λ (ns : List (List ℕ)). depth < length ns) c.names-names.ensures.names c.loop-depth-test.true in
    let test : (not (is_nil (drop (depth + 1) p.names)) && is_some (child_in s key (child_of (get_or p.names depth []) false))) ≡ true =
    ap (λ (ns : List (List ℕ)). not (is_nil (drop (depth + 1) ns)) && is_some (child_in s key (child_of (get_or ns depth []) false))) (sym c.names-names.ensures.names)
    ∙ sym c.is_document.ensures.document ∙ c.if-is_document.true in
    let parts = and_parts (not (is_nil (drop (depth + 1) p.names))) (is_some (child_in s key (child_of (get_or p.names depth []) false))) test in
    record {
      clash = λ w shows plain.
          sym (clash_here s c.args.root w c.requires.listed shows p (depth + 1)
          (c.loop-depth.invariant.rest w shows
          ∙ left_here w.docs p.names depth within parts.0
          (next_document s c.args.root w c.requires.listed shows p.names depth key within c.loop-depth.invariant.front ∙ parts.1)));
    }

pub returns-in-None : goal.returns-in-None
returns-in-None c =
    let s = c.args.nodes.now in
    let p = c.args.path.now in
    let depth : ℕ = c.loop-depth.depth in
    let key : ℕ = c.loop-depth.key in
    let names_is = c.names-names.ensures.names in
    let within : depth < length p.names = subst (λ (ns : List (List ℕ)). depth < length ns) names_is c.loop-depth-test.true in
    let name_is : c.index-names-depth.result ≡ get_or p.names depth [] =
    get_or_read c.names-names.result.now depth c.index-names-depth.result c.loop-depth-test.true c.index-names-depth.is [] ∙ ap (λ (ns : List (List ℕ)). get_or ns depth []) names_is in
    let test : (not (is_nil (drop (depth + 1) p.names)) && is_some (child_in s key (child_of (get_or p.names depth []) false))) ≡ false =
    ap (λ (ns : List (List ℕ)). not (is_nil (drop (depth + 1) ns)) && is_some (child_in s key (child_of (get_or ns depth []) false))) (sym names_is)
    ∙ sym c.is_document.ensures.document ∙ c.if-is_document.false in
    record {
      clash = λ w shows plain.
          sym (clash_none s c.args.root w c.requires.listed shows p (depth + 1)
          (c.loop-depth.invariant.rest w shows ∙ step_past s c.args.root w c.requires.listed shows p.names depth key within c.loop-depth.invariant.front test)
          (next_folder s c.args.root w c.requires.listed shows p.names depth key within c.loop-depth.invariant.front
          ∙ ap (λ n. child_in s key (child_of n true)) (sym name_is) ∙ sym c.in-None.ensures.child));
    }

pub loop-depth-preserved : goal.loop-depth-preserved
loop-depth-preserved c =
    let s = c.args.nodes.now in
    let p = c.args.path.now in
    let depth : ℕ = c.loop-depth.depth in
    let key : ℕ = c.loop-depth.key in
    let names_is = c.names-names.ensures.names in
    let within : depth < length p.names = subst (λ (ns : List (List ℕ)). depth < length ns) names_is c.loop-depth-test.true in
    let name_is : c.index-names-depth.result ≡ get_or p.names depth [] =
    get_or_read c.names-names.result.now depth c.index-names-depth.result c.loop-depth-test.true c.index-names-depth.is [] ∙ ap (λ (ns : List (List ℕ)). get_or ns depth []) names_is in
    let found : child_in s key (child_of (get_or p.names depth []) true) ≡ Some c.in-Some.child = ap (λ n. child_in s key (child_of n true)) (sym name_is) ∙ sym c.in-Some.ensures.child in
    let test : (not (is_nil (drop (depth + 1) p.names)) && is_some (child_in s key (child_of (get_or p.names depth []) false))) ≡ false =
    ap (λ (ns : List (List ℕ)). not (is_nil (drop (depth + 1) ns)) && is_some (child_in s key (child_of (get_or ns depth []) false))) (sym names_is)
    ∙ sym c.is_document.ensures.document ∙ c.if-is_document.false in
    record {
      front = front_goes s c.args.root key c.in-Some.child (folder_at p.names) depth within c.loop-depth.invariant.front found;
      there = child_in_live s c.args.root key c.in-Some.child (child_of (get_or p.names depth []) true) c.requires.listed found;
      rest = λ w shows. c.loop-depth.invariant.rest w shows ∙ step_past s c.args.root w c.requires.listed shows p.names depth key within c.loop-depth.invariant.front test;
    }

pub returns-then-has_kids : goal.returns-then-has_kids
returns-then-has_kids c =
    let s = c.args.nodes.now in
    let p = c.args.path.now in
    let depth : ℕ = c.loop-depth.depth in
    let key : ℕ = c.loop-depth.key in
    let past : length p.names ≤ depth = subst (λ (ns : List (List ℕ)). length ns ≤ depth) c.names-names.ensures.names c.loop-depth-test.false in
    let here : key_at s c.args.root (folder_at p.names) ≡ Some key = ap (λ (ns : List (List ℕ)). key_at s c.args.root (folder_at ns)) (sym (take_all depth p.names past)) ∙ c.loop-depth.invariant.front in
    record {
      clash = λ w shows plain.
          let below : has_below (folder_at p.names) w.docs ≡ true =
          below_kids s c.args.root w (folder_at p.names) key c.requires.listed shows plain refl here (λ q. c.child_laws.ensures.towards (folder_at p.names) q refl)
          (λ child. c.listing_laws.ensures.members (folder_at p.names) (paths_in w.docs) child) (c.listing_laws.ensures.sorted (folder_at p.names) (paths_in w.docs))
          (λ child document. c.listing_laws.ensures.documents (folder_at p.names) child w.docs document)
          (λ child folder. c.listing_laws.ensures.folders (folder_at p.names) child w.docs folder plain)
          ∙ sym c.has_kids.ensures.kids ∙ c.if-has_kids.true in
          ap (λ k. Some k) c.depth.ensures.depth ∙ sym (clash_end s c.args.root w c.requires.listed shows p depth true (c.loop-depth.invariant.rest w shows) past below);
    }

pub returns-else-has_kids : goal.returns-else-has_kids
returns-else-has_kids c =
    let s = c.args.nodes.now in
    let p = c.args.path.now in
    let depth : ℕ = c.loop-depth.depth in
    let key : ℕ = c.loop-depth.key in
    let past : length p.names ≤ depth = subst (λ (ns : List (List ℕ)). length ns ≤ depth) c.names-names.ensures.names c.loop-depth-test.false in
    let here : key_at s c.args.root (folder_at p.names) ≡ Some key = ap (λ (ns : List (List ℕ)). key_at s c.args.root (folder_at ns)) (sym (take_all depth p.names past)) ∙ c.loop-depth.invariant.front in
    record {
      clash = λ w shows plain.
          let below : has_below (folder_at p.names) w.docs ≡ false =
          below_kids s c.args.root w (folder_at p.names) key c.requires.listed shows plain refl here (λ q. c.child_laws.ensures.towards (folder_at p.names) q refl)
          (λ child. c.listing_laws.ensures.members (folder_at p.names) (paths_in w.docs) child) (c.listing_laws.ensures.sorted (folder_at p.names) (paths_in w.docs))
          (λ child document. c.listing_laws.ensures.documents (folder_at p.names) child w.docs document)
          (λ child folder. c.listing_laws.ensures.folders (folder_at p.names) child w.docs folder plain)
          ∙ sym c.has_kids.ensures.kids ∙ c.if-has_kids.false in
          sym (clash_end s c.args.root w c.requires.listed shows p depth false (c.loop-depth.invariant.rest w shows) past below);
    }
