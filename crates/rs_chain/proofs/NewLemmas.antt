-- A tree of the root alone.
use Rattle.std.proofs.Common.{◌≡◌, ◌≢◌, ℕ, Bool, true, false, not, ◌||◌, ◌&&◌, List, [], ◌∷◌, map, find, Option, Some, None, is_some, refl, sym, ap, ◌∙◌, subst, ⊎_elim}
use Rattle.std.specs.Option.{option_map_or}
use Rattle.std.proofs.lemmas.Bool.{cases_eq, true≢false}
use Rattle.slab.specs.Slab.{Slab, get, ContainsKey}
use Rattle.rs_path.specs.declared.child.Child.{Child}
use Rattle.rs_path.specs.Children.{same_child}
use Rattle.rs_path.specs.Paths.{Path, is_nil}
use Rattle.rs_rules.specs.declared.doc.Doc.{Doc}
use Rattle.rs_rules.specs.Contents.{no_contents}
use Rattle.rs_rules.specs.Laws.{is_sorted}
use Rattle.rs_rules.specs.Versions.{is_there}
use Rattle.rs_chain.specs.declared.node.Node.{Node}
use Rattle.rs_chain.specs.Nodes.{field, no_child, number, node_child, node_doc, node_number, node_kids, node_parent, node_first, IsEmptyFolder}
use Rattle.rs_chain.specs.Rings.{In}
use Rattle.rs_chain.specs.Climbs.{AreLinked}
use Rattle.rs_chain.specs.Walks.{onwards, child_in, way, steps_of, key_at, AreListed}
use Rattle.rs_chain.specs.Shown.{NodesShow, NodesStandFor}
use Rattle.rs_chain.proofs.InLemmas.{as_children}
use Rattle.rs_chain.proofs.WalkLemmas.{way_none}

module _ (s : Slab Node) (root : ℕ) (x : Node) (is_root : get s root ≡ Some x) (others : (k : ℕ) → k ≢ root → get s k ≡ None) (empty : IsEmptyFolder x) where
  all_none : {X : Type 0} (of : Node → X) (nothing : X) → of x ≡ nothing → (k : ℕ) → field of nothing s k ≡ nothing
  all_none of nothing same k =
      ⊎_elim
      (λ here. ap (λ j. option_map_or of (get s j) nothing) here ∙ ap (λ o. option_map_or of o nothing) is_root ∙ same)
      (λ other. ap (λ o. option_map_or of o nothing) (others k other))
      (cases_eq k root)

  no_kids : (k : ℕ) → node_kids s k ≡ []
  no_kids k = all_none (λ (y : Node). y.kids.items) [] empty.kids k

  no_folder : (k f : ℕ) → node_parent s k ≡ Some f → ⊥
  no_folder k f is = let clash : None ≡ Some f = sym (all_none (λ (y : Node). y.parent) None empty.parent k) ∙ is in absurd (cc)

  no_doc : (k : ℕ) → node_doc s k ≡ None
  no_doc k = all_none (λ (y : Node). y.doc) None empty.doc k

  no_number : (k : ℕ) → node_number s k ≡ 0
  no_number k = all_none number 0 (ap (λ o. option_map_or (λ (d : Doc). d.version) o x.version) empty.doc ∙ empty.version) k

  not_in : (k f : ℕ) → In k (node_kids s f) → ⊥
  not_in k f there = subst (λ ks. In k ks) (no_kids f) there

  root_child : node_child s root ≡ x.child
  root_child = ap (λ o. option_map_or (λ (y : Node). y.child) o no_child) is_root

  content : (k : ℕ) → ContainsKey s k → is_some (node_doc s k) ≡ not (node_child s k).folder
  content k live =
      ⊎_elim
      (λ here. ap is_some (no_doc k) ∙ sym (ap (λ j. not (node_child s j).folder) here ∙ ap (λ (c : Child). not c.folder) root_child ∙ ap not empty.folder))
      (λ other. absurd (true≢false (sym live ∙ ap is_some (others k other))))
      (cases_eq k root)

  new_linked : AreLinked s (λ f. [])
  new_linked = record {
    rings = record {
      rings = λ f. all_none (λ (y : Node). y.first) None empty.first f;
      apart = λ f. tt;
      lone = λ f g i one two. absurd one;
    };
    members = λ f i. (λ there. absurd there, λ is. no_folder i f is);
    held = λ f i is. absurd (no_folder i f is);
  }

  pub new_listed : AreListed s root
  new_listed = record {
    sorted = λ f. ap (λ ks. is_sorted (map (node_child s) ks)) (no_kids f);
    children = λ f k. as_children s f k (λ there. absurd (not_in k f there)) (λ is. absurd (no_folder k f is));
    contents = content;
    holders = λ f k is. absurd (no_folder k f is);
    root_live = ap is_some is_root;
    root_top = all_none (λ (y : Node). y.parent) None empty.parent root;
    root_folder = ap (λ (c : Child). c.folder) root_child ∙ empty.folder;
  }

  no_document : (o : Option ℕ) → None ≡ onwards o (node_doc s)
  no_document None = refl
  no_document (Some k) = sym (no_doc k)

  none_numbered : (o : Option ℕ) → ◌≡◌ {A = ℕ} 0 (option_map_or (node_number s) o 0)
  none_numbered None = refl
  none_numbered (Some k) = sym (no_number k)

  root_alone : (ns : List (List ℕ)) (b : Bool) → b ≡ true → ((b && is_nil ns) || false) ≡ is_some (way (child_in s) root (steps_of ns b))
  root_alone [] b folder = ap (λ f. (f && true) || false) folder
  root_alone (n ∷ ns) b folder =
      let c : Child = record { name = n; folder = b || not (is_nil ns) } in
      let none : child_in s root c ≡ None = ap (λ ks. find (λ k. same_child c (node_child s k)) ks) (no_kids root) in
      ap (λ f. (f && false) || false) folder ∙ sym (ap is_some (way_none s root c (steps_of ns b) none))

  pub new_stands : NodesStandFor s root 0 no_contents
  new_stands = record {
    order = λ f. [];
    linked = new_linked;
    shows = record {
      documents = λ q. no_document (key_at s root q);
      folders = λ q folder. root_alone q.names q.folder folder;
      versions = λ q placed. none_numbered (key_at s root q);
    };
    distinct = refl;
    plain = refl;
    dated = λ q document. refl;
    live_is = refl;
  }
