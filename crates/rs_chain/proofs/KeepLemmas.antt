-- What stays where names, children and parents stay.
use Rattle.std.proofs.Common.{◌≡◌, ◌↔◌, ℕ, Bool, true, false, not, List, [], map, find, Option, Some, None, is_some, refl, sym, ap, ◌∙◌, subst}
use Rattle.std.proofs.Math.Path.{fun_ext}
use Rattle.std.specs.Option.{option_map, option_map_or}
use Rattle.slab.specs.Slab.{Slab, get, ContainsKey}
use Rattle.rs_path.specs.declared.child.Child.{Child}
use Rattle.rs_path.specs.Paths.{Path}
use Rattle.rs_path.specs.Children.{same_child}
use Rattle.rs_rules.specs.declared.doc.Doc.{Doc}
use Rattle.rs_rules.specs.Laws.{is_sorted}
use Rattle.rs_chain.specs.declared.node.Node.{Node}
use Rattle.rs_chain.specs.Nodes.{no_child, node_child, node_doc, node_kids, node_parent, node_number, number, undated, Stays, SameButNumbers}
use Rattle.rs_chain.specs.Rings.{In}
use Rattle.rs_chain.specs.Walks.{way, steps_of, child_in, key_at, AreListed}
use Rattle.rs_chain.proofs.InLemmas.{as_children, kid_parent, parent_kid}
use Rattle.rs_chain.proofs.NodeLemmas.{numbers_live, numbers_field}

-- the child among those of a folder, by what names and children are
abbrev looked : (ℕ → Child) → (ℕ → List ℕ) → ℕ → Child → Option ℕ
looked at kids folder child = find (λ key. same_child child (at key)) (kids folder)

pub keys_stay : (s t : Slab Node) (root : ℕ) → Stays (node_child s) (node_child t) → Stays (node_kids s) (node_kids t) → (q : Path) → key_at t root q ≡ key_at s root q
keys_stay s t root child kids q =
    ap (λ at. way (looked at (node_kids t)) root (steps_of q.names q.folder)) (fun_ext child)
    ∙ ap (λ ks. way (looked (node_child s) ks) root (steps_of q.names q.folder)) (fun_ext kids)

-- names, children, parents, and which nodes are there and have a document
pub record IsSameShape (s t : Slab Node) : Type 0 where
  pub child : Stays (node_child s) (node_child t)
  pub kids : Stays (node_kids s) (node_kids t)
  pub parent : Stays (node_parent s) (node_parent t)
  pub docs : (k : ℕ) → is_some (node_doc t k) ≡ is_some (node_doc s k)
  pub live : (k : ℕ) → is_some (get t k) ≡ is_some (get s k)

pub listed_stays : (s t : Slab Node) (root : ℕ) → IsSameShape s t → AreListed s root → AreListed t root
listed_stays s t root same listed = record {
  sorted = λ f.
      ap (λ ks. is_sorted (map (node_child t) ks)) (same.kids f)
      ∙ ap (λ (at : ℕ → Child). is_sorted (map at (node_kids s f))) (fun_ext same.child)
      ∙ listed.sorted f;
  children = λ f k. as_children t f k
      (λ there. same.parent k ∙ kid_parent listed f k (subst (λ ks. In k ks) (same.kids f) there))
      (λ is. subst (λ ks. In k ks) (sym (same.kids f)) (parent_kid listed f k (sym (same.parent k) ∙ is)));
  contents = λ k live.
      same.docs k ∙ listed.contents k (sym (same.live k) ∙ live) ∙ ap (λ (d : Child). not d.folder) (sym (same.child k));
  holders = λ f k is. ap (λ (d : Child). d.folder) (same.child f) ∙ listed.holders f k (sym (same.parent k) ∙ is);
  root_live = same.live root ∙ listed.root_live;
  root_top = same.parent root ∙ listed.root_top;
  root_folder = ap (λ (d : Child). d.folder) (same.child root) ∙ listed.root_folder;
}

-- ---- where versions and places may change

has_doc : (o : Option Node) → option_map_or (λ (x : Node). is_some x.doc) o false ≡ is_some (option_map_or (λ (x : Node). x.doc) o None)
has_doc None = refl
has_doc (Some x) = refl

undated_some : (o : Option Doc) → is_some (option_map undated o) ≡ is_some o
undated_some None = refl
undated_some (Some d) = refl

undated_twice : (o : Option Doc) → option_map undated (option_map undated o) ≡ option_map undated o
undated_twice None = refl
undated_twice (Some d) = refl

undated_at : (o : Option Node) → option_map_or (λ (x : Node). option_map undated x.doc) o None ≡ option_map undated (option_map_or (λ (x : Node). x.doc) o None)
undated_at None = refl
undated_at (Some x) = refl

pub docs_undated : (s t : Slab Node) → SameButNumbers s t → (k : ℕ) → option_map undated (node_doc t k) ≡ option_map undated (node_doc s k)
docs_undated s t same k =
    sym (undated_at (get t k))
    ∙ numbers_field s t same (λ (x : Node). option_map undated x.doc) None (λ x. undated_twice x.doc) k
    ∙ undated_at (get s k)

pub numbers_shape : (s t : Slab Node) → SameButNumbers s t → IsSameShape s t
numbers_shape s t same = record {
  child = numbers_field s t same (λ (x : Node). x.child) no_child (λ x. refl);
  kids = numbers_field s t same (λ (x : Node). x.kids.items) [] (λ x. refl);
  parent = numbers_field s t same (λ (x : Node). x.parent) None (λ x. refl);
  docs = λ k. sym (undated_some (node_doc t k)) ∙ ap is_some (docs_undated s t same k) ∙ undated_some (node_doc s k);
  live = numbers_live s t same;
}

-- ---- documents and their numbers

number_of : (o : Option Node) (d : Doc) → option_map_or (λ (x : Node). x.doc) o None ≡ Some d → option_map_or number o 0 ≡ d.version
number_of None d is = absurd (cc)
number_of (Some x) d is = ap (λ o. option_map_or (λ (e : Doc). e.version) o x.version) is

-- a document's number is its version
pub number_doc : (s : Slab Node) (k : ℕ) (d : Doc) → node_doc s k ≡ Some d → node_number s k ≡ d.version
number_doc s k d is = number_of (get s k) d is

dated : (d e : Doc) → undated e ≡ undated d → e ≡ record d { version = e.version }
dated d e same =
    let Make : ℕ → Doc → Doc = λ v x. record x { version = v } in
    ap (Make e.version) same

-- a document is told by what it is without its version, and its number
pub doc_told : (s : Slab Node) (k : ℕ) (d : Doc) → option_map undated (node_doc s k) ≡ Some (undated d) → node_doc s k ≡ Some (record d { version = node_number s k })
doc_told s k d is = by (node_doc s k) refl is
  where
    by : (o : Option Doc) → node_doc s k ≡ o → option_map undated o ≡ Some (undated d) → node_doc s k ≡ Some (record d { version = node_number s k })
    by None at is = absurd (cc)
    by (Some e) at is =
        let same : undated e ≡ undated d = cc in
        let Make : ℕ → Doc = λ v. record d { version = v } in
        at ∙ ap (λ x. Some x) (dated d e same) ∙ ap (λ v. Some (Make v)) (sym (number_doc s k e at))

-- a document stays where its number does
pub doc_stays : (s t : Slab Node) (k : ℕ) → SameButNumbers s t → node_number t k ≡ node_number s k → node_doc t k ≡ node_doc s k
doc_stays s t k same number = by (node_doc s k) refl (docs_undated s t same k)
  where
    none : (o : Option Doc) → option_map undated o ≡ None → o ≡ None
    none None is = refl
    none (Some d) is = absurd (cc)

    by : (o : Option Doc) → node_doc s k ≡ o → option_map undated (node_doc t k) ≡ option_map undated (node_doc s k) → node_doc t k ≡ node_doc s k
    by None at is = none (node_doc t k) (is ∙ ap (option_map undated) at) ∙ sym at
    by (Some d) at is =
        let Make : ℕ → Doc = λ v. record d { version = v } in
        doc_told t k d (is ∙ ap (option_map undated) at)
        ∙ ap (λ v. Some (Make v)) (number ∙ number_doc s k d at) ∙ sym at
