-- What stays where room alone changes, and where a document's content does.
use Rattle.std.proofs.Common.{◌≡◌, ◌≢◌, ◌⊎◌, ◌↔◌, ℕ, Bool, true, false, not, ◌||◌, List, [], ◌∷◌, find, Option, Some, None, is_some, refl, sym, ap, ◌∙◌, subst, inl, inr, ⊎_elim}
use Rattle.std.proofs.Math.Path.{fun_ext}
use Rattle.std.specs.Option.{option_map, option_map_or}
use Rattle.std.proofs.lemmas.Bool.{cases_eq, true≢false}
use Rattle.slab.specs.Slab.{Slab, get, ContainsKey, with_value}
use Rattle.rs_path.specs.declared.child.Child.{Child}
use Rattle.rs_path.specs.Children.{same_child}
use Rattle.rs_path.specs.Paths.{Path, is_nil}
use Rattle.rs_rules.specs.declared.doc.Doc.{Doc}
use Rattle.rs_rules.specs.Contents.{Contents}
use Rattle.rs_chain.specs.declared.node.Node.{Node}
use Rattle.rs_chain.specs.Nodes.{field, no_child, number, but_kids, but_room, but_doc, node_child, node_doc, node_number, node_kids, node_parent, node_next, node_prev, node_first, Stays, SameButRoom, ReplacesDoc}
use Rattle.rs_chain.specs.Climbs.{AreLinked}
use Rattle.rs_chain.specs.Walks.{onwards, child_in, key_at, AreListed}
use Rattle.rs_chain.specs.Shown.{NodesShow, NodesStandFor, is_placed}
use Rattle.rs_chain.specs.Writes.{IsPlaced}
use Rattle.rs_chain.proofs.NodeLemmas.{Others, view_live, view_field}
use Rattle.rs_chain.proofs.ClimbLemmas.{rings_kept}
use Rattle.rs_chain.proofs.KeepLemmas.{IsSameShape, keys_stay, listed_stays}
use Rattle.rs_chain.proofs.UpLemmas.{one_path}
use Rattle.rs_chain.proofs.FlagLemmas.{key_flag}

pub linked_stays : (s t : Slab Node) (order : ℕ → List ℕ) → Stays (node_next s) (node_next t) → Stays (node_prev s) (node_prev t) → Stays (node_first s) (node_first t) → Stays (node_parent s) (node_parent t)
    → ((k : ℕ) → is_some (get t k) ≡ is_some (get s k)) → AreLinked s order → AreLinked t order
linked_stays s t order next prev head parents live old = record {
  rings = rings_kept (node_next s) (node_prev s) (node_next t) (node_prev t) (node_first s) (node_first t) order next prev head old.rings;
  members = λ f i. (λ there. parents i ∙ (old.members f i).0 there, λ is. (old.members f i).1 (sym (parents i) ∙ is));
  held = λ f i is. live f ∙ old.held f i (sym (parents i) ∙ is);
}

pub shows_stay : (s t : Slab Node) (root : ℕ) (w : Contents) → ((q : Path) → key_at t root q ≡ key_at s root q) → Stays (node_doc s) (node_doc t) → Stays (node_number s) (node_number t)
    → NodesShow s root w → NodesShow t root w
shows_stay s t root w keys docs numbers shows = record {
  documents = λ q.
      shows.documents q ∙ ap (onwards (key_at s root q)) (fun_ext (λ k. sym (docs k))) ∙ ap (λ o. onwards o (node_doc t)) (sym (keys q));
  folders = λ q folder. shows.folders q folder ∙ ap is_some (sym (keys q));
  versions = λ q placed.
      shows.versions q placed ∙ ap (λ (of : ℕ → ℕ). option_map_or of (key_at s root q) 0) (fun_ext (λ k. sym (numbers k)))
      ∙ ap (λ o. option_map_or (node_number t) o 0) (sym (keys q));
}

pub child_stays : (s t : Slab Node) → IsSameShape s t → (f : ℕ) (c : Child) → child_in t f c ≡ child_in s f c
child_stays s t same f c =
    ap (λ ks. find (λ k. same_child c (node_child t k)) ks) (same.kids f)
    ∙ ap (λ (at : ℕ → Child). find (λ k. same_child c (at k)) (node_kids s f)) (fun_ext same.child)

-- ---- room

abbrev Roomless : Type 0
Roomless = Others × List ℕ

module _ (s t : Slab Node) (same : SameButRoom s t) where
  room_field : {X : Type 0} (of : Node → X) (back : Roomless → X) (nothing : X) → ((x : Node) → back (but_room x) ≡ of x) → Stays (field of nothing s) (field of nothing t)
  room_field of back nothing is j =
      sym (view_field but_room of back nothing is (get t j)) ∙ ap (λ o. option_map_or back o nothing) (same.nodes j) ∙ view_field but_room of back nothing is (get s j)

  room_live : (j : ℕ) → is_some (get t j) ≡ is_some (get s j)
  room_live j = sym (view_live but_room (get t j)) ∙ ap is_some (same.nodes j) ∙ view_live but_room (get s j)

  pub room_shape : IsSameShape s t
  room_shape = record {
    child = room_field (λ (x : Node). x.child) (λ o. o.0.0) no_child (λ x. refl);
    kids = room_field (λ (x : Node). x.kids.items) (λ o. o.1) [] (λ x. refl);
    parent = room_field (λ (x : Node). x.parent) (λ o. o.0.3) None (λ x. refl);
    docs = λ k. ap is_some (room_field (λ (x : Node). x.doc) (λ o. o.0.1) None (λ x. refl) k);
    live = room_live;
  }

  pub room_keys : (root : ℕ) (q : Path) → key_at t root q ≡ key_at s root q
  room_keys root q = let shape = room_shape in keys_stay s t root shape.child shape.kids q

  pub room_listed : (root : ℕ) → AreListed s root → AreListed t root
  room_listed root listed = listed_stays s t root room_shape listed

  room_linked : (order : ℕ → List ℕ) → AreLinked s order → AreLinked t order
  room_linked order linked =
      linked_stays s t order (room_field (λ (x : Node). x.next) (λ o. o.0.5) 0 (λ x. refl)) (room_field (λ (x : Node). x.prev) (λ o. o.0.6) 0 (λ x. refl))
      (room_field (λ (x : Node). x.first) (λ o. o.0.4) None (λ x. refl)) (room_field (λ (x : Node). x.parent) (λ o. o.0.3) None (λ x. refl)) room_live linked

  pub room_stands : (root live : ℕ) (w : Contents) → NodesStandFor s root live w → NodesStandFor t root live w
  room_stands root live w stands = record {
    order = stands.order;
    linked = room_linked stands.order stands.linked;
    shows = shows_stay s t root w (room_keys root) (room_field (λ (x : Node). x.doc) (λ o. o.0.1) None (λ x. refl))
        (room_field number (λ o. option_map_or (λ (d : Doc). d.version) o.0.1 o.0.2) 0 (λ x. refl)) stands.shows;
    distinct = stands.distinct;
    plain = stands.plain;
    dated = stands.dated;
    live_is = stands.live_is;
  }

-- ---- content

abbrev Docless : Type 0
Docless = Child × List ℕ × Option ℕ × Option ℕ × ℕ × ℕ

module _ (s t : Slab Node) (key : ℕ) (doc : Doc) (put : ReplacesDoc s t key doc) where
  doc_field : {X : Type 0} (of : Node → X) (back : Docless → X) (nothing : X) → ((x : Node) → back (but_doc x) ≡ of x) → Stays (field of nothing s) (field of nothing t)
  doc_field of back nothing is j =
      sym (view_field but_doc of back nothing is (get t j)) ∙ ap (λ o. option_map_or back o nothing) (put.nodes j) ∙ view_field but_doc of back nothing is (get s j)

  doc_live : (j : ℕ) → is_some (get t j) ≡ is_some (get s j)
  doc_live j = sym (view_live but_doc (get t j)) ∙ ap is_some (put.nodes j) ∙ view_live but_doc (get s j)

  pub replaced_linked : (order : ℕ → List ℕ) → AreLinked s order → AreLinked t order
  replaced_linked order linked =
      linked_stays s t order (doc_field (λ (x : Node). x.next) (λ o. o.4) 0 (λ x. refl)) (doc_field (λ (x : Node). x.prev) (λ o. o.5) 0 (λ x. refl))
      (doc_field (λ (x : Node). x.first) (λ o. o.3) None (λ x. refl)) (doc_field (λ (x : Node). x.parent) (λ o. o.2) None (λ x. refl)) doc_live linked

  module _ (root : ℕ) (p : Path) (listed : AreListed s root) (document : p.folder ≡ false) (placed : is_placed p ≡ true) (there : key_at s root p ≡ Some key) where
    doc_shape : IsSameShape s t
    doc_shape = record {
      child = doc_field (λ (x : Node). x.child) (λ o. o.0) no_child (λ x. refl);
      kids = doc_field (λ (x : Node). x.kids.items) (λ o. o.1) [] (λ x. refl);
      parent = doc_field (λ (x : Node). x.parent) (λ o. o.2) None (λ x. refl);
      docs = λ k.
          ⊎_elim
          (λ same.
          let it = key_flag s root listed p key placed there in
          ap (λ j. is_some (node_doc t j)) same ∙ ap is_some put.doc.here
          ∙ sym (ap (λ j. is_some (node_doc s j)) same ∙ listed.contents key it.0 ∙ ap not (it.1 ∙ document)))
          (λ other. ap is_some (put.doc.others k other))
          (cases_eq k key);
      live = doc_live;
    }

    keys_kept : (q : Path) → key_at t root q ≡ key_at s root q
    keys_kept q = let shape = doc_shape in keys_stay s t root shape.child shape.kids q

    pub replaced_placed : IsPlaced s t root p key doc
    replaced_placed = record {
      listed = listed_stays s t root doc_shape listed;
      reached = keys_kept p ∙ there;
      has = put.doc.here;
      kept = λ q k is. keys_kept q ∙ is;
      back = λ q k is. inl (sym (keys_kept q) ∙ is);
      same = λ q k is other found.
          let apart : k ≢ key = λ same. other (one_path s root key q p listed is placed (found ∙ ap (λ j. Some j) same) there) in
          (put.doc.others k apart, put.number k apart);
    }
