-- The node at a path is a folder where the path is one's, and a document else.
use Rattle.std.proofs.Common.{◌≡◌, ℕ, Bool, true, false, not, ◌||◌, List, [], ◌∷◌, ◌++◌, Option, Some, None, is_some, refl, sym, ap, ◌∙◌, ⊎_elim}
use Rattle.std.specs.Option.{option_map_or}
use Rattle.std.proofs.lemmas.Bool.{cases_Bool, true≢false}
use Rattle.slab.specs.Slab.{Slab, get, ContainsKey}
use Rattle.rs_path.specs.declared.child.Child.{Child}
use Rattle.rs_path.specs.Paths.{Path, is_nil}
use Rattle.rs_rules.specs.declared.doc.Doc.{Doc}
use Rattle.rs_rules.specs.Versions.{doc_version}
use Rattle.rs_chain.specs.declared.node.Node.{Node}
use Rattle.rs_chain.specs.Nodes.{node_child, node_doc, node_number}
use Rattle.rs_chain.specs.Walks.{onwards, child_in, way, steps_of, key_at, AreListed}
use Rattle.rs_chain.specs.Shown.{is_placed}
use Rattle.rs_chain.proofs.StepLemmas.{steps_push, way_push}
use Rattle.rs_chain.proofs.WalkLemmas.{child_in_live}
use Rattle.rs_chain.proofs.TraceLemmas.{child_in_name}
use Rattle.rs_chain.proofs.KeepLemmas.{number_doc}

-- a list with an element has a last one
pub last_of : (x : List ℕ) (xs : List (List ℕ)) → (front : List (List ℕ)) × (last : List ℕ) × (x ∷ xs ≡ front ++ last ∷ [])
last_of x [] = ([], x, refl)
last_of x (y ∷ ys) = let rest = last_of y ys in (x ∷ rest.0, rest.1, ap (λ l. x ∷ l) rest.2)

abbrev named : List ℕ → Bool → Child
named name folder = record { name = name; folder = folder }

-- what is at the end of a way
module _ (s : Slab Node) (root : ℕ) (listed : AreListed s root) where
  at_end : (o : Option ℕ) (c : Child) (k : ℕ) → onwards o (λ f. child_in s f c) ≡ Some k → (ContainsKey s k) × (c ≡ node_child s k)
  at_end None c k there = absurd (cc)
  at_end (Some f) c k there = (child_in_live s root f k c listed there, child_in_name s f k c there)

  way_end : (front : List (List ℕ)) (last : List ℕ) (b : Bool) (k : ℕ) → way (child_in s) root (steps_of (front ++ last ∷ []) b) ≡ Some k → (ContainsKey s k) × ((node_child s k).folder ≡ b)
  way_end front last b k there =
      let it = at_end (way (child_in s) root (steps_of front true)) (named last b) k
      (sym (ap (way (child_in s) root) (steps_push front last b) ∙ way_push (child_in s) root (steps_of front true) (named last b)) ∙ there) in
      (it.0, sym (ap (λ (c : Child). c.folder) it.1))

  way_flag : (ns : List (List ℕ)) (b : Bool) (k : ℕ) → (b || not (is_nil ns)) ≡ true → way (child_in s) root (steps_of ns b) ≡ Some k → (ContainsKey s k) × ((node_child s k).folder ≡ b)
  way_flag [] b k placed there =
      let same : root ≡ k = cc in
      let flag : true ≡ b = sym placed ∙ or_none b in
      (ap (λ j. is_some (get s j)) (sym same) ∙ listed.root_live, ap (λ j. (node_child s j).folder) (sym same) ∙ listed.root_folder ∙ flag)
    where
      or_none : (b : Bool) → (b || false) ≡ b
      or_none true = refl
      or_none false = refl
  way_flag (n ∷ ns) b k placed there =
      let split = last_of n ns in
      way_end split.0 split.1 b k (ap (λ l. way (child_in s) root (steps_of l b)) (sym split.2) ∙ there)

  -- a path leads to a node that is there, of its kind
  pub key_flag : (q : Path) (k : ℕ) → is_placed q ≡ true → key_at s root q ≡ Some k → (ContainsKey s k) × ((node_child s k).folder ≡ q.folder)
  key_flag q k placed there = way_flag q.names q.folder k placed there

  none_of : {X : Type 0} (o : Option X) → is_some o ≡ false → o ≡ None
  none_of None none = refl
  none_of (Some x) none = absurd (true≢false none)

  -- a folder has no document
  pub folder_bare : (q : Path) (k : ℕ) → q.folder ≡ true → key_at s root q ≡ Some k → node_doc s k ≡ None
  folder_bare q k folder there =
      let it = key_flag q k (ap (λ b. b || not (is_nil q.names)) folder) there in
      none_of (node_doc s k) (listed.contents k it.0 ∙ ap not (it.1 ∙ folder))

  -- a document's number is its version
  pub number_shown : (q : Path) → q.folder ≡ false → is_placed q ≡ true → option_map_or (node_number s) (key_at s root q) 0 ≡ doc_version (onwards (key_at s root q) (node_doc s))
  number_shown q document placed = by (key_at s root q) refl
    where
      of_doc : (k : ℕ) (o : Option Doc) → node_doc s k ≡ o → is_some o ≡ true → node_number s k ≡ doc_version o
      of_doc k None is there = absurd (true≢false (sym there))
      of_doc k (Some d) is there = number_doc s k d is

      by : (o : Option ℕ) → key_at s root q ≡ o → option_map_or (node_number s) o 0 ≡ doc_version (onwards o (node_doc s))
      by None is = refl
      by (Some k) is =
          let it = key_flag q k placed is in
          of_doc k (node_doc s k) refl (listed.contents k it.0 ∙ ap not (it.1 ∙ document))

  -- and the path of a document without names leads to none
  pub bare_root : (q : Path) → is_placed q ≡ false → onwards (key_at s root q) (node_doc s) ≡ None
  bare_root q away = by q.names q.folder away
    where
      by : (ns : List (List ℕ)) (b : Bool) → (b || not (is_nil ns)) ≡ false → onwards (way (child_in s) root (steps_of ns b)) (node_doc s) ≡ None
      by [] b away = none_of (node_doc s root) (listed.contents root listed.root_live ∙ ap not listed.root_folder)
      by (n ∷ ns) true away = absurd (true≢false away)
      by (n ∷ ns) false away = absurd (true≢false away)
