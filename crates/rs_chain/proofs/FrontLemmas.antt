-- The fronts of a path, from the root down: where one has no folder, no longer one has.
use Rattle.std.proofs.Common.{◌≡◌, ◌<◌, ◌≤◌, ℕ, ◌+◌, Bool, true, false, not, ◌||◌, ◌&&◌, cond, List, [], ◌∷◌, ◌++◌, map, length, take, drop, get_or, Option, Some, None, is_some, arith, refl, sym, ap, ◌∙◌, subst, append_assoc, append-nil, length-take}
use Rattle.std.specs.List.{list_any}
use Rattle.std.specs.Option.{option_or}
use Rattle.std.proofs.lemmas.Bool.{cond-true, cond-false, or_parts, and_right, true≢false}
use Rattle.std.proofs.lemmas.List.{at_drop_more, at_drop_all, take_more, take-append-drop}
use Rattle.slab.specs.Slab.{Slab}
use Rattle.rs_path.specs.declared.child.Child.{Child}
use Rattle.rs_path.specs.Paths.{Path, folder_at, document_at, is_nil}
use Rattle.rs_path.specs.Children.{child_at}
use Rattle.rs_rules.specs.declared.placed.Placed.{Placed}
use Rattle.rs_rules.specs.Documents.{has_below}
use Rattle.rs_rules.specs.Contents.{Contents}
use Rattle.rs_rules.specs.Clashes.{first_front, first_document, has_document, clash_in}
use Rattle.rs_chain.specs.declared.node.Node.{Node}
use Rattle.rs_chain.specs.Nodes.{node_doc}
use Rattle.rs_chain.specs.Walks.{onwards, child_in, key_at, AreListed}
use Rattle.rs_chain.specs.Shown.{NodesShow}
use Rattle.rs_chain.proofs.StepLemmas.{key_child}
use Rattle.rs_chain.proofs.ListedLemmas.{doc_there}

-- the first document among the fronts that are left
abbrev pub first_left : List Placed → List (List ℕ) → List (List ℕ) → Option ℕ
first_left docs done [] = None
first_left docs done (name ∷ rest) = first_front (has_document docs) (done ++ name ∷ []) rest

pub first_whole : (docs : List Placed) (names : List (List ℕ)) → first_document docs names ≡ first_left docs [] names
first_whole docs [] = refl
first_whole docs (name ∷ rest) = refl

-- a front that is a document is the first; else the next is looked at
first_here : (docs : List Placed) (done : List (List ℕ)) (name : List ℕ) (rest : List (List ℕ)) → not (is_nil rest) ≡ true → has_document docs (done ++ name ∷ []) ≡ true
    → first_left docs done (name ∷ rest) ≡ Some (length (done ++ name ∷ []))
first_here docs done name [] more hit = absurd (true≢false (sym more))
first_here docs done name (next ∷ rest) more hit = cond-true (has_document docs (done ++ name ∷ [])) _ _ hit

first_past : (docs : List Placed) (done : List (List ℕ)) (name : List ℕ) (rest : List (List ℕ)) → (not (is_nil rest) && has_document docs (done ++ name ∷ [])) ≡ false
    → first_left docs done (name ∷ rest) ≡ first_left docs (done ++ name ∷ []) rest
first_past docs done name [] clear = refl
first_past docs done name (next ∷ rest) clear = cond-false (has_document docs (done ++ name ∷ [])) _ _ clear

-- the same by the number of names
abbrev front : List (List ℕ) → ℕ → List (List ℕ)
front names depth = take depth names

module _ (docs : List Placed) (names : List (List ℕ)) (depth : ℕ) (within : depth < length names) where
  left_is : first_left docs (take depth names) (drop depth names) ≡ first_left docs (take depth names) (get_or names depth [] ∷ drop (depth + 1) names)
  left_is = at_drop_more (first_left docs (take depth names)) names depth [] within

  longer : take (depth + 1) names ≡ take depth names ++ get_or names depth [] ∷ []
  longer = take_more names depth [] within

  pub left_here : not (is_nil (drop (depth + 1) names)) ≡ true → has_document docs (take (depth + 1) names) ≡ true
      → first_left docs (take depth names) (drop depth names) ≡ Some (depth + 1)
  unfolding left_is longer
  left_here more hit =
      let long : length (take (depth + 1) names) ≡ depth + 1 = omega (arith, length-take (depth + 1) names) in
      left_is ∙ first_here docs (take depth names) (get_or names depth []) (drop (depth + 1) names) more (ap (has_document docs) (sym longer) ∙ hit)
      ∙ ap (λ l. Some (length l)) (sym longer) ∙ ap (λ k. Some k) long

  pub left_past : (not (is_nil (drop (depth + 1) names)) && has_document docs (take (depth + 1) names)) ≡ false
      → first_left docs (take depth names) (drop depth names) ≡ first_left docs (take (depth + 1) names) (drop (depth + 1) names)
  unfolding left_is longer
  left_past clear =
      left_is ∙ first_past docs (take depth names) (get_or names depth []) (drop (depth + 1) names) (ap (λ l. not (is_nil (drop (depth + 1) names)) && has_document docs l) (sym longer) ∙ clear)
      ∙ ap (λ l. first_left docs l (drop (depth + 1) names)) (sym longer)

module _ (s : Slab Node) (root : ℕ) (w : Contents) (listed : AreListed s root) (shows : NodesShow s root w) where
  -- the key of a child of a folder that is there, or isn't
  pub front_key : (done : List (List ℕ)) (at : ℕ) (c : Child) → key_at s root (folder_at done) ≡ Some at → key_at s root (child_at (folder_at done) c) ≡ child_in s at c
  front_key done at c here = key_child s root (folder_at done) c refl ∙ ap (λ o. onwards o (λ f. child_in s f c)) here

  front_none : (done : List (List ℕ)) (c : Child) → key_at s root (folder_at done) ≡ None → key_at s root (child_at (folder_at done) c) ≡ None
  front_none done c none = key_child s root (folder_at done) c refl ∙ ap (λ o. onwards o (λ f. child_in s f c)) none

  -- a document at a front
  front_document : (done : List (List ℕ)) (at : ℕ) (name : List ℕ) → key_at s root (folder_at done) ≡ Some at
      → has_document w.docs (done ++ name ∷ []) ≡ is_some (child_in s at (record { name = name; folder = false }))
  front_document done at name here =
      let c : Child = record { name = name; folder = false } in
      ap is_some (shows.documents (document_at (done ++ name ∷ []))) ∙ ap (λ o. is_some (onwards o (node_doc s))) (front_key done at c here)
      ∙ doc_there s root w (folder_at done) at listed shows refl here c refl (child_in s at c) refl

  pub next_document : (names : List (List ℕ)) (depth at : ℕ) → depth < length names → key_at s root (folder_at (take depth names)) ≡ Some at
      → has_document w.docs (take (depth + 1) names) ≡ is_some (child_in s at (record { name = get_or names depth []; folder = false }))
  next_document names depth at within here =
      ap (has_document w.docs) (take_more names depth [] within) ∙ front_document (take depth names) at (get_or names depth []) here

  pub next_folder : (names : List (List ℕ)) (depth at : ℕ) → depth < length names → key_at s root (folder_at (take depth names)) ≡ Some at
      → key_at s root (folder_at (take (depth + 1) names)) ≡ child_in s at (record { name = get_or names depth []; folder = true })
  next_folder names depth at within here =
      ap (λ ns. key_at s root (folder_at ns)) (take_more names depth [] within)
      ∙ front_key (take depth names) at (record { name = get_or names depth []; folder = true }) here

  -- the front that was looked at is no document
  pub step_past : (names : List (List ℕ)) (depth at : ℕ) → depth < length names → key_at s root (folder_at (take depth names)) ≡ Some at
      → (not (is_nil (drop (depth + 1) names)) && is_some (child_in s at (record { name = get_or names depth []; folder = false }))) ≡ false
      → first_left w.docs (take depth names) (drop depth names) ≡ first_left w.docs (take (depth + 1) names) (drop (depth + 1) names)
  step_past names depth at within here clear =
      left_past w.docs names depth within (ap (λ b. not (is_nil (drop (depth + 1) names)) && b) (next_document names depth at within here) ∙ clear)

  no_document : (done : List (List ℕ)) (name : List ℕ) → key_at s root (folder_at done) ≡ None → has_document w.docs (done ++ name ∷ []) ≡ false
  no_document done name none =
      ap is_some (shows.documents (document_at (done ++ name ∷ []))) ∙ ap (λ o. is_some (onwards o (node_doc s))) (front_none done (record { name = name; folder = false }) none)

  -- behind a folder that isn't there is no document, and nothing below
  pub front_leads : (done rest : List (List ℕ)) → key_at s root (folder_at done) ≡ None → first_left w.docs done rest ≡ None
  front_leads done [] none = refl
  front_leads done (name ∷ rest) none =
      first_past w.docs done name rest (and_right (not (is_nil rest)) (has_document w.docs (done ++ name ∷ [])) (no_document done name none))
      ∙ front_leads (done ++ name ∷ []) rest (front_none done (record { name = name; folder = true }) none)

  pub behind_none : (done rest : List (List ℕ)) → key_at s root (folder_at done) ≡ None → key_at s root (folder_at (done ++ rest)) ≡ None
  behind_none done [] none = ap (λ ns. key_at s root (folder_at ns)) (append-nil done) ∙ none
  behind_none done (name ∷ rest) none =
      ap (λ ns. key_at s root (folder_at ns)) (sym (append_assoc done (name ∷ []) rest))
      ∙ behind_none (done ++ name ∷ []) rest (front_none done (record { name = name; folder = true }) none)

  none_below : (names : List (List ℕ)) → key_at s root (folder_at names) ≡ None → has_below (folder_at names) w.docs ≡ false
  none_below names none = (or_parts (is_nil names) (has_below (folder_at names) w.docs) (shows.folders (folder_at names) refl ∙ ap is_some none)).1

  -- a clash by what is left to look at
  pub clash_by : (p : Path) (o : Option ℕ) (b : Bool) → first_document w.docs p.names ≡ o → has_below (folder_at p.names) w.docs ≡ b
      → clash_in w.docs p ≡ option_or o (cond b (Some (length p.names)) None)
  clash_by p o b first below =
      ap (λ x. option_or x (cond (has_below (folder_at p.names) w.docs) (Some (length p.names)) None)) first
      ∙ ap (λ x. option_or o (cond x (Some (length p.names)) None)) below

  pub clash_here : (p : Path) (k : ℕ) → first_document w.docs p.names ≡ Some k → clash_in w.docs p ≡ Some k
  clash_here p k first = ap (λ x. option_or x (cond (has_below (folder_at p.names) w.docs) (Some (length p.names)) None)) first

  -- where a front of the path has no folder, nothing is left
  pub clash_none : (p : Path) (depth : ℕ) → first_document w.docs p.names ≡ first_left w.docs (take depth p.names) (drop depth p.names)
      → key_at s root (folder_at (take depth p.names)) ≡ None → clash_in w.docs p ≡ None
  clash_none p depth first none =
      clash_by p None false (first ∙ front_leads (take depth p.names) (drop depth p.names) none)
      (none_below p.names (ap (λ ns. key_at s root (folder_at ns)) (sym (take-append-drop depth p.names)) ∙ behind_none (take depth p.names) (drop depth p.names) none))

  pub clash_end : (p : Path) (depth : ℕ) (b : Bool) → first_document w.docs p.names ≡ first_left w.docs (take depth p.names) (drop depth p.names) → length p.names ≤ depth
      → has_below (folder_at p.names) w.docs ≡ b → clash_in w.docs p ≡ cond b (Some (length p.names)) None
  clash_end p depth b first all below =
      clash_by p None b (first ∙ at_drop_all (first_left w.docs (take depth p.names)) p.names depth all) below
