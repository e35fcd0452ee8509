-- How many items a folder would have with a document more.
use Rattle.std.proofs.Common.{◌≡◌, ◌<◌, ◌≤◌, ℕ, ◌+◌, Bool, true, false, not, ◌||◌, cond, List, [], ◌∷◌, ◌++◌, map, length, take, drop, get_or, nat_lt, Option, Some, None, is_some, arith, refl, sym, ap, ◌∙◌, append_assoc, length-take, ⊎_elim}
use Rattle.std.specs.List.{list_any}
use Rattle.std.specs.Str.{bytes_eq}
use Rattle.std.proofs.lemmas.Bool.{cond-true, cond-false, cases_lt}
use Rattle.std.proofs.lemmas.Bool.Decides.{nat_tests}
use Rattle.std.proofs.lemmas.List.{at_drop_more, at_drop_all, take_more, take-append-drop, length-map}
use Rattle.std.proofs.lemmas.List.Folds.{list_any-append}
use Rattle.std.proofs.lemmas.Slice.Eq.{bytes_eq-Decides}
use Rattle.slab.specs.Slab.{Slab}
use Rattle.rs_path.specs.declared.child.Child.{Child}
use Rattle.rs_path.specs.Paths.{Path, folder_at, is_nil}
use Rattle.rs_path.specs.Children.{same_child, child_at, child_from, child_towards}
use Rattle.rs_rules.specs.declared.placed.Placed.{Placed}
use Rattle.rs_rules.specs.Limits.{max_items}
use Rattle.rs_rules.specs.Documents.{doc_in, has_below}
use Rattle.rs_rules.specs.Contents.{Contents, paths_in}
use Rattle.rs_rules.specs.Listings.{children}
use Rattle.rs_rules.specs.Clashes.{first_front, is_full, full_in}
use Rattle.rs_rules.specs.Laws.{is_sorted, is_child}
use Rattle.rs_rules.specs.Sound.{are_documents}
use Rattle.rs_chain.specs.declared.node.Node.{Node}
use Rattle.rs_chain.specs.Nodes.{node_child, node_kids}
use Rattle.rs_chain.specs.Walks.{onwards, child_in, key_at, step_at, front_at, AreListed}
use Rattle.rs_chain.specs.Shown.{NodesShow}
use Rattle.rs_chain.proofs.StepLemmas.{key_child, front_folder}
use Rattle.rs_chain.proofs.TowardsLemmas.{all_or, towards_step, towards_front}
use Rattle.rs_chain.proofs.ListedLemmas.{listed_kids, no_children, any_kid}
use Rattle.rs_chain.proofs.CountLemmas.{length_one_more, length_as_before}

-- ---- one path more

or_turned : (a b : Bool) → (a || (b || false)) ≡ (b || a)
or_turned true true = refl
or_turned true false = refl
or_turned false true = refl
or_turned false false = refl

members_more : (f p : Path) (ps : List Path) (c : Child) → child_towards f p ≡ Some c
    → ((qs : List Path) (d : Child) → list_any (same_child d) (children f qs) ≡ list_any (λ q. is_child d (child_towards f q)) qs)
    → (d : Child) → list_any (same_child d) (children f (ps ++ p ∷ [])) ≡ (same_child d c || list_any (same_child d) (children f ps))
members_more f p ps c to members d =
    members (ps ++ p ∷ []) d
    ∙ list_any-append (λ q. is_child d (child_towards f q)) ps (p ∷ [])
    ∙ ap (λ o. list_any (λ q. is_child d (child_towards f q)) ps || (is_child d o || false)) to
    ∙ or_turned (list_any (λ q. is_child d (child_towards f q)) ps) (same_child d c)
    ∙ ap (λ b. same_child d c || b) (sym (members ps d))

-- ---- the first full folder

module _ (docs : List Placed) (p : Path) (depth : ℕ) (within : depth < length p.names) where
  full_step : first_front (is_full docs p) (take depth p.names) (drop depth p.names)
      ≡ cond (is_full docs p (take depth p.names)) (Some (length (take depth p.names))) (first_front (is_full docs p) (take (depth + 1) p.names) (drop (depth + 1) p.names))
  full_step =
      at_drop_more (first_front (is_full docs p) (take depth p.names)) p.names depth [] within
      ∙ ap (λ done. cond (is_full docs p (take depth p.names)) (Some (length (take depth p.names))) (first_front (is_full docs p) done (drop (depth + 1) p.names)))
      (sym (take_more p.names depth [] within))

  pub full_here : is_full docs p (take depth p.names) ≡ true → first_front (is_full docs p) (take depth p.names) (drop depth p.names) ≡ Some depth
  unfolding full_step
  full_here hit =
      let long : length (take depth p.names) ≡ depth = omega (arith, length-take depth p.names) in
      full_step ∙ cond-true (is_full docs p (take depth p.names)) _ _ hit ∙ ap (λ k. Some k) long

  pub full_past : is_full docs p (take depth p.names) ≡ false
      → first_front (is_full docs p) (take depth p.names) (drop depth p.names) ≡ first_front (is_full docs p) (take (depth + 1) p.names) (drop (depth + 1) p.names)
  unfolding full_step
  full_past clear = full_step ∙ cond-false (is_full docs p (take depth p.names)) _ _ clear

pub full_end : (docs : List Placed) (p : Path) (depth : ℕ) → length p.names ≤ depth → first_front (is_full docs p) (take depth p.names) (drop depth p.names) ≡ None
full_end docs p depth all = at_drop_all (first_front (is_full docs p) (take depth p.names)) p.names depth all

front_is : (p : Path) (depth : ℕ) → depth < length p.names → front_at p depth ≡ folder_at (take depth p.names)
front_is p depth within =
    let Record : Bool → Path = λ b. record { names = take depth p.names; folder = b } in
    ap Record (front_folder p depth within)

one_few : (n : ℕ) → n ≡ 1 → nat_lt max_items n ≡ false
one_few n one = grind (arith, nat_tests, one)

pub test_more : (n count : ℕ) → n ≡ count + 1 → max_items ≤ count → nat_lt max_items n ≡ true
test_more n count more most = grind (arith, nat_tests, more, most)

pub test_few : (n count : ℕ) → n ≡ count + 1 → count < max_items → nat_lt max_items n ≡ false
test_few n count more few = grind (arith, nat_tests, more, few)

pub test_over : (n count : ℕ) → n ≡ count → max_items < count → nat_lt max_items n ≡ true
test_over n count same over = grind (arith, nat_tests, same, over)

pub test_within : (n count : ℕ) → n ≡ count → count ≤ max_items → nat_lt max_items n ≡ false
test_within n count same most = grind (arith, nat_tests, same, most)

abbrev named : List ℕ → Bool → Child
named name folder = record { name = name; folder = folder }

module _ (s : Slab Node) (root : ℕ) (w : Contents) (p : Path) (listed : AreListed s root) (shows : NodesShow s root w)
    (members : (f : Path) (qs : List Path) (d : Child) → list_any (same_child d) (children f qs) ≡ list_any (λ q. is_child d (child_towards f q)) qs)
    (sorted : (f : Path) (qs : List Path) → is_sorted (children f qs) ≡ true)
    (documents : (f : Path) (c : Child) → c.folder ≡ false → list_any (same_child c) (children f (paths_in w.docs)) ≡ is_some (doc_in (child_at f c) w.docs))
    (folders : (f : Path) (c : Child) → c.folder ≡ true → list_any (same_child c) (children f (paths_in w.docs)) ≡ has_below (child_at f c) w.docs)
    (plain : are_documents w.docs ≡ true) where
  -- the number of items with the document, by the child that leads to it
  abbrev with_it : ℕ → ℕ
  with_it depth = length (children (folder_at (take depth p.names)) (paths_in w.docs ++ p ∷ []))

  kids_are : (depth key : ℕ) → depth < length p.names → key_at s root (front_at p depth) ≡ Some key
      → map (node_child s) (node_kids s key) ≡ children (folder_at (take depth p.names)) (paths_in w.docs)
  kids_are depth key within here =
      let f = folder_at (take depth p.names) in
      listed_kids s root w f key listed shows refl (ap (key_at s root) (sym (front_is p depth within)) ∙ here) plain (sorted f (paths_in w.docs)) (documents f) (folders f)

  pub count_new : (depth key : ℕ) → depth < length p.names → key_at s root (front_at p depth) ≡ Some key → child_in s key (step_at p depth) ≡ None
      → with_it depth ≡ length (node_kids s key) + 1
  count_new depth key within here none =
      let f = folder_at (take depth p.names) in
      let kids = kids_are depth key within here in
      let fresh : list_any (same_child (step_at p depth)) (children f (paths_in w.docs)) ≡ false =
      ap (list_any (same_child (step_at p depth))) (sym kids) ∙ any_kid s key (step_at p depth) ∙ ap is_some none in
      let more : with_it depth ≡ length (children f (paths_in w.docs)) + 1 =
      length_one_more (step_at p depth) (children f (paths_in w.docs)) (children f (paths_in w.docs ++ p ∷ [])) (sorted f (paths_in w.docs)) (sorted f (paths_in w.docs ++ p ∷ [])) fresh
      (members_more f p (paths_in w.docs) (step_at p depth) (towards_front p depth within) (members f)) in
      let long : length (children f (paths_in w.docs)) ≡ length (node_kids s key) = ap length (sym kids) ∙ length-map (node_kids s key) (node_child s) in
      omega (arith, more, long)

  pub count_old : (depth key k : ℕ) → depth < length p.names → key_at s root (front_at p depth) ≡ Some key → child_in s key (step_at p depth) ≡ Some k
      → with_it depth ≡ length (node_kids s key)
  count_old depth key k within here some =
      let f = folder_at (take depth p.names) in
      let kids = kids_are depth key within here in
      let there : list_any (same_child (step_at p depth)) (children f (paths_in w.docs)) ≡ true =
      ap (list_any (same_child (step_at p depth))) (sym kids) ∙ any_kid s key (step_at p depth) ∙ ap is_some some in
      length_as_before (step_at p depth) (children f (paths_in w.docs)) (children f (paths_in w.docs ++ p ∷ [])) (sorted f (paths_in w.docs)) (sorted f (paths_in w.docs ++ p ∷ [])) there
      (members_more f p (paths_in w.docs) (step_at p depth) (towards_front p depth within) (members f))
      ∙ ap length (sym kids) ∙ length-map (node_kids s key) (node_child s)

  -- behind a folder that isn't there each would have one item
  none_full : (done rest : List (List ℕ)) → done ++ rest ≡ p.names → key_at s root (folder_at done) ≡ None → first_front (is_full w.docs p) done rest ≡ None
  none_full done [] all none = refl
  none_full done (n ∷ ns) all none =
      let f = folder_at done in
      let empty : children f (paths_in w.docs) ≡ [] = no_children s root w f refl shows none (documents f) (folders f) in
      let c = named n (p.folder || not (is_nil ns)) in
      let to : child_towards f p ≡ Some c = ap (λ l. child_from done l p.folder) (sym all) ∙ towards_step done n ns p.folder in
      let more : length (children f (paths_in w.docs ++ p ∷ [])) ≡ length (children f (paths_in w.docs)) + 1 =
      length_one_more c (children f (paths_in w.docs)) (children f (paths_in w.docs ++ p ∷ [])) (sorted f (paths_in w.docs)) (sorted f (paths_in w.docs ++ p ∷ []))
      (ap (list_any (same_child c)) empty) (members_more f p (paths_in w.docs) c to (members f)) in
      let long : length (children f (paths_in w.docs)) ≡ 0 = ap length empty in
      let one : length (children f (paths_in w.docs ++ p ∷ [])) ≡ 1 = omega (arith, more, long) in
      cond-false (is_full w.docs p done) (Some (length done)) (first_front (is_full w.docs p) (done ++ n ∷ []) ns) (one_few _ one)
      ∙ none_full (done ++ n ∷ []) ns (append_assoc done (n ∷ []) ns ∙ all)
      (key_child s root f (named n true) refl ∙ ap (λ o. onwards o (λ g. child_in s g (named n true))) none)

  none_behind : (depth key : ℕ) → depth < length p.names → key_at s root (front_at p depth) ≡ Some key → child_in s key (named (get_or p.names depth []) true) ≡ None
      → first_front (is_full w.docs p) (take (depth + 1) p.names) (drop (depth + 1) p.names) ≡ None
  none_behind depth key within here none =
      let f = folder_at (take depth p.names) in
      none_full (take (depth + 1) p.names) (drop (depth + 1) p.names) (take-append-drop (depth + 1) p.names)
      (ap (λ ns. key_at s root (folder_at ns)) (take_more p.names depth [] within)
      ∙ key_child s root f (named (get_or p.names depth []) true) refl
      ∙ ap (λ o. onwards o (λ g. child_in s g (named (get_or p.names depth []) true))) (ap (key_at s root) (sym (front_is p depth within)) ∙ here) ∙ none)

  pub none_after : (depth key : ℕ) → depth < length p.names → key_at s root (front_at p depth) ≡ Some key → child_in s key (step_at p depth) ≡ None
      → first_front (is_full w.docs p) (take (depth + 1) p.names) (drop (depth + 1) p.names) ≡ None
  none_after depth key within here none =
      ⊎_elim
      (λ more.
      let folder : (p.folder || not (is_nil (drop (depth + 1) p.names))) ≡ true =
      at_drop_more (λ ns. p.folder || not (is_nil ns)) p.names (depth + 1) [] more ∙ sym (all_or p.folder) in
      none_behind depth key within here (ap (λ b. child_in s key (named (get_or p.names depth []) b)) (sym folder) ∙ none))
      (λ last. full_end w.docs p (depth + 1) last)
      (cases_lt (depth + 1) (length p.names))
