-- What nodes show after a Remove.
use Rattle.std.proofs.Common.{◌≡◌, ◌⊎◌, ℕ, Bool, true, false, not, ◌||◌, ◌&&◌, cond, List, [], ◌∷◌, ◌++◌, Option, Some, None, is_some, refl, sym, ap, ◌∙◌, subst, inl, inr, ⊎_elim}
use Rattle.std.specs.Option.{option_map_or}
use Rattle.std.proofs.lemmas.Bool.{cases_Bool, cond-true, cond-false, true≢false, false_from_ne_true, and_parts, and_right, or_left, or_right, or_cases, or_from}
use Rattle.slab.specs.Slab.{Slab, ContainsKey}
use Rattle.rs_path.specs.declared.child.Child.{Child}
use Rattle.rs_path.specs.Paths.{Path, same_path, is_nil, is_root, folder_at}
use Rattle.rs_path.specs.Below.{is_below, is_inside}
use Rattle.rs_path.specs.Children.{child_at}
use Rattle.rs_record.specs.declared.records.Record.TheVariants.{Remove}
use Rattle.rs_rules.specs.declared.doc.Doc.{Doc}
use Rattle.rs_rules.specs.declared.placed.Placed.{Placed}
use Rattle.rs_rules.specs.Documents.{docs_after, doc_in, has_below}
use Rattle.rs_rules.specs.Versions.{is_there, doc_version}
use Rattle.rs_rules.specs.Contents.{Contents, contents_after}
use Rattle.rs_rules.proofs.Cited.{same_itself, same_from, is_there-quiet}
use Rattle.rs_path.proofs.Cited.{is_below-trans}
use Rattle.rs_chain.specs.declared.node.Node.{Node}
use Rattle.rs_chain.specs.Nodes.{node_child, node_doc, node_number, node_kids, SameButNumbers}
use Rattle.rs_chain.specs.Rings.{In, is_in}
use Rattle.rs_chain.specs.Walks.{onwards, child_in, way, steps_of, key_at, AreListed}
use Rattle.rs_chain.specs.Shown.{NodesShow, is_placed}
use Rattle.rs_chain.specs.Writes.{IsPruned, IsUnlinked}
use Rattle.rs_chain.proofs.InLemmas.{kid_parent}
use Rattle.rs_chain.proofs.ContentLemmas.{removed_none, removed_other}
use Rattle.rs_chain.proofs.BelowLemmas.{some_below, below_from}
use Rattle.rs_chain.proofs.LinkLemmas.{parent_live}
use Rattle.rs_chain.proofs.StepLemmas.{not_nil, key_child}
use Rattle.rs_chain.proofs.KidLemmas.{kid_itself}
use Rattle.rs_chain.proofs.KeepLemmas.{numbers_shape}
use Rattle.rs_chain.proofs.FlagLemmas.{number_shown, bare_root, key_flag, folder_bare}
use Rattle.rs_chain.proofs.UpLemmas.{none_inside, up_from, above_there}
use Rattle.rs_chain.proofs.NumberLemmas.{numbered_listed, numbered_key, numbered_here, numbered_above, numbered_other, numbered_doc}

first_of : (ks : List ℕ) → is_nil ks ≡ false → (k : ℕ) × In k ks
first_of [] some = absurd (true≢false some)
first_of (k ∷ ks) some = (k, inl refl)

module _ (s t u : Slab Node) (root n : ℕ) (p front : Path) (key : ℕ) (by : Option (List ℕ)) (w : Contents)
    (document : p.folder ≡ false) (old : AreListed s root) (was : NodesShow s root w) (cut : IsPruned s t root p front key)
    (one_above : (f g : Path) → is_below f p ≡ true → is_below g p ≡ true → (same_path f g || is_below f g || is_below g f) ≡ true)
    (child_below : (c : Child) → is_below front (child_at front c) ≡ front.folder) (placed : is_placed front ≡ true)
    (numbers : (k : ℕ) → node_number u k ≡ cond (is_in k (key ∷ (up_from t root front key cut.listed placed cut.reached).up)) n (node_number t k)) (same : SameButNumbers t u) where
  key_now : (q : Path) → key_at u root q ≡ key_at t root q
  key_now q = numbered_key t u root n front key cut.listed placed cut.reached numbers same q

  now : AreListed u root
  now = numbered_listed t u root n front key cut.listed placed cut.reached numbers same

  -- where nothing is cut off, a path leads where it led
  key_before : (q : Path) → (IsUnlinked p front q → ⊥) → key_at t root q ≡ key_at s root q
  key_before q stays = by_key (key_at s root q) (key_at t root q) refl refl
    where
      by_key : (a b : Option ℕ) → key_at s root q ≡ a → key_at t root q ≡ b → b ≡ a
      by_key a (Some k) one two = sym (cut.kept q k two) ∙ one
      by_key None None one two = refl
      by_key (Some k) None one two =
          ⊎_elim
          (λ there. let clash : None ≡ Some k = sym two ∙ there in absurd (cc))
          (λ off. absurd (stays off))
          (cut.back q k one)

  not_cut : (q : Path) → (q ≡ p → ⊥) → is_below q p ≡ false → IsUnlinked p front q → ⊥
  not_cut q other clear off = ⊎_elim (λ it. other it) (λ it. true≢false (sym it ∙ clear)) off.1

  front_folder : front.folder ≡ true
  front_folder = (and_parts front.folder (is_inside front.names p.names) cut.below).0

  -- the document at another path; a folder has none
  doc_before : (q : Path) → (q ≡ p → ⊥) → onwards (key_at u root q) (node_doc u) ≡ onwards (key_at s root q) (node_doc s)
  doc_before q other =
      ⊎_elim
      (λ is. ap (λ o. onwards o (node_doc u)) (key_now q) ∙ by_key is (key_at s root q) (key_at t root q) refl refl)
      (λ away. bare_root u root now q away ∙ sym (bare_root s root old q away))
      (cases_Bool (is_placed q))
    where
      by_key : is_placed q ≡ true → (a b : Option ℕ) → key_at s root q ≡ a → key_at t root q ≡ b → onwards b (node_doc u) ≡ onwards a (node_doc s)
      by_key is a (Some k) one two =
          let before : key_at s root q ≡ Some k = cut.kept q k two in
          let live : ContainsKey t k = (key_flag t root cut.listed q k is two).0 in
          ⊎_elim
          (λ folder.
          folder_bare u root now q k folder (key_now q ∙ two)
          ∙ sym (ap (λ o. onwards o (node_doc s)) (sym one ∙ before) ∙ folder_bare s root old q k folder before))
          (λ flat.
          numbered_doc t u root n front key cut.listed placed cut.reached numbers same q k is
          (λ it. true≢false (sym front_folder ∙ ap (λ (r : Path). r.folder) (sym it) ∙ flat)) two
          ∙ (cut.same k live).0 ∙ sym (ap (λ o. onwards o (node_doc s)) (sym one ∙ before)))
          (cases_Bool q.folder)
      by_key is None None one two = refl
      by_key is (Some k) None one two =
          ⊎_elim
          (λ there. let clash : None ≡ Some k = sym two ∙ there in absurd (cc))
          (λ off.
          ⊎_elim
          (λ it. absurd (other it))
          (λ it. sym (folder_bare s root old q k (and_parts q.folder (is_inside q.names p.names) it).0 one))
          off.1)
          (cut.back q k one)

  removed_documents : (q : Path) → doc_in q (docs_after n (Remove p by) w.docs) ≡ onwards (key_at u root q) (node_doc u)
  removed_documents q =
      ⊎_elim
      (λ same.
      subst (λ r. doc_in r (docs_after n (Remove p by) w.docs) ≡ onwards (key_at u root r) (node_doc u)) (same_from p q same)
      (removed_none p w.docs ∙ sym (ap (λ o. onwards o (node_doc u)) (key_now p ∙ cut.gone p (cut.below, inl refl)))))
      (λ apart.
      let other : (p ≡ q → ⊥) = λ same. true≢false (sym (same_itself p) ∙ ap (same_path p) same ∙ apart) in
      removed_other p q w.docs other ∙ was.documents q ∙ sym (doc_before q (λ same. other (sym same))))
      (cases_Bool (same_path p q))

  -- ---- folders

  -- where a document is below a folder, the folder is there
  there_above : (q r : Path) → is_below q r ≡ true → is_some (doc_in r (docs_after n (Remove p by) w.docs)) ≡ true → is_some (key_at t root q) ≡ true
  there_above q r below there =
      by_key (key_at t root r) refl (sym (ap is_some (removed_documents r ∙ ap (λ o. onwards o (node_doc u)) (key_now r))) ∙ there)
    where
      by_key : (o : Option ℕ) → key_at t root r ≡ o → is_some (onwards o (node_doc u)) ≡ true → is_some (key_at t root q) ≡ true
      by_key None is none = absurd (true≢false (sym none))
      by_key (Some k) is some =
          ⊎_elim
          (λ is_one. ap is_some (above_there t root r k cut.listed is_one is q below).1)
          (λ away. absurd (true≢false (sym some ∙ ap is_some (sym (ap (λ o. onwards o (node_doc u)) (key_now r ∙ is)) ∙ bare_root u root now r away))))
          (cases_Bool (is_placed r))

  -- a kid of the front has a document at it or below it, which stays
  module _ (k : ℕ) (within : In k (node_kids t key)) where
    kid_key : key_at t root (child_at front (node_child t k)) ≡ Some k
    kid_key =
        key_child t root front (node_child t k) front_folder
        ∙ ap (λ o. onwards o (λ g. child_in t g (node_child t k))) cut.reached ∙ kid_itself t root key k cut.listed within

    kid_below : is_below front (child_at front (node_child t k)) ≡ true
    kid_below = child_below (node_child t k) ∙ front_folder

    kid_live : ContainsKey t k
    kid_live = parent_live t key k (kid_parent cut.listed key k within)

    kid_document : (node_child t k).folder ≡ false → has_below front (docs_after n (Remove p by) w.docs) ≡ true
    kid_document flat =
        let path = child_at front (node_child t k) in
        let shape = numbers_shape t u same in
        below_from front path (docs_after n (Remove p by) w.docs) kid_below
        (ap is_some (removed_documents path ∙ ap (λ o. onwards o (node_doc u)) (key_now path ∙ kid_key)) ∙ shape.docs k ∙ cut.listed.contents k kid_live ∙ ap not flat)

    kid_not_root : is_root (child_at front (node_child t k)) ≡ false
    kid_not_root = and_right (node_child t k).folder (is_nil (child_at front (node_child t k)).names) (not_nil front.names (node_child t k).name)

    kid_folder : (node_child t k).folder ≡ true → has_below front (docs_after n (Remove p by) w.docs) ≡ true
    kid_folder folder =
        let path = child_at front (node_child t k) in
        let there : is_there path w.docs ≡ true = was.folders path folder ∙ ap is_some (cut.kept path k kid_key) in
        let it = some_below path w.docs (sym (ap (λ b. b || has_below path w.docs) kid_not_root) ∙ there) in
        let apart : (p ≡ it.0 → ⊥) = λ same.
        let gone : key_at t root path ≡ None = cut.gone path (kid_below, inr (ap (is_below path) same ∙ it.1)) in
        let clash : None ≡ Some k = sym gone ∙ kid_key in absurd (cc) in
        below_from front it.0 (docs_after n (Remove p by) w.docs) (is_below-trans front path it.0 kid_below it.1)
        (ap is_some (removed_other p it.0 w.docs apart) ∙ it.2)

    kid_left : has_below front (docs_after n (Remove p by) w.docs) ≡ true
    kid_left = ⊎_elim (λ folder. kid_folder folder) (λ flat. kid_document flat) (cases_Bool (node_child t k).folder)

  -- the front is `/` or has a document below it
  front_stays : is_there front (docs_after n (Remove p by) w.docs) ≡ true
  front_stays =
      ⊎_elim
      (λ top. or_left (is_root front) (has_below front (docs_after n (Remove p by) w.docs)) top)
      (λ some. let kid = first_of (node_kids t key) some in or_right (is_root front) (has_below front (docs_after n (Remove p by) w.docs)) (kid_left kid.0 kid.1))
      cut.last

  root_top : (f q : Path) → is_root f ≡ true → is_below q f ≡ true → ⊥
  root_top f q top below = by_names f.names (and_parts f.folder (is_nil f.names) top).1 (and_parts q.folder (is_inside q.names f.names) below).1
    where
      by_names : (ns : List (List ℕ)) → is_nil ns ≡ true → is_inside q.names ns ≡ true → ⊥
      by_names [] nil inside = none_inside q.names inside
      by_names (m ∷ ms) nil inside = true≢false (sym nil)

  -- and so has each folder above it
  above_stays : (q : Path) → is_below q front ≡ true → is_there q (docs_after n (Remove p by) w.docs) ≡ true
  above_stays q below =
      ⊎_elim
      (λ top. absurd (root_top front q top below))
      (λ some.
      let it = some_below front (docs_after n (Remove p by) w.docs) some in
      or_right (is_root q) (has_below q (docs_after n (Remove p by) w.docs))
      (below_from q it.0 (docs_after n (Remove p by) w.docs) (is_below-trans q front it.0 below it.1) it.2))
      (or_cases (is_root front) (has_below front (docs_after n (Remove p by) w.docs)) front_stays)

  -- of the folders above the path, the front and those above it are there
  where_above : (q : Path) → is_below q p ≡ true → ((q ≡ front) ⊎ (is_below q front ≡ true)) ⊎ (is_below front q ≡ true)
  where_above q below =
      ⊎_elim
      (λ same. inl (inl (same_from q front same)))
      (λ rest. ⊎_elim (λ higher. inl (inr higher)) (λ lower. inr lower) (or_cases (is_below q front) (is_below front q) rest))
      (or_cases (same_path q front) (is_below q front || is_below front q) (or_assoc (same_path q front) (is_below q front) (is_below front q) ∙ one_above q front below cut.below))
    where
      or_assoc : (a b c : Bool) → (a || (b || c)) ≡ ((a || b) || c)
      or_assoc true b c = refl
      or_assoc false b c = refl

  root_key : (q : Path) → is_root q ≡ true → key_at t root q ≡ Some root
  root_key q top = by_names q.names (and_parts q.folder (is_nil q.names) top).1
    where
      by_names : (ns : List (List ℕ)) → is_nil ns ≡ true → way (child_in t) root (steps_of ns q.folder) ≡ Some root
      by_names [] nil = refl
      by_names (m ∷ ms) nil = absurd (true≢false (sym nil))

  gone_folder : (q : Path) → key_at t root q ≡ None → is_there q (docs_after n (Remove p by) w.docs) ≡ false
  gone_folder q none =
      or_from (is_root q) (has_below q (docs_after n (Remove p by) w.docs))
      (false_from_ne_true (is_root q) (λ top. let clash : None ≡ Some root = sym none ∙ root_key q top in absurd (cc)))
      (false_from_ne_true (has_below q (docs_after n (Remove p by) w.docs))
      (λ below.
      let it = some_below q (docs_after n (Remove p by) w.docs) below in
      true≢false (sym (there_above q it.0 it.1 it.2) ∙ ap is_some none)))

  -- a folder above the path: there with the number, or gone
  above_shown : (q : Path) → is_below q p ≡ true
      → (is_there q (docs_after n (Remove p by) w.docs) ≡ is_some (key_at t root q)) × (option_map_or (node_number u) (key_at t root q) 0 ≡ cond (is_some (key_at t root q)) n 0)
  above_shown q below =
      ⊎_elim
      (λ high.
      ⊎_elim
      (λ it.
      let here : key_at t root q ≡ Some key = ap (key_at t root) it ∙ cut.reached in (
        ap (λ f. is_there f (docs_after n (Remove p by) w.docs)) it ∙ front_stays ∙ sym (ap is_some here),
        ap (λ o. option_map_or (node_number u) o 0) here ∙ numbered_here t u root n front key cut.listed placed cut.reached numbers same ∙ sym (ap (λ o. cond (is_some o) n 0) here),
      ))
      (λ higher.
      let up = numbered_above t u root n front key cut.listed placed cut.reached numbers same q higher in (
        above_stays q higher ∙ sym (ap is_some up.1),
        ap (λ o. option_map_or (node_number u) o 0) up.1 ∙ up.2 ∙ sym (ap (λ o. cond (is_some o) n 0) up.1),
      ))
      high)
      (λ lower.
      let none : key_at t root q ≡ None = cut.gone q (lower, inr below) in (
        gone_folder q none ∙ sym (ap is_some none),
        ap (λ o. option_map_or (node_number u) o 0) none ∙ sym (ap (λ o. cond (is_some o) n 0) none),
      ))
      (where_above q below)

  not_folder : (q : Path) → q.folder ≡ true → q ≡ p → ⊥
  not_folder q folder same = true≢false (sym folder ∙ ap (λ (r : Path). r.folder) same ∙ document)

  removed_folders : (q : Path) → q.folder ≡ true → is_there q (docs_after n (Remove p by) w.docs) ≡ is_some (key_at u root q)
  removed_folders q folder =
      ⊎_elim
      (λ below. (above_shown q below).0 ∙ sym (ap is_some (key_now q)))
      (λ clear.
      is_there-quiet q n (Remove p by) w.docs clear ∙ was.folders q folder
      ∙ sym (ap is_some (key_now q ∙ key_before q (not_cut q (not_folder q folder) clear))))
      (cases_Bool (is_below q p))

  number_before : (q : Path) → is_placed q ≡ true → (q ≡ p → ⊥) → is_below q p ≡ false
      → option_map_or (node_number u) (key_at u root q) 0 ≡ option_map_or (node_number s) (key_at s root q) 0
  number_before q is other clear = ap (λ o. option_map_or (node_number u) o 0) (key_now q) ∙ by_key (key_at t root q) refl
    where
      not_front : q ≡ front → ⊥
      not_front it = true≢false (sym (ap (λ f. is_below f p) it ∙ cut.below) ∙ clear)

      by_key : (o : Option ℕ) → key_at t root q ≡ o → option_map_or (node_number u) o 0 ≡ option_map_or (node_number s) (key_at s root q) 0
      by_key None two = ap (λ o. option_map_or (node_number s) o 0) (sym two ∙ key_before q (not_cut q other clear))
      by_key (Some k) two =
          numbered_other t u root n front key cut.listed placed cut.reached numbers same q k is not_front
          (false_from_ne_true (is_below q front) (λ below. true≢false (sym (is_below-trans q front p below cut.below) ∙ clear))) two
          ∙ (cut.same k (key_flag t root cut.listed q k is two).0).1
          ∙ ap (λ o. option_map_or (node_number s) o 0) (sym two ∙ key_before q (not_cut q other clear))

  removed_versions : (q : Path) → is_placed q ≡ true → (contents_after n (Remove p by) w).version q ≡ option_map_or (node_number u) (key_at u root q) 0
  removed_versions q is =
      ⊎_elim
      (λ folder.
      cond-true q.folder _ _ folder
      ∙ ⊎_elim
      (λ below.
      cond-true (is_below q p) _ _ below ∙ ap (λ b. cond b n 0) (above_shown q below).0
      ∙ sym (ap (λ o. option_map_or (node_number u) o 0) (key_now q) ∙ (above_shown q below).1))
      (λ clear.
      cond-false (is_below q p) _ _ clear ∙ was.versions q is ∙ sym (number_before q is (not_folder q folder) clear))
      (cases_Bool (is_below q p)))
      (λ flat.
      cond-false q.folder _ _ flat ∙ ap doc_version (removed_documents q) ∙ sym (number_shown u root now q flat is))
      (cases_Bool q.folder)

  pub remove_shows : NodesShow u root (contents_after n (Remove p by) w)
  remove_shows = record { documents = removed_documents; folders = removed_folders; versions = removed_versions }
