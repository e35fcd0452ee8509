-- Folders that weren't there, one after another down to the document.
use Rattle.std.proofs.Common.{◌≡◌, ◌≢◌, ◌⊎◌, ◌<◌, ◌≤◌, ℕ, ◌+◌, Bool, true, false, not, ◌||◌, ◌&&◌, cond, nat_le, List, [], ◌∷◌, ◌++◌, length, take, drop, get_or, find, Option, Some, None, is_some, vec_capacity, arith, refl, sym, ap, ◌∙◌, subst, inl, inr, ⊎_elim, length-append, take_all}
use Rattle.std.specs.List.{list_all}
use Rattle.std.proofs.lemmas.Bool.{cases_Bool, cases_lt, true≢false, and_parts}
use Rattle.std.proofs.lemmas.List.{at_drop_more, at_drop_all}
use Rattle.slab.specs.Slab.{Slab, get, ContainsKey, HasRoomFor}
use Rattle.rs_path.specs.declared.child.Child.{Child}
use Rattle.rs_path.specs.Limits.{max_names}
use Rattle.rs_path.specs.Names.{is_name}
use Rattle.rs_path.specs.Paths.{Path, is_nil, is_path}
use Rattle.rs_path.specs.Below.{is_below, is_inside}
use Rattle.rs_path.specs.Children.{child_at, same_child}
use Rattle.rs_rules.specs.declared.doc.Doc.{Doc}
use Rattle.rs_chain.specs.declared.node.Node.{Node}
use Rattle.rs_chain.specs.Nodes.{node_child, node_doc, node_number, node_kids, node_room}
use Rattle.rs_chain.specs.Walks.{onwards, child_in, key_at, step_at, front_at, AreListed}
use Rattle.rs_chain.specs.Shown.{is_placed}
use Rattle.rs_chain.specs.Leaves.{HasLeaf}
use Rattle.rs_chain.specs.Writes.{IsPlaced}
use Rattle.rs_chain.specs.Rooms.{IsFreshNode, AreFresh, IsUnder}
use Rattle.rs_chain.proofs.StepLemmas.{front_next, front_folder}
use Rattle.rs_chain.proofs.TowardsLemmas.{front_below}
use Rattle.rs_chain.proofs.FlagLemmas.{key_flag}
use Rattle.rs_chain.proofs.LeafLemmas.{key_kept, key_leaf, key_back}
use Rattle.rs_chain.proofs.OneMoreLemmas.{gone_live, leaf_of}

-- `now` is `old` with folders above the path
pub record IsGrown (old now : Slab Node) (root : ℕ) (p : Path) : Type 0 where
  pub listed : AreListed now root
  pub kept : (q : Path) (k : ℕ) → key_at old root q ≡ Some k → key_at now root q ≡ Some k
  pub back : (q : Path) (k : ℕ) → key_at now root q ≡ Some k → (key_at old root q ≡ Some k) ⊎ ((is_below q p ≡ true) × (node_doc now k ≡ None))
  pub same : (k : ℕ) → ContainsKey old k → ContainsKey now k × (node_doc now k ≡ node_doc old k) × (node_number now k ≡ node_number old k)

pub grown_first : (old : Slab Node) (root : ℕ) (p : Path) → AreListed old root → IsGrown old old root p
grown_first old root p listed = record {
  listed = listed;
  kept = λ q k there. there;
  back = λ q k there. inl there;
  same = λ k live. (live, refl, refl);
}

front_placed : (p : Path) (depth : ℕ) → depth < length p.names → is_placed (front_at p depth) ≡ true
front_placed p depth within = ap (λ b. b || not (is_nil (take depth p.names))) (front_folder p depth within)

-- the folder of a front is there, and is one
pub front_live : (s : Slab Node) (root f : ℕ) (p : Path) (depth : ℕ) → AreListed s root → depth < length p.names → key_at s root (front_at p depth) ≡ Some f
    → ContainsKey s f × ((node_child s f).folder ≡ true)
front_live s root f p depth listed within here =
    let it = key_flag s root listed (front_at p depth) f (front_placed p depth within) here in
    (it.0, it.1 ∙ front_folder p depth within)

front_whole : (p : Path) (depth : ℕ) → length p.names ≤ depth → front_at p depth ≡ p
front_whole p depth all =
    let Record : List (List ℕ) → Bool → Path = λ ns b. record { names = ns; folder = b } in
    ap (λ ns. Record ns (p.folder || not (is_nil (drop depth p.names)))) (take_all depth p.names all)
    ∙ ap (λ b. Record p.names b) (at_drop_all (λ ns. p.folder || not (is_nil ns)) p.names depth all ∙ or_none p.folder)
  where
    or_none : (b : Bool) → (b || false) ≡ b
    or_none true = refl
    or_none false = refl

module _ (old t u : Slab Node) (root : ℕ) (p : Path) (grown : IsGrown old t root p) (f k : ℕ) (x : Node) (leaf : HasLeaf t u f k x) (listed : AreListed u root)
    (depth : ℕ) (within : depth < length p.names) (here : key_at t root (front_at p depth) ≡ Some f) (named : x.child ≡ step_at p depth) where
  more : (q : Path) (j : ℕ) → key_at t root q ≡ Some j → key_at u root q ≡ Some j
  more q j there = key_kept t u root f k x.child (leaf_of t u f k x leaf root grown.listed listed) q j there

  pub next_front : key_at u root (front_at p (depth + 1)) ≡ Some k
  next_front =
      ap (key_at u root) (front_next p depth within ∙ ap (child_at (front_at p depth)) (sym named))
      ∙ key_leaf t u root f k x.child (leaf_of t u f k x leaf root grown.listed listed) (front_at p depth) (front_folder p depth within) here

  back_one : (q : Path) (j : ℕ) → key_at u root q ≡ Some j → (key_at t root q ≡ Some j) ⊎ ((j ≡ k) × (q ≡ front_at p (depth + 1)))
  back_one q j there =
      ⊎_elim
      (λ was. inl was)
      (λ it. inr (it.0, it.1 ∙ ap (child_at (front_at p depth)) named ∙ sym (front_next p depth within)))
      (key_back t u root f k x.child (leaf_of t u f k x leaf root grown.listed listed) (front_at p depth) q j (front_folder p depth within) here there)

  other_live : (j : ℕ) → ContainsKey t j → j ≢ k
  other_live j live same = gone_live t j k leaf.none live same

  same_one : (j : ℕ) → ContainsKey t j → ContainsKey u j × (node_doc u j ≡ node_doc t j) × (node_number u j ≡ node_number t j)
  same_one j live = (leaf.live j (other_live j live) ∙ live, leaf.doc.others j (other_live j live), leaf.number.others j (other_live j live))

  same_all : (j : ℕ) → ContainsKey old j → ContainsKey u j × (node_doc u j ≡ node_doc old j) × (node_number u j ≡ node_number old j)
  same_all j live =
      let one = grown.same j live in
      let two = same_one j one.0 in
      (two.0, two.1 ∙ one.1, two.2 ∙ one.2)

  -- a folder above the path keeps having no document
  below_kept : (q : Path) (j : ℕ) → key_at t root q ≡ Some j → (key_at old root q ≡ Some j) ⊎ ((is_below q p ≡ true) × (node_doc t j ≡ None))
      → (key_at old root q ≡ Some j) ⊎ ((is_below q p ≡ true) × (node_doc u j ≡ None))
  below_kept q j there was =
      ⊎_elim
      (λ old_one. inl old_one)
      (λ it.
      let folder : q.folder ≡ true = (and_parts q.folder (is_inside q.names p.names) it.0).0 in
      let live : ContainsKey t j = (key_flag t root grown.listed q j (ap (λ b. b || not (is_nil q.names)) folder) there).0 in
      inr (it.0, (same_one j live).1 ∙ it.1))
      was

  -- one folder more
  pub grown_more : depth + 1 < length p.names → x.doc ≡ None → IsGrown old u root p
  grown_more further empty = record {
    listed = listed;
    kept = λ q j there. more q j (grown.kept q j there);
    back = λ q j there.
        ⊎_elim
        (λ was. below_kept q j was (grown.back q j was))
        (λ it. inr (
          ap (λ r. is_below r p) it.1 ∙ front_below p (depth + 1) further,
          ap (node_doc u) it.0 ∙ leaf.doc.here ∙ empty,
        ))
        (back_one q j there);
    same = same_all;
  }

  -- and the document
  pub grown_done : (doc : Doc) → length p.names ≤ depth + 1 → x.doc ≡ Some doc → AreListed old root → IsPlaced old u root p k doc
  grown_done doc all content first = record {
    listed = listed;
    reached = ap (key_at u root) (sym (front_whole p (depth + 1) all)) ∙ next_front;
    has = leaf.doc.here ∙ content;
    kept = λ q j there. more q j (grown.kept q j there);
    back = λ q j there.
        ⊎_elim
        (λ was. ⊎_elim (λ old_one. inl old_one) (λ it. inr (inr it)) (below_kept q j was (grown.back q j was)))
        (λ it. inr (inl (it.1 ∙ front_whole p (depth + 1) all)))
        (back_one q j there);
    same = λ q j is other there. let all_same = same_all j (key_flag old root first q j is there).0 in (all_same.1, all_same.2);
  }

-- ---- the nodes that are left

pub fresh_last : (names : List (List ℕ)) (doc : Doc) (xs rest : List Node) (x : Node) → AreFresh names doc xs → xs ≡ rest ++ x ∷ []
    → (n : List ℕ) × (ns : List (List ℕ)) × (names ≡ n ∷ ns) × IsFreshNode x n ns doc × AreFresh ns doc rest
fresh_last [] doc xs rest x fresh is = absurd (not_nil rest x (sym is ∙ fresh))
  where
    not_nil : (ys : List Node) (y : Node) → ys ++ y ∷ [] ≡ [] → ⊥
    not_nil [] y same = absurd (cc)
    not_nil (z ∷ zs) y same = absurd (cc)
fresh_last (n ∷ ns) doc xs rest x fresh is =
    let same = push_same fresh.1 rest fresh.0 x (sym fresh.2 ∙ is) in
    (n, ns, refl, subst (λ y. IsFreshNode y n ns doc) same.1 fresh.3, subst (λ ys. AreFresh ns doc ys) same.0 fresh.4)
  where
    cons_nil : (ys : List Node) (y : Node) → ys ++ y ∷ [] ≡ [] → ⊥
    cons_nil [] y same = absurd (cc)
    cons_nil (z ∷ zs) y same = absurd (cc)

    push_same : (ys zs : List Node) (y z : Node) → ys ++ y ∷ [] ≡ zs ++ z ∷ [] → (ys ≡ zs) × (y ≡ z)
    push_same [] [] y z same = (refl, cc)
    push_same [] (b ∷ zs) y z same = let tail : [] ≡ zs ++ z ∷ [] = cc in absurd (cons_nil zs z (sym tail))
    push_same (a ∷ ys) [] y z same = let tail : ys ++ y ∷ [] ≡ [] = cc in absurd (cons_nil ys y tail)
    push_same (a ∷ ys) (b ∷ zs) y z same =
        let head : a ≡ b = cc in
        let tail : ys ++ y ∷ [] ≡ zs ++ z ∷ [] = cc in
        let rest = push_same ys zs y z tail in
        (ap (λ c. c ∷ ys) head ∙ ap (λ l. b ∷ l) rest.0, rest.1)

pub fresh_none : (names : List (List ℕ)) (doc : Doc) → AreFresh names doc [] → names ≡ []
fresh_none [] doc fresh = refl
fresh_none (n ∷ ns) doc fresh = absurd (not_nil fresh.1 fresh.0 (sym fresh.2))
  where
    not_nil : (ys : List Node) (y : Node) → ys ++ y ∷ [] ≡ [] → ⊥
    not_nil [] y same = absurd (cc)
    not_nil (z ∷ zs) y same = absurd (cc)

cons_head : (a b : List ℕ) (xs ys : List (List ℕ)) → a ∷ xs ≡ b ∷ ys → a ≡ b
cons_head a b xs ys same = cc

cons_tail : (a b : List ℕ) (xs ys : List (List ℕ)) → a ∷ xs ≡ b ∷ ys → xs ≡ ys
cons_tail a b xs ys same = cc

-- the first name that is left and those behind it
pub left_names : (p : Path) (depth : ℕ) (n : List ℕ) (ns : List (List ℕ)) → depth < length p.names → drop depth p.names ≡ n ∷ ns → (n ≡ get_or p.names depth []) × (ns ≡ drop (depth + 1) p.names)
left_names p depth n ns within is =
    let same : n ∷ ns ≡ get_or p.names depth [] ∷ drop (depth + 1) p.names = sym is ∙ at_drop_more (λ l. l) p.names depth [] within in
    (cons_head n (get_or p.names depth []) ns (drop (depth + 1) p.names) same, cons_tail n (get_or p.names depth []) ns (drop (depth + 1) p.names) same)

-- what the node of the first name is
pub first_named : (p : Path) (depth : ℕ) (n : List ℕ) (ns : List (List ℕ)) (doc : Doc) (x : Node) → p.folder ≡ false → depth < length p.names → drop depth p.names ≡ n ∷ ns → IsFreshNode x n ns doc
    → x.child ≡ step_at p depth
first_named p depth n ns doc x document within is fresh =
    let names = left_names p depth n ns within is in
    let Make : List ℕ → Bool → Child = λ m b. record { name = m; folder = b } in
    fresh.child ∙ ap (λ m. Make m (not (is_nil ns))) names.0
    ∙ ap (Make (get_or p.names depth [])) (ap (λ l. not (is_nil l)) names.1 ∙ ap (λ b. b || not (is_nil (drop (depth + 1) p.names))) (sym document))

-- where no more names are left, it is the document's
pub last_depth : (p : Path) (depth : ℕ) (n : List ℕ) (ns : List (List ℕ)) → depth < length p.names → drop depth p.names ≡ n ∷ ns → is_nil ns ≡ true → length p.names ≤ depth + 1
last_depth p depth n ns within is nil =
    ⊎_elim
    (λ more.
    let names = left_names p depth n ns within is in
    absurd (true≢false (sym (ap is_nil (sym names.1) ∙ nil) ∙ at_drop_more is_nil p.names (depth + 1) [] more)))
    (λ past. past)
    (cases_lt (depth + 1) (length p.names))

pub more_depth : (p : Path) (depth : ℕ) (n : List ℕ) (ns : List (List ℕ)) → depth < length p.names → drop depth p.names ≡ n ∷ ns → is_nil ns ≡ false → depth + 1 < length p.names
more_depth p depth n ns within is some =
    ⊎_elim
    (λ more. more)
    (λ past.
    let names = left_names p depth n ns within is in
    absurd (true≢false (sym (at_drop_all is_nil p.names (depth + 1) past) ∙ ap is_nil (sym names.1) ∙ some)))
    (cases_lt (depth + 1) (length p.names))

-- ---- the loop: nodes are left to be put in, or the document is there

pub record IsGrowing (old now : Slab Node) (root : ℕ) (p : Path) (doc : Doc) (at : ℕ) (fresh : List Node) : Type 0 where
  pub under : IsUnder now root p doc at fresh
  pub grown : IsGrown old now root p

abbrev pub IsGrowingOrDone : Slab Node → Slab Node → ℕ → Path → Doc → ℕ → List Node → Type 0
IsGrowingOrDone old now root p doc at fresh = IsGrowing old now root p doc at fresh ⊎ ((fresh ≡ []) × IsPlaced old now root p at doc)

-- a node of the list is left only where more is to be put in
pub still_growing : (old now : Slab Node) (root : ℕ) (p : Path) (doc : Doc) (at : ℕ) (fresh rest : List Node) (x : Node) → IsGrowingOrDone old now root p doc at fresh → fresh ≡ rest ++ x ∷ []
    → IsGrowing old now root p doc at fresh
still_growing old now root p doc at fresh rest x state is =
    ⊎_elim (λ growing. growing) (λ done. absurd (not_nil rest x (sym is ∙ done.0))) state
  where
    not_nil : (ys : List Node) (y : Node) → ys ++ y ∷ [] ≡ [] → ⊥
    not_nil [] y same = absurd (cc)
    not_nil (z ∷ zs) y same = absurd (cc)

pub grown_whole : (old now : Slab Node) (root : ℕ) (p : Path) (doc : Doc) (at : ℕ) (fresh : List Node) → IsGrowingOrDone old now root p doc at fresh → fresh ≡ [] → IsPlaced old now root p at doc
grown_whole old now root p doc at fresh state none =
    ⊎_elim
    (λ growing.
    let under = growing.under in
    let empty : drop under.depth p.names ≡ [] = fresh_none (drop under.depth p.names) doc (subst (λ l. AreFresh (drop under.depth p.names) doc l) none under.waiting) in
    absurd (true≢false (sym (ap is_nil empty) ∙ at_drop_more is_nil p.names under.depth [] under.within)))
    (λ done. done.1)
    state

no_kid : (s : Slab Node) (k : ℕ) (c : Child) → node_kids s k ≡ [] → child_in s k c ≡ None
no_kid s k c bare = ap (λ ks. find (λ j. same_child c (node_child s j)) ks) bare

-- one node of the list put in
module _ (old t u : Slab Node) (root : ℕ) (p : Path) (doc : Doc) (at k : ℕ) (fresh rest : List Node) (x node : Node) (growing : IsGrowing old t root p doc at fresh) (first : AreListed old root)
    (document : p.folder ≡ false) (is : fresh ≡ rest ++ node ∷ []) (leaf : HasLeaf t u at k x) (listed : AreListed u root) (child : x.child ≡ node.child) (content : x.doc ≡ node.doc)
    (room : node_room u k ≡ vec_capacity node.kids) where
  left : (n : List ℕ) × (ns : List (List ℕ)) × (drop growing.under.depth p.names ≡ n ∷ ns) × IsFreshNode node n ns doc × AreFresh ns doc rest
  left = fresh_last (drop growing.under.depth p.names) doc fresh rest node growing.under.waiting is

  named : x.child ≡ step_at p growing.under.depth
  unfolding left
  named = child ∙ first_named p growing.under.depth left.0 left.1 doc node document growing.under.within left.2 left.3

  fewer : length fresh ≡ length rest + 1
  fewer = let joined = length-append rest (node ∷ []) in let same : length fresh ≡ length (rest ++ node ∷ []) = ap length is in omega (arith, joined, same)

  slots : HasRoomFor u (length rest)
  unfolding fewer
  slots = let room_for = growing.under.slots in let len = leaf.len in let cap = leaf.capacity in omega (arith, room_for, len, cap, fewer)

  pub grow_step : IsGrowingOrDone old u root p doc k rest
  unfolding left
  grow_step =
      let under = growing.under in
      ⊎_elim
      (λ nil.
      let none : rest ≡ [] = no_rest left.1 nil left.4 in
      inr (
        none,
        grown_done old t u root p growing.grown at k x leaf listed under.depth under.within under.front named doc (last_depth p under.depth left.0 left.1 under.within left.2 nil)
            (content ∙ left.3.content ∙ ap (λ b. cond b (Some doc) None) nil) first,
      ))
      (λ some.
      let further = more_depth p under.depth left.0 left.1 under.within left.2 some in
      let names = left_names p under.depth left.0 left.1 under.within left.2 in
      let bare_room : length (node_kids u k) < node_room u k = kid_room (node_kids u k) (node_room u k) leaf.bare (subst (λ c. 0 < c) (sym room) (left.3.room some)) in
      inl (record {
        under = record {
          depth = under.depth + 1;
          within = further;
          front = next_front old t u root p growing.grown at k x leaf listed under.depth under.within under.front named;
          free = no_kid u k (step_at p (under.depth + 1)) leaf.bare;
          waiting = subst (λ l. AreFresh l doc rest) names.1 left.4;
          slots = slots;
          room = bare_room;
        };
        grown = grown_more old t u root p growing.grown at k x leaf listed under.depth under.within under.front named further
            (content ∙ left.3.content ∙ ap (λ b. cond b (Some doc) None) some);
      }))
      (cases_Bool (is_nil left.1))
    where
      no_rest : (ns : List (List ℕ)) → is_nil ns ≡ true → AreFresh ns doc rest → rest ≡ []
      no_rest [] nil fresh_rest = fresh_rest
      no_rest (m ∷ ms) nil fresh_rest = absurd (true≢false (sym nil))

      kid_room : (ks : List ℕ) (room : ℕ) → ks ≡ [] → 0 < room → length ks < room
      kid_room ks room none some = let long : length ks ≡ 0 = ap length none in omega (arith, long, some)

-- ---- the next node of the list is as it is wanted

some_folder : (b : Bool) (doc : Doc) → is_some (cond b (Some doc) None) ≡ not (not b)
some_folder true doc = refl
some_folder false doc = refl

pub record IsNextNode (now : Slab Node) (root : ℕ) (p : Path) (at : ℕ) (node : Node) (rest : List Node) (all : ℕ) : Type 0 where
  pub live : ContainsKey now at
  pub holder : (node_child now at).folder ≡ true
  pub free : child_in now at node.child ≡ None
  pub bare : node.kids.items ≡ []
  pub alone : node.first ≡ None
  pub content : is_some node.doc ≡ not node.child.folder
  pub longer : all ≡ length rest + 1

pub next_node : (old now : Slab Node) (root : ℕ) (p : Path) (doc : Doc) (at : ℕ) (fresh rest : List Node) (node : Node) → p.folder ≡ false → IsGrowing old now root p doc at fresh → fresh ≡ rest ++ node ∷ []
    → IsNextNode now root p at node rest (length fresh)
next_node old now root p doc at fresh rest node document growing is =
    let under = growing.under in
    let split = fresh_last (drop under.depth p.names) doc fresh rest node under.waiting is in
    let named : node.child ≡ step_at p under.depth = first_named p under.depth split.0 split.1 doc node document under.within split.2 split.3 in
    let there = front_live now root at p under.depth growing.grown.listed under.within under.front in
    let joined = length-append rest (node ∷ []) in
    let long : length fresh ≡ length (rest ++ node ∷ []) = ap length is in
    record {
      live = there.0;
      holder = there.1;
      free = ap (child_in now at) named ∙ under.free;
      bare = split.3.bare;
      alone = split.3.alone;
      content = ap is_some split.3.content ∙ some_folder (is_nil split.1) doc ∙ ap (λ (c : Child). not c.folder) (sym split.3.child);
      longer = omega (arith, joined, long);
    }

-- ---- the nodes as they are made

pub fresh_first : (names : List (List ℕ)) (place : ℕ) (doc : Doc) (xs : List Node) (x : Node) (name : List ℕ) → place < length names → length names ≤ place + 1 → xs ≡ x ∷ [] → name ≡ get_or names place []
    → IsFreshNode x name [] doc → AreFresh (drop place names) doc xs
fresh_first names place doc xs x name within last is named fresh =
    let left : drop place names ≡ name ∷ [] =
    at_drop_more (λ l. l) names place [] within ∙ ap (λ n. n ∷ drop (place + 1) names) (sym named) ∙ at_drop_all (λ l. name ∷ l) names (place + 1) last in
    subst (λ l. AreFresh l doc xs) (sym left) (x, [], is, fresh, refl)

pub fresh_more : (names : List (List ℕ)) (place : ℕ) (doc : Doc) (xs ys : List Node) (x : Node) (name : List ℕ) → place + 1 < length names → ys ≡ xs ++ x ∷ [] → name ≡ get_or names place []
    → ((behind : List (List ℕ)) (d : Doc) → is_nil behind ≡ false → IsFreshNode x name behind d) → AreFresh (drop (place + 1) names) doc xs → AreFresh (drop place names) doc ys
fresh_more names place doc xs ys x name further is named fresh rest =
    let left : drop place names ≡ name ∷ drop (place + 1) names =
    at_drop_more (λ l. l) names place [] (omega (arith, further)) ∙ ap (λ n. n ∷ drop (place + 1) names) (sym named) in
    subst (λ l. AreFresh l doc ys) (sym left) (x, xs, is, fresh (drop (place + 1) names) doc (at_drop_more is_nil names (place + 1) [] further), rest)

pub named_of : (p : Path) → is_path p ≡ true → p.folder ≡ false → is_nil p.names ≡ false
named_of p is document =
    let some = (and_parts (list_all is_name p.names && nat_le (length p.names) max_names) (p.folder || not (is_nil p.names)) is).1 in
    by (is_nil p.names) (sym (ap (λ b. b || not (is_nil p.names)) document) ∙ some)
  where
    by : (b : Bool) → not b ≡ true → b ≡ false
    by true other = absurd (true≢false (sym other))
    by false other = refl
