-- A document taken away, and then each folder that it leaves empty.
use Rattle.std.proofs.Common.{◌≡◌, ◌≢◌, ◌⊎◌, ◌<◌, ℕ, ◌+◌, Bool, true, false, not, ◌||◌, List, [], ◌∷◌, ◌++◌, Option, Some, None, is_some, refl, sym, ap, ◌∙◌, subst, inl, inr, ⊎_elim}
use Rattle.std.proofs.lemmas.Bool.{cases_Bool, cases_eq, true≢false, and_parts, and_from, false_from_ne_true}
use Rattle.slab.specs.Slab.{Slab, get, ContainsKey}
use Rattle.rs_path.specs.declared.child.Child.{Child}
use Rattle.rs_path.specs.Paths.{Path, is_nil, is_root, folder_at}
use Rattle.rs_path.specs.Below.{is_below, is_inside}
use Rattle.rs_path.specs.Children.{child_at}
use Rattle.rs_path.proofs.Cited.{is_below-trans}
use Rattle.rs_chain.specs.declared.node.Node.{Node}
use Rattle.rs_chain.specs.Nodes.{node_child, node_doc, node_number, node_kids, node_parent}
use Rattle.rs_chain.specs.Rings.{In}
use Rattle.rs_chain.specs.Walks.{onwards, child_in, way, steps_of, key_at, AreListed}
use Rattle.rs_chain.specs.Shown.{is_placed}
use Rattle.rs_chain.specs.Leaves.{HasLeaf}
use Rattle.rs_chain.specs.Writes.{IsUnlinked, IsPruned}
use Rattle.rs_chain.proofs.InLemmas.{kid_parent}
use Rattle.rs_chain.proofs.StepLemmas.{not_nil, way_push, steps_push}
use Rattle.rs_chain.proofs.WalkLemmas.{child_in_parent}
use Rattle.rs_chain.proofs.TraceLemmas.{child_in_name}
use Rattle.rs_chain.proofs.TowardsLemmas.{inside_join, on_the_way}
use Rattle.rs_chain.proofs.FlagLemmas.{last_of, key_flag}
use Rattle.rs_chain.proofs.LeafLemmas.{key_kept, key_back, key_lower}
use Rattle.rs_chain.proofs.UpLemmas.{one_path}
use Rattle.rs_chain.proofs.OneMoreLemmas.{gone_live, leaf_of}

-- `now` is `old` without what is cut off behind the front, which is the path or a folder above it
pub record IsCut (old now : Slab Node) (root : ℕ) (path front : Path) (at : ℕ) : Type 0 where
  pub listed : AreListed now root
  pub top : (front ≡ path) ⊎ (is_below front path ≡ true)
  pub reached : key_at now root front ≡ Some at
  pub kept : (q : Path) (k : ℕ) → key_at now root q ≡ Some k → key_at old root q ≡ Some k
  pub back : (q : Path) (k : ℕ) → key_at old root q ≡ Some k → (key_at now root q ≡ Some k) ⊎ IsUnlinked path front q
  pub gone : (q : Path) → IsUnlinked path front q → key_at now root q ≡ None
  pub same : (k : ℕ) → ContainsKey now k → (node_doc now k ≡ node_doc old k) × (node_number now k ≡ node_number old k)

document_above : (p q : Path) → p.folder ≡ false → is_below p q ≡ true → ⊥
document_above p q document below = true≢false (sym (and_parts p.folder (is_inside p.names q.names) below).0 ∙ document)

-- nothing is cut off yet
pub cut_first : (old : Slab Node) (root : ℕ) (p : Path) (at : ℕ) → AreListed old root → p.folder ≡ false → key_at old root p ≡ Some at → IsCut old old root p p at
cut_first old root p at listed document there = record {
  listed = listed;
  top = inl refl;
  reached = there;
  kept = λ q k is. is;
  back = λ q k is. inl is;
  gone = λ q off. absurd (document_above p q document off.0);
  same = λ k live. (refl, refl);
}

-- the folder that a path's node is in
some_in : (s : Slab Node) (root f k : ℕ) (o : Option ℕ) (c : Child) → AreListed s root → onwards o (λ g. child_in s g c) ≡ Some k → node_parent s k ≡ Some f → (o ≡ Some f) × (c ≡ node_child s k)
some_in s root f k None c listed there parent = absurd (cc)
some_in s root f k (Some g) c listed there parent =
    let up : node_parent s k ≡ Some g = child_in_parent s root g k c listed there in
    (same f g (node_parent s k) parent up, child_in_name s g k c there)
  where
    same : (f g : ℕ) (o : Option ℕ) → o ≡ Some f → o ≡ Some g → Some g ≡ Some f
    same f g o one two = sym two ∙ one

pub folder_of : (s : Slab Node) (root f k : ℕ) (q : Path) → AreListed s root → is_nil q.names ≡ false → key_at s root q ≡ Some k → node_parent s k ≡ Some f
    → (front : List (List ℕ)) × (key_at s root (folder_at front) ≡ Some f) × (q ≡ child_at (folder_at front) (node_child s k))
folder_of s root f k q listed named there parent = by q.names q.folder refl named there
  where
    by : (ns : List (List ℕ)) (b : Bool) → q ≡ record { names = ns; folder = b } → is_nil ns ≡ false → way (child_in s) root (steps_of ns b) ≡ Some k
        → (front : List (List ℕ)) × (key_at s root (folder_at front) ≡ Some f) × (q ≡ child_at (folder_at front) (node_child s k))
    by [] b is some path_there = absurd (true≢false some)
    by (n ∷ ns) b is some path_there =
        let split = last_of n ns in
        let c : Child = record { name = split.1; folder = b } in
        let whole : way (child_in s) root (steps_of (split.0 ++ split.1 ∷ []) b) ≡ Some k = ap (λ l. way (child_in s) root (steps_of l b)) (sym split.2) ∙ path_there in
        let it = some_in s root f k (way (child_in s) root (steps_of split.0 true)) c listed
        (sym (ap (way (child_in s) root) (steps_push split.0 split.1 b) ∙ way_push (child_in s) root (steps_of split.0 true) c) ∙ whole) parent in
        let Make : List (List ℕ) → Path = λ l. record { names = l; folder = b } in
        (split.0, it.0, is ∙ ap Make split.2 ∙ ap (child_at (folder_at split.0)) it.1)

child_below : (front : List (List ℕ)) (c : Child) → is_below (folder_at front) (child_at (folder_at front) c) ≡ true
child_below front c = and_from _ _ refl (inside_join front c.name [])

-- one node fewer
module _ (old now next : Slab Node) (root : ℕ) (p front : Path) (at f : ℕ) (x : Node) (cut : IsCut old now root p front at) (leaf : HasLeaf next now f at x) (listed : AreListed next root)
    (up : List (List ℕ)) (here : key_at now root (folder_at up) ≡ Some f) (is : front ≡ child_at (folder_at up) x.child) where
  lower : (q : Path) (k : ℕ) → key_at next root q ≡ Some k → key_at now root q ≡ Some k
  lower q k there = key_kept next now root f at x.child (leaf_of next now f at x leaf root listed cut.listed) q k there

  next_live : (q : Path) (k : ℕ) → is_placed q ≡ true → key_at next root q ≡ Some k → k ≡ at → ⊥
  next_live q k placed there same = gone_live next k at leaf.none (key_flag next root listed q k placed there).0 same

  -- the folder is still there
  next_folder : key_at next root (folder_at up) ≡ Some f
  next_folder = key_lower next now root f at x.child (leaf_of next now f at x leaf root listed cut.listed) (folder_at up) f leaf.apart here

  to : (child_at (folder_at up) x.child ≡ p) ⊎ (is_below (child_at (folder_at up) x.child) p ≡ true)
  to = subst (λ r. (r ≡ p) ⊎ (is_below r p ≡ true)) is cut.top

  up_below : is_below (folder_at up) front ≡ true
  up_below = ap (is_below (folder_at up)) is ∙ child_below up x.child

  front_placed : is_placed front ≡ true
  front_placed = ap is_placed is ∙ ap (λ b. x.child.folder || not b) (not_nil up x.child.name) ∙ all_or x.child.folder
    where
      all_or : (b : Bool) → (b || true) ≡ true
      all_or true = refl
      all_or false = refl

  none_next : (q : Path) → key_at now root q ≡ None → key_at next root q ≡ None
  none_next q none = by (key_at next root q) refl
    where
      by : (o : Option ℕ) → key_at next root q ≡ o → o ≡ None
      by None there = refl
      by (Some k) there = let clash : None ≡ Some k = sym none ∙ lower q k there in absurd (cc)

  gone_front : key_at next root front ≡ None
  gone_front = by (key_at next root front) refl
    where
      by : (o : Option ℕ) → key_at next root front ≡ o → o ≡ None
      by None there = refl
      by (Some k) there =
          let found : Some k ≡ Some at = sym (lower front k there) ∙ cut.reached in
          let same : k ≡ at = cc in
          absurd (next_live front k front_placed there same)

  back_next : (q : Path) (k : ℕ) → key_at old root q ≡ Some k → (key_at next root q ≡ Some k) ⊎ IsUnlinked p (folder_at up) q
  back_next q k there =
      ⊎_elim
      (λ still.
      ⊎_elim
      (λ was. inl was)
      (λ it.
      let same : q ≡ front = it.1 ∙ sym is in
      inr (ap (is_below (folder_at up)) same ∙ up_below, subst (λ r. (r ≡ p) ⊎ (is_below r p ≡ true)) (sym same) cut.top))
      (key_back next now root f at x.child (leaf_of next now f at x leaf root listed cut.listed) (folder_at up) q k refl next_folder still))
      (λ off. inr (is_below-trans (folder_at up) front q up_below off.0, off.1))
      (cut.back q k there)

  gone_next : (q : Path) → IsUnlinked p (folder_at up) q → key_at next root q ≡ None
  gone_next q off =
      ⊎_elim
      (λ it. ap (key_at next root) (it ∙ sym is) ∙ gone_front)
      (λ under. none_next q (cut.gone q (ap (λ r. is_below r q) is ∙ under, off.1)))
      (on_the_way (folder_at up) x.child p q to off.0 off.1)

  pub cut_below : is_below (folder_at up) p ≡ true
  cut_below =
      ⊎_elim
      (λ it. ap (is_below (folder_at up)) (sym it) ∙ up_below)
      (λ under. is_below-trans (folder_at up) front p up_below under)
      cut.top

  pub cut_more : IsCut old next root p (folder_at up) f
  cut_more = record {
    listed = listed;
    top = inr cut_below;
    reached = next_folder;
    kept = λ q k there. cut.kept q k (lower q k there);
    back = back_next;
    gone = gone_next;
    same = λ k live.
        let other : k ≢ at = λ same. gone_live next k at leaf.none live same in
        let was = cut.same k (leaf.live k other ∙ live) in
        (sym (leaf.doc.others k other) ∙ was.0, sym (leaf.number.others k other) ∙ was.1);
  }

pub cut_next : (old now next : Slab Node) (root : ℕ) (p front : Path) (at f : ℕ) (x : Node) → IsCut old now root p front at → HasLeaf next now f at x → AreListed next root → node_parent now at ≡ Some f → is_nil front.names ≡ false
    → (up : List (List ℕ)) × (is_below (folder_at up) p ≡ true) × IsCut old next root p (folder_at up) f
cut_next old now next root p front at f x cut leaf listed parent named =
    let it = folder_of now root f at front cut.listed named cut.reached parent in
    let is : front ≡ child_at (folder_at it.0) x.child = it.2 ∙ ap (child_at (folder_at it.0)) leaf.child.here in (
      it.0,
      cut_below old now next root p front at f x cut leaf listed it.0 it.1 is,
      cut_more old now next root p front at f x cut leaf listed it.0 it.1 is,
    )

pub cut_done : (old now : Slab Node) (root : ℕ) (p front : Path) (at : ℕ) → IsCut old now root p front at → is_below front p ≡ true → (is_root front ≡ true) ⊎ (is_nil (node_kids now at) ≡ false)
    → IsPruned old now root p front at
cut_done old now root p front at cut below last = record {
  listed = cut.listed;
  below = below;
  reached = cut.reached;
  kept = cut.kept;
  back = cut.back;
  gone = cut.gone;
  same = cut.same;
  last = last;
}

-- ---- what may go

-- a path with names leads into a folder
in_some : (s : Slab Node) (root k : ℕ) (o : Option ℕ) (c : Child) → AreListed s root → onwards o (λ g. child_in s g c) ≡ Some k → (g : ℕ) × (node_parent s k ≡ Some g)
in_some s root k None c listed there = absurd (cc)
in_some s root k (Some g) c listed there = (g, child_in_parent s root g k c listed there)

pub has_folder : (s : Slab Node) (root k : ℕ) (q : Path) → AreListed s root → is_nil q.names ≡ false → key_at s root q ≡ Some k → (g : ℕ) × (node_parent s k ≡ Some g)
has_folder s root k q listed named there = by q.names named there
  where
    by : (ns : List (List ℕ)) → is_nil ns ≡ false → way (child_in s) root (steps_of ns q.folder) ≡ Some k → (g : ℕ) × (node_parent s k ≡ Some g)
    by [] some path_there = absurd (true≢false some)
    by (n ∷ ns) some path_there =
        let split = last_of n ns in
        let c : Child = record { name = split.1; folder = q.folder } in
        in_some s root k (way (child_in s) root (steps_of split.0 true)) c listed
        (sym (ap (way (child_in s) root) (steps_push split.0 split.1 q.folder) ∙ way_push (child_in s) root (steps_of split.0 true) c)
        ∙ ap (λ l. way (child_in s) root (steps_of l q.folder)) (sym split.2) ∙ path_there)

-- a document has no children
pub document_bare : (s : Slab Node) (root k : ℕ) (q : Path) → AreListed s root → q.folder ≡ false → is_nil q.names ≡ false → key_at s root q ≡ Some k → node_kids s k ≡ []
document_bare s root k q listed document named there =
    nil_if (node_kids s k)
    (λ i inside.
    true≢false (sym (listed.holders k i (kid_parent listed k i inside)) ∙ (key_flag s root listed q k (ap (λ b. q.folder || not b) named ∙ all_or q.folder) there).1 ∙ document))
  where
    all_or : (b : Bool) → (b || true) ≡ true
    all_or true = refl
    all_or false = refl

    nil_if : (ks : List ℕ) → ((i : ℕ) → In i ks → ⊥) → ks ≡ []
    nil_if [] none = refl
    nil_if (i ∷ is) none = absurd (none i (inl refl))

pub bare_kids : (ks : List ℕ) → not (is_nil ks) ≡ false → ks ≡ []
bare_kids [] none = refl
bare_kids (k ∷ ks) none = absurd (true≢false none)

pub some_kids : (ks : List ℕ) → not (is_nil ks) ≡ true → is_nil ks ≡ false
some_kids [] some = absurd (true≢false (sym some))
some_kids (k ∷ ks) some = refl

-- the root's path has no names
pub root_front : (s : Slab Node) (root : ℕ) (up : List (List ℕ)) → AreListed s root → key_at s root (folder_at up) ≡ Some root → is_root (folder_at up) ≡ true
root_front s root up listed there = ap is_root (one_path s root root (folder_at up) (folder_at []) listed refl refl there refl)

pub other_front : (s : Slab Node) (root at : ℕ) (up : List (List ℕ)) → key_at s root (folder_at up) ≡ Some at → at ≢ root → is_nil up ≡ false
other_front s root at [] there other = let same : at ≡ root = cc in absurd (other same)
other_front s root at (n ∷ ns) there other = refl
