-- The folders above a node are those above its path.
use Rattle.std.proofs.Common.{◌≡◌, ◌⊎◌, ℕ, ◌+◌, ◌==◌, Bool, true, false, not, ◌||◌, List, [], ◌∷◌, length, Option, Some, None, arith, refl, sym, ap, ◌∙◌, subst, inl, inr, ⊎_elim, eq-eqb, ne_eqb}
use Rattle.std.specs.Str.{bytes_eq}
use Rattle.std.proofs.lemmas.Bool.{and_parts, and_from, or_right, cases_eq, true≢false}
use Rattle.std.proofs.lemmas.Slice.Eq.{bytes_eq-Decides}
use Rattle.slab.specs.Slab.{Slab}
use Rattle.rs_path.specs.declared.child.Child.{Child}
use Rattle.rs_path.specs.Paths.{Path, is_nil, folder_at}
use Rattle.rs_path.specs.Below.{is_below, is_inside}
use Rattle.rs_chain.specs.declared.node.Node.{Node}
use Rattle.rs_chain.specs.Nodes.{node_parent}
use Rattle.rs_chain.specs.Climbs.{Climbs}
use Rattle.rs_chain.specs.Rings.{is_in}
use Rattle.rs_chain.specs.Walks.{onwards, child_in, way, steps_of, key_at, AreListed}
use Rattle.rs_chain.specs.Shown.{is_placed}
use Rattle.rs_chain.proofs.WalkLemmas.{child_in_parent, way_some, way_none}
use Rattle.rs_chain.proofs.TraceLemmas.{one_way, steps_names, steps_flag}

-- ---- keys in a list

pub in_head : (i k : ℕ) (ks : List ℕ) → i ≡ k → is_in i (k ∷ ks) ≡ true
in_head i k ks same = ap (λ b. b || is_in i ks) (eq-eqb i k same)

in_tail : (i k : ℕ) (ks : List ℕ) → is_in i ks ≡ true → is_in i (k ∷ ks) ≡ true
in_tail i k ks there = or_right (i == k) (is_in i ks) there

in_cases : (i k : ℕ) (ks : List ℕ) → is_in i (k ∷ ks) ≡ true → (i ≡ k) ⊎ (is_in i ks ≡ true)
in_cases i k ks there =
    ⊎_elim (λ same. inl same) (λ other. inr (sym (ap (λ b. b || is_in i ks) (ne_eqb i k other)) ∙ there)) (cases_eq i k)

-- ---- fronts of names

pub none_inside : (q : List (List ℕ)) → is_inside q [] ≡ true → ⊥
none_inside [] inside = true≢false (sym inside)
none_inside (m ∷ ms) inside = true≢false (sym inside)

inside_more : (q ns : List (List ℕ)) → is_inside q ns ≡ true → is_nil ns ≡ false
inside_more q [] inside = absurd (none_inside q inside)
inside_more q (n ∷ ns) inside = refl

all_or : (b : Bool) → (b || true) ≡ true
all_or true = refl
all_or false = refl

abbrev named : List ℕ → Bool → Child
named name folder = record { name = name; folder = folder }

-- ---- the way up

-- from a node whose folders are `above`, by these names to the key: `up` are the folders above the key
pub record IsUp (s : Slab Node) (at : ℕ) (ns : List (List ℕ)) (key : ℕ) (above : List ℕ) : Type 0 where
  pub up : List ℕ
  pub climbs : Climbs (node_parent s) key up
  pub count : length up ≡ length above + length ns
  pub fronts : (q : List (List ℕ)) → is_inside q ns ≡ true → (j : ℕ) × (way (child_in s) at (steps_of q true) ≡ Some j) × (is_in j up ≡ true)
  pub kept : (j : ℕ) → is_in j above ≡ true → is_in j up ≡ true
  pub only : (j : ℕ) → is_in j up ≡ true → (is_in j above ≡ true) ⊎ ((q : List (List ℕ)) × (is_inside q ns ≡ true) × (way (child_in s) at (steps_of q true) ≡ Some j))

module _ (s : Slab Node) (at k key : ℕ) (n : List ℕ) (ns : List (List ℕ)) (b : Bool) (above : List ℕ) (is : child_in s at (record { name = n; folder = b || not (is_nil ns) }) ≡ Some k) (rest : IsUp s k ns key (at ∷ above)) where
  -- with more names behind it, the step is to a folder
  onward : (q : List (List ℕ)) → is_inside q ns ≡ true → child_in s at (record { name = n; folder = true }) ≡ Some k
  onward q inside =
      let folder : (b || not (is_nil ns)) ≡ true = ap (λ x. b || not x) (inside_more q ns inside) ∙ all_or b in
      ap (λ f. child_in s at (named n f)) (sym folder) ∙ is

  front_up : (q : List (List ℕ)) → is_inside q (n ∷ ns) ≡ true → (j : ℕ) × (way (child_in s) at (steps_of q true) ≡ Some j) × (is_in j rest.up ≡ true)
  front_up [] inside = (at, refl, rest.kept at (in_head at at above refl))
  front_up (m ∷ ms) inside =
      let parts = and_parts (bytes_eq m n) (is_inside ms ns) inside in
      let same : m ≡ n = (bytes_eq-Decides m n).0 parts.0 in
      let deeper = rest.fronts ms parts.1 in (
        deeper.0,
        way_some s at k (named m true) (steps_of ms true) (ap (λ x. child_in s at (named x true)) same ∙ onward ms parts.1) ∙ deeper.1,
        deeper.2,
      )

  only_up : (j : ℕ) → is_in j rest.up ≡ true → (is_in j above ≡ true) ⊎ ((q : List (List ℕ)) × (is_inside q (n ∷ ns) ≡ true) × (way (child_in s) at (steps_of q true) ≡ Some j))
  only_up j there =
      ⊎_elim
      (λ before. ⊎_elim (λ same. inr ([], refl, ap (λ i. Some i) (sym same))) (λ higher. inl higher) (in_cases j at above before))
      (λ it. inr (
        n ∷ it.0,
        and_from _ _ ((bytes_eq-Decides n n).1 refl) it.1,
        way_some s at k (named n true) (steps_of it.0 true) (onward it.0 it.1) ∙ it.2,
      ))
      (rest.only j there)

  one_up : IsUp s at (n ∷ ns) key above
  one_up = record {
    up = rest.up;
    climbs = rest.climbs;
    count = let count = rest.count in omega (arith, count);
    fronts = front_up;
    kept = λ j there. rest.kept j (in_tail j at above there);
    only = only_up;
  }

none_up : (s : Slab Node) (at key : ℕ) (above : List ℕ) → Climbs (node_parent s) at above → at ≡ key → IsUp s at [] key above
none_up s at key above climbs same = record {
  up = above;
  climbs = subst (λ k. Climbs (node_parent s) k above) same climbs;
  count = omega arith;
  fronts = λ q inside. absurd (none_inside q inside);
  kept = λ j there. there;
  only = λ j there. inl there;
}

pub up_of : (s : Slab Node) (root at key : ℕ) (ns : List (List ℕ)) (b : Bool) (above : List ℕ) → AreListed s root → Climbs (node_parent s) at above
    → way (child_in s) at (steps_of ns b) ≡ Some key → IsUp s at ns key above
up_of s root at key [] b above listed climbs there = let same : at ≡ key = cc in none_up s at key above climbs same
up_of s root at key (n ∷ ns) b above listed climbs there =
    by (child_in s at (named n (b || not (is_nil ns)))) refl (λ k more rest. up_of s root k key ns b (at ∷ above) listed more rest)
  where
    by : (o : Option ℕ) → child_in s at (named n (b || not (is_nil ns))) ≡ o
        → ((k : ℕ) → Climbs (node_parent s) k (at ∷ above) → way (child_in s) k (steps_of ns b) ≡ Some key → IsUp s k ns key (at ∷ above))
        → IsUp s at (n ∷ ns) key above
    by None is later =
        let none : None ≡ Some key = sym (way_none s at (named n (b || not (is_nil ns))) (steps_of ns b) is) ∙ there in absurd (cc)
    by (Some k) is later =
        one_up s at k key n ns b above is
        (later k (child_in_parent s root at k (named n (b || not (is_nil ns))) listed is, climbs)
        (sym (way_some s at k (named n (b || not (is_nil ns))) (steps_of ns b) is) ∙ there))

-- ---- the steps of a path tell it

or_none : (b : Bool) → (b || false) ≡ b
or_none true = refl
or_none false = refl

same_flag : (ns : List (List ℕ)) (a b : Bool) → (a || not (is_nil ns)) ≡ true → (b || not (is_nil ns)) ≡ true → steps_of ns a ≡ steps_of ns b → a ≡ b
same_flag [] a b one two same = sym (or_none a) ∙ one ∙ sym two ∙ or_none b
same_flag (n ∷ ns) a b one two same = steps_flag n ns a b same

pub from_steps : (q p : Path) → is_placed q ≡ true → is_placed p ≡ true → steps_of q.names q.folder ≡ steps_of p.names p.folder → q ≡ p
from_steps q p one two same =
    let names : q.names ≡ p.names = steps_names q.names p.names q.folder p.folder same in
    let Record : List (List ℕ) → Bool → Path = λ ns b. record { names = ns; folder = b } in
    let flag : q.folder ≡ p.folder =
    same_flag p.names q.folder p.folder (ap (λ ns. q.folder || not (is_nil ns)) (sym names) ∙ one) two (ap (λ ns. steps_of ns q.folder) (sym names) ∙ same) in
    ap (λ ns. Record ns q.folder) names ∙ ap (λ b. Record p.names b) flag

-- two paths with one key are one
pub one_path : (s : Slab Node) (root k : ℕ) (q p : Path) → AreListed s root → is_placed q ≡ true → is_placed p ≡ true → key_at s root q ≡ Some k → key_at s root p ≡ Some k → q ≡ p
one_path s root k q p listed one two here there =
    from_steps q p one two (one_way s root k (steps_of q.names q.folder) (steps_of p.names p.folder) listed here there)

-- ---- the folders above a path

module _ (s : Slab Node) (root : ℕ) (p : Path) (key : ℕ) (listed : AreListed s root) (placed : is_placed p ≡ true) (reached : key_at s root p ≡ Some key) where
  pub up_from : IsUp s root p.names key []
  up_from = up_of s root root key p.names p.folder [] listed listed.root_top reached

  pub above_there : (q : Path) → is_below q p ≡ true → (j : ℕ) × (key_at s root q ≡ Some j) × (is_in j (key ∷ up_from.up) ≡ true)
  unfolding up_from
  above_there q below =
      let parts = and_parts q.folder (is_inside q.names p.names) below in
      let up = up_from.fronts q.names parts.1 in
      (up.0, ap (λ b. way (child_in s) root (steps_of q.names b)) parts.0 ∙ up.1, in_tail up.0 key up_from.up up.2)

  pub only_above : (q : Path) (j : ℕ) → is_placed q ≡ true → key_at s root q ≡ Some j → is_in j (key ∷ up_from.up) ≡ true → (q ≡ p) ⊎ (is_below q p ≡ true)
  unfolding up_from
  only_above q j is there within =
      ⊎_elim
      (λ same. inl (one_path s root key q p listed is placed (there ∙ ap (λ k. Some k) same) reached))
      (λ higher.
      ⊎_elim
      (λ none. absurd (true≢false (sym none)))
      (λ it.
      let same : q ≡ folder_at it.0 = one_path s root j q (folder_at it.0) listed is refl there it.2 in
      inr (ap (λ f. is_below f p) same ∙ it.1))
      (up_from.only j higher))
      (in_cases j key up_from.up within)
