-- The climb, a step at a time.
use Rattle.std.proofs.Common.{◌≡◌, ℕ, ◌+◌, ◌≤◌, ◌==◌, Bool, true, false, ◌||◌, cond, List, [], ◌∷◌, length, Option, Some, None, arith, refl, sym, ap, ◌∙◌, subst, inl, inr, ⊎_elim, eq-eqb, ne_eqb}
use Rattle.std.proofs.Math.Path.{fun_ext}
use Rattle.std.proofs.lemmas.Bool.{cond-true, cond-false, cases_eq}
use Rattle.slab.specs.Slab.{Slab, get, ContainsKey}
use Rattle.rs_chain.specs.declared.node.Node.{Node}
use Rattle.rs_chain.specs.Nodes.{node_next, node_prev, node_first, node_parent, node_number, ChangesAt, Stays, SameButNumbers}
use Rattle.rs_chain.specs.Rings.{AreRings, taken_out, put_first, is_in}
use Rattle.rs_chain.specs.Climbs.{Climbs, lifted, AreLinked, Climbed}
use Rattle.rs_chain.proofs.NodeLemmas.{numbers_live, numbers_field, numbers_same}

-- ---- one way up

one_of : (f g : ℕ) (o : Option ℕ) → o ≡ Some f → o ≡ Some g → f ≡ g
one_of f g o one two = cc

pub climbs_same : (parent : ℕ → Option ℕ) (i : ℕ) (fs gs : List ℕ) → Climbs parent i fs → Climbs parent i gs → fs ≡ gs
climbs_same parent i [] [] one two = refl
climbs_same parent i [] (g ∷ gs) one two = absurd (cc (one, two.0))
climbs_same parent i (f ∷ fs) [] one two = absurd (cc (one.0, two))
climbs_same parent i (f ∷ fs) (g ∷ gs) one two =
    let same : f ≡ g = one_of f g (parent i) one.0 two.0 in
    ap (λ h. h ∷ fs) same ∙ ap (λ hs. g ∷ hs) (climbs_same parent g fs gs (subst (λ h. Climbs parent h fs) same one.1) two.1)

climbs_kept : (p q : ℕ → Option ℕ) → Stays p q → (i : ℕ) (fs : List ℕ) → Climbs p i fs → Climbs q i fs
climbs_kept p q same i [] climbs = same i ∙ climbs
climbs_kept p q same i (f ∷ fs) climbs = (same i ∙ climbs.0, climbs_kept p q same f fs climbs.1)

-- ---- rings and links where no link moves

pub rings_kept : (n p m q : ℕ → ℕ) (first now : ℕ → Option ℕ) (order : ℕ → List ℕ) → Stays n m → Stays p q → Stays first now → AreRings n p first order → AreRings m q now order
rings_kept n p m q first now order next prev head rings =
    subst (λ o. AreRings m q o order) (fun_ext (λ j. sym (head j)))
    (subst (λ r. AreRings m r first order) (fun_ext (λ j. sym (prev j))) (subst (λ r. AreRings r p first order) (fun_ext (λ j. sym (next j))) rings))

pub parent_same : (s t : Slab Node) → SameButNumbers s t → Stays (node_parent s) (node_parent t)
parent_same s t same = numbers_field s t same (λ (x : Node). x.parent) None (λ x. refl)

pub linked_kept : (s t : Slab Node) (order : ℕ → List ℕ) → Stays (node_next s) (node_next t) → Stays (node_prev s) (node_prev t) → Stays (node_first s) (node_first t) → SameButNumbers s t
    → AreLinked s order → AreLinked t order
linked_kept s t order next prev head same old =
    let parents = parent_same s t same in
    record {
      rings = rings_kept (node_next s) (node_prev s) (node_next t) (node_prev t) (node_first s) (node_first t) order next prev head old.rings;
      members = λ f i. (λ there. parents i ∙ (old.members f i).0 there, λ is. (old.members f i).1 (sym (parents i) ∙ is));
      held = λ f i is. numbers_live s t same f ∙ old.held f i (sym (parents i) ∙ is);
    }

-- ---- numbers

both_same : {X : Type 0} (b : Bool) (x : X) → cond b x x ≡ x
both_same true x = refl
both_same false x = refl

-- one node more has the number
numbers_more : (old now : ℕ → ℕ) (f n : ℕ) (rest : List ℕ) → ChangesAt old now f n → (key : ℕ) → cond (is_in key rest) n (now key) ≡ cond (is_in key (f ∷ rest)) n (old key)
numbers_more old now f n rest moved key =
    ⊎_elim
    (λ here.
    ap (cond (is_in key rest) n) (ap now here ∙ moved.here) ∙ both_same (is_in key rest) n
    ∙ sym (ap (λ b. cond (b || is_in key rest) n (old key)) (eq-eqb key f here)))
    (λ other.
    ap (cond (is_in key rest) n) (moved.others key other)
    ∙ sym (ap (λ b. cond (b || is_in key rest) n (old key)) (ne_eqb key f other)))
    (cases_eq key f)

-- ---- the climb so far: `at` is reached, `rest` is left

pub record Climbing (old now : Slab Node) (order : ℕ → List ℕ) (from : ℕ) (above : List ℕ) (at n before steps level : ℕ) : Type 0 where
  pub rest : List ℕ
  pub ring : ℕ → List ℕ
  pub climbs : Climbs (node_parent now) at rest
  pub linked : AreLinked now ring
  pub order_is : lifted at rest ring ≡ lifted from above order
  pub numbers : (key : ℕ) → cond (is_in key rest) n (node_number now key) ≡ cond (is_in key (from ∷ above)) n (node_number old key)
  pub same : SameButNumbers old now
  pub steps_left : steps + length rest ≡ before + length above + 1
  pub level_left : level + length rest ≡ length above
  pub there : ContainsKey now at

steps_begin : (before steps n : ℕ) → steps ≡ before + 1 → steps + n ≡ before + n + 1
steps_begin before steps n one = omega (arith, one)

pub climb_begins : (old now : Slab Node) (order : ℕ → List ℕ) (from : ℕ) (above : List ℕ) (n before steps : ℕ) → AreLinked old order → Climbs (node_parent old) from above → ContainsKey old from
    → Stays (node_next old) (node_next now) → Stays (node_prev old) (node_prev now) → Stays (node_first old) (node_first now) → ChangesAt (node_number old) (node_number now) from n → SameButNumbers old now
    → steps ≡ before + 1 → Climbing old now order from above from n before steps 0
climb_begins old now order from above n before steps linked climbs there next prev head moved same one = record {
  rest = above;
  ring = order;
  climbs = climbs_kept (node_parent old) (node_parent now) (parent_same old now same) from above climbs;
  linked = linked_kept old now order next prev head same linked;
  order_is = refl;
  numbers = numbers_more (node_number old) (node_number now) from n above moved;
  same = same;
  steps_left = steps_begin before steps (length above) one;
  level_left = omega arith;
  there = numbers_live old now same from ∙ there;
}

-- a step: the child is put first, and its folder gets the number
module _ (old now last : Slab Node) (order : ℕ → List ℕ) (from : ℕ) (above : List ℕ) (at n before steps more level f : ℕ) (up : node_parent now at ≡ Some f)
    (raised : (ring : ℕ → List ℕ) → AreLinked now ring → AreLinked last (put_first f at (taken_out f at ring)))
    (moved : ChangesAt (node_number now) (node_number last) f n) (same : SameButNumbers now last) (one : more ≡ steps + 1) where
  by_rest : (rest : List ℕ) (ring : ℕ → List ℕ) → Climbs (node_parent now) at rest → AreLinked now ring → lifted at rest ring ≡ lifted from above order
      → ((key : ℕ) → cond (is_in key rest) n (node_number now key) ≡ cond (is_in key (from ∷ above)) n (node_number old key)) → SameButNumbers old now
      → steps + length rest ≡ before + length above + 1 → level + length rest ≡ length above → Climbing old last order from above f n before more (level + 1)
  by_rest [] ring climbs linked order_is numbers was steps_left level_left = absurd (cc (climbs, up))
  by_rest (g ∷ gs) ring climbs linked order_is numbers was steps_left level_left =
      let folder : g ≡ f = one_of g f (node_parent now at) climbs.0 up in
      let onward : Climbs (node_parent now) f gs = subst (λ h. Climbs (node_parent now) h gs) folder climbs.1 in
      record {
        rest = gs;
        ring = put_first f at (taken_out f at ring);
        climbs = climbs_kept (node_parent now) (node_parent last) (parent_same now last same) f gs onward;
        linked = raised ring linked;
        order_is = subst (λ h. lifted h gs (put_first h at (taken_out h at ring)) ≡ lifted from above order) folder order_is;
        numbers = λ key. numbers_more (node_number now) (node_number last) f n gs moved key
            ∙ subst (λ h. cond (is_in key (h ∷ gs)) n (node_number now key) ≡ cond (is_in key (from ∷ above)) n (node_number old key)) folder (numbers key);
        same = numbers_same old now last was same;
        steps_left = omega (arith, one, steps_left);
        level_left = omega (arith, level_left);
        there = numbers_live now last same f ∙ linked.held f at up;
      }

  pub climb_goes : Climbing old now order from above at n before steps level → Climbing old last order from above f n before more (level + 1)
  climb_goes c = by_rest c.rest c.ring c.climbs c.linked c.order_is c.numbers c.same c.steps_left c.level_left

module _ (old now : Slab Node) (order : ℕ → List ℕ) (from : ℕ) (above : List ℕ) (at n before steps level : ℕ) where
  at_end : (rest : List ℕ) (ring : ℕ → List ℕ) → rest ≡ [] → AreLinked now ring → lifted at rest ring ≡ lifted from above order
      → ((key : ℕ) → cond (is_in key rest) n (node_number now key) ≡ cond (is_in key (from ∷ above)) n (node_number old key)) → SameButNumbers old now
      → steps + length rest ≡ before + length above + 1 → Climbed old now order from above n before steps
  at_end [] ring none linked order_is numbers same steps_left = record {
    linked = subst (λ o. AreLinked now o) order_is linked;
    numbers = numbers;
    same = same;
    steps = omega (arith, steps_left);
  }
  at_end (r ∷ rs) ring none linked order_is numbers same steps_left = absurd (cc)

no_more : (parent : ℕ → Option ℕ) (i : ℕ) (rest : List ℕ) → Climbs parent i rest → parent i ≡ None → rest ≡ []
no_more parent i [] climbs none = refl
no_more parent i (f ∷ fs) climbs none = absurd (cc (climbs.0, none))

none_left : (rest : List ℕ) → length rest ≡ 0 → rest ≡ []
none_left [] none = refl
none_left (r ∷ rs) none = absurd (omega (arith, none))

-- the root is reached
pub climb_stops : (old now : Slab Node) (order : ℕ → List ℕ) (from : ℕ) (above : List ℕ) (at n before steps level : ℕ) → node_parent now at ≡ None
    → Climbing old now order from above at n before steps level → Climbed old now order from above n before steps
climb_stops old now order from above at n before steps level none c =
    at_end old now order from above at n before steps level c.rest c.ring (no_more (node_parent now) at c.rest c.climbs none) c.linked c.order_is c.numbers c.same c.steps_left

-- so many levels are all
pub climb_full : (old now : Slab Node) (order : ℕ → List ℕ) (from : ℕ) (above : List ℕ) (at n before steps level : ℕ) → length above ≤ level
    → Climbing old now order from above at n before steps level → Climbed old now order from above n before steps
climb_full old now order from above at n before steps level few c =
    let left = c.level_left in
    let none : length c.rest ≡ 0 = omega (arith, few, left) in
    at_end old now order from above at n before steps level c.rest c.ring (none_left c.rest none) c.linked c.order_is c.numbers c.same c.steps_left
