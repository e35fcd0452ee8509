-- A child that is put first among its siblings.
use Rattle.std.proofs.Common.{◌≡◌, ◌⊎◌, ◌↔◌, ℕ, List, [], ◌∷◌, Option, Some, None, is_some, true, refl, sym, ap, ◌∙◌, subst, inl, inr, ⊎_elim}
use Rattle.std.specs.Option.{option_map_or}
use Rattle.std.proofs.lemmas.Bool.{cases_eq}
use Rattle.slab.specs.Slab.{Slab, get, ContainsKey}
use Rattle.rs_chain.specs.declared.node.Node.{Node}
use Rattle.rs_chain.specs.Nodes.{node_next, node_prev, node_first, node_parent, Stays, SameButLinks}
use Rattle.rs_chain.specs.Rings.{In, Lacks, AreRings, without_key, taken_out, put_first}
use Rattle.rs_chain.specs.Climbs.{AreLinked, Climbs}
use Rattle.rs_chain.proofs.NodeLemmas.{links_live, links_field}
use Rattle.rs_chain.proofs.RingLemmas.{lacks_if, lacks_not, without_in, without_it, without_other}
use Rattle.rs_chain.proofs.OrderLemmas.{with_ring_here, with_ring_other, with_ring_in}

module _ (order : ℕ → List ℕ) (f x : ℕ) where
  pub out_in : (g j : ℕ) → In j (taken_out f x order g) → In j (order g)
  out_in g j here =
      ⊎_elim
      (λ one. subst (λ h. In j (order h)) (sym one.0) (without_in j x (order f) one.1))
      (λ other. other.1)
      (with_ring_in f (without_key x (order f)) order g j here)

  pub out_from : (g j : ℕ) → (j ≡ x → ⊥) → In j (order g) → In j (taken_out f x order g)
  out_from g j other there =
      ⊎_elim
      (λ here. subst (λ l. In j l) (sym (with_ring_here f (without_key x (order f)) order g here)) (without_other j x (order f) other (subst (λ h. In j (order h)) here there)))
      (λ away. subst (λ l. In j l) (sym (with_ring_other f (without_key x (order f)) order g away)) there)
      (cases_eq g f)

  pub first_in : (g j : ℕ) → In j (put_first f x order g) → ((g ≡ f) × (j ≡ x)) ⊎ In j (order g)
  first_in g j here =
      ⊎_elim
      (λ one. ⊎_elim (λ it. inl (one.0, it)) (λ rest. inr (subst (λ h. In j (order h)) (sym one.0) rest)) one.1)
      (λ other. inr other.1)
      (with_ring_in f (x ∷ order f) order g j here)

  pub first_it : (g j : ℕ) → g ≡ f → j ≡ x → In j (put_first f x order g)
  first_it g j here same = subst (λ l. In j l) (sym (with_ring_here f (x ∷ order f) order g here)) (inl same)

  pub first_from : (g j : ℕ) → In j (order g) → In j (put_first f x order g)
  first_from g j there =
      ⊎_elim
      (λ here. subst (λ l. In j l) (sym (with_ring_here f (x ∷ order f) order g here)) (inr (subst (λ h. In j (order h)) here there)))
      (λ away. subst (λ l. In j l) (sym (with_ring_other f (x ∷ order f) order g away)) there)
      (cases_eq g f)

  -- a child that is taken out is in no ring
  pub out_of_all : ((g h j : ℕ) → In j (order g) → In j (order h) → g ≡ h) → Lacks x (without_key x (order f)) → In x (order f) → (g : ℕ) → Lacks x (taken_out f x order g)
  out_of_all lone gone there g =
      ⊎_elim
      (λ here. subst (λ l. Lacks x l) (sym (with_ring_here f (without_key x (order f)) order g here)) gone)
      (λ away. subst (λ l. Lacks x l) (sym (with_ring_other f (without_key x (order f)) order g away)) (lacks_if x (order g) (λ other. away (lone g f x other there))))
      (cases_eq g f)

-- the parent of a node that only changed its place
pub parent_kept : (s t : Slab Node) → SameButLinks s t → Stays (node_parent s) (node_parent t)
parent_kept s t same = links_field s t same (λ (x : Node). x.parent) None (λ x. refl)

one_parent : (f g : ℕ) (o : Option ℕ) → o ≡ Some f → o ≡ Some g → g ≡ f
one_parent f g o one two = cc

module _ (s t : Slab Node) (order : ℕ → List ℕ) (f x : ℕ) (old : AreLinked s order) (child : node_parent s x ≡ Some f) (same : SameButLinks s t) where
  to_member : (g i : ℕ) → In i (put_first f x (taken_out f x order) g) → node_parent t i ≡ Some g
  to_member g i there =
      parent_kept s t same i
      ∙ ⊎_elim
      (λ it. ap (node_parent s) it.1 ∙ child ∙ ap (λ h. Some h) (sym it.0))
      (λ other. (old.members g i).0 (out_in order f x g i other))
      (first_in (taken_out f x order) f x g i there)

  from_member : (g i : ℕ) → node_parent t i ≡ Some g → In i (put_first f x (taken_out f x order) g)
  from_member g i is =
      let was : node_parent s i ≡ Some g = sym (parent_kept s t same i) ∙ is in
      ⊎_elim
      (λ it. first_it (taken_out f x order) f x g i (one_parent f g (node_parent s x) child (ap (node_parent s) (sym it) ∙ was)) it)
      (λ other. first_from (taken_out f x order) f x g i (out_from order f x g i other ((old.members g i).1 was)))
      (cases_eq i x)

  pub raised : AreRings (node_next t) (node_prev t) (node_first t) (put_first f x (taken_out f x order)) → AreLinked t (put_first f x (taken_out f x order))
  raised rings = record {
    rings = rings;
    members = λ g i. (to_member g i, from_member g i);
    held = λ g i is. links_live s t same g ∙ old.held g i (sym (parent_kept s t same i) ∙ is);
  }

  -- what is put first was in no ring before
  pub raised_fresh : (g : ℕ) → Lacks x (taken_out f x order g)
  raised_fresh = out_of_all order f x old.rings.lone (without_it x (order f) (old.rings.apart f)) ((old.members f x).1 child)

-- who has a parent is there
has_parent : (f : ℕ) (o : Option Node) → option_map_or (λ (x : Node). x.parent) o None ≡ Some f → is_some o ≡ true
has_parent f None is = absurd (cc)
has_parent f (Some x) is = refl

pub parent_live : (s : Slab Node) (f k : ℕ) → node_parent s k ≡ Some f → ContainsKey s k
parent_live s f k is = has_parent f (get s k) is

pub members_live : (s : Slab Node) (order : ℕ → List ℕ) → AreLinked s order → (f k : ℕ) → In k (order f) → ContainsKey s k
members_live s order linked f k there = parent_live s f k ((linked.members f k).0 there)
