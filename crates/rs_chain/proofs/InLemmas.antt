-- The keys of a list, by a test.
use Rattle.std.proofs.Common.{◌≡◌, ◌⊎◌, ◌↔◌, ℕ, ◌==◌, Bool, true, false, ◌||◌, List, [], ◌∷◌, Option, Some, sym, ap, ◌∙◌, inl, inr, ⊎_elim, eq-eqb, ne_eqb}
use Rattle.std.proofs.lemmas.Bool.{cases_eq, or_right, true≢false}
use Rattle.slab.specs.Slab.{Slab}
use Rattle.rs_chain.specs.declared.node.Node.{Node}
use Rattle.rs_chain.specs.Nodes.{node_kids, node_parent}
use Rattle.rs_chain.specs.Rings.{In, is_in}
use Rattle.rs_chain.specs.Walks.{AreListed}

pub in_true : (k : ℕ) (ks : List ℕ) → In k ks → is_in k ks ≡ true
in_true k [] there = absurd there
in_true k (x ∷ xs) there =
    ⊎_elim
    (λ here. ap (λ b. b || is_in k xs) (eq-eqb k x here))
    (λ rest. or_right (k == x) (is_in k xs) (in_true k xs rest))
    there

pub in_from : (k : ℕ) (ks : List ℕ) → is_in k ks ≡ true → In k ks
in_from k [] there = absurd (true≢false (sym there))
in_from k (x ∷ xs) there =
    ⊎_elim
    (λ here. inl here)
    (λ other. inr (in_from k xs (sym (ap (λ b. b || is_in k xs) (ne_eqb k x other)) ∙ there)))
    (cases_eq k x)

-- the folder of a child, and the child of a folder
pub kid_parent : {s : Slab Node} {root : ℕ} (listed : AreListed s root) (f k : ℕ) → In k (node_kids s f) → node_parent s k ≡ Some f
kid_parent {s} listed f k there = (listed.children f k).0 (in_true k (node_kids s f) there)

pub parent_kid : {s : Slab Node} {root : ℕ} (listed : AreListed s root) (f k : ℕ) → node_parent s k ≡ Some f → In k (node_kids s f)
parent_kid {s} listed f k is = in_from k (node_kids s f) ((listed.children f k).1 is)

pub as_children : (s : Slab Node) (f k : ℕ) → (In k (node_kids s f) → node_parent s k ≡ Some f) → (node_parent s k ≡ Some f → In k (node_kids s f))
    → (is_in k (node_kids s f) ≡ true) ↔ (node_parent s k ≡ Some f)
as_children s f k to from = (λ there. to (in_from k (node_kids s f) there), λ is. in_true k (node_kids s f) (from is))
