-- What paths show once a number was given to a node and to the folders above it.
use Rattle.std.proofs.Common.{◌≡◌, ◌⊎◌, ℕ, Bool, true, false, ◌||◌, cond, List, [], ◌∷◌, Option, Some, None, refl, sym, ap, ◌∙◌, ⊎_elim}
use Rattle.std.proofs.lemmas.Bool.{cases_Bool, cond-true, cond-false, true≢false, and_parts}
use Rattle.slab.specs.Slab.{Slab}
use Rattle.rs_path.specs.Paths.{Path, same_path}
use Rattle.rs_path.specs.Below.{is_below, is_inside}
use Rattle.rs_rules.proofs.Cited.{same_itself, same_from}
use Rattle.rs_chain.specs.declared.node.Node.{Node}
use Rattle.rs_chain.specs.Nodes.{node_doc, node_number, undated, SameButNumbers}
use Rattle.rs_chain.specs.Rings.{is_in}
use Rattle.rs_chain.specs.Walks.{key_at, AreListed}
use Rattle.rs_chain.specs.Shown.{is_placed}
use Rattle.rs_chain.proofs.KeepLemmas.{keys_stay, listed_stays, numbers_shape, docs_undated, doc_stays}
use Rattle.rs_chain.proofs.UpLemmas.{in_head, up_from, above_there, only_above}
use Rattle.rs_chain.proofs.FlagLemmas.{folder_bare}

-- in `now` the node at the path and those above it have the number, all else is as in `then`
module _ (s t : Slab Node) (root n : ℕ) (p : Path) (key : ℕ) (listed : AreListed s root) (placed : is_placed p ≡ true) (reached : key_at s root p ≡ Some key)
    (numbers : (k : ℕ) → node_number t k ≡ cond (is_in k (key ∷ (up_from s root p key listed placed reached).up)) n (node_number s k)) (same : SameButNumbers s t) where
  pub numbered_listed : AreListed t root
  numbered_listed = listed_stays s t root (numbers_shape s t same) listed

  pub numbered_key : (q : Path) → key_at t root q ≡ key_at s root q
  numbered_key q = let shape = numbers_shape s t same in keys_stay s t root shape.child shape.kids q

  in_front : is_in key (key ∷ (up_from s root p key listed placed reached).up) ≡ true
  in_front = in_head key key (up_from s root p key listed placed reached).up refl

  pub numbered_here : node_number t key ≡ n
  numbered_here = numbers key ∙ cond-true (is_in key (key ∷ (up_from s root p key listed placed reached).up)) n (node_number s key) in_front

  pub numbered_above : (q : Path) → is_below q p ≡ true → (j : ℕ) × (key_at s root q ≡ Some j) × (node_number t j ≡ n)
  numbered_above q below =
      let up = above_there s root p key listed placed reached q below in
      (up.0, up.1, numbers up.0 ∙ cond-true (is_in up.0 (key ∷ (up_from s root p key listed placed reached).up)) n (node_number s up.0) up.2)

  pub numbered_other : (q : Path) (k : ℕ) → is_placed q ≡ true → (q ≡ p → ⊥) → is_below q p ≡ false → key_at s root q ≡ Some k → node_number t k ≡ node_number s k
  numbered_other q k is other clear there =
      ⊎_elim
      (λ within.
      ⊎_elim
      (λ it. absurd (other it))
      (λ below. absurd (true≢false (sym below ∙ clear)))
      (only_above s root p key listed placed reached q k is there within))
      (λ out. numbers k ∙ cond-false (is_in k (key ∷ (up_from s root p key listed placed reached).up)) n (node_number s k) out)
      (cases_Bool (is_in k (key ∷ (up_from s root p key listed placed reached).up)))

  -- the documents at all other paths stay
  pub numbered_doc : (q : Path) (k : ℕ) → is_placed q ≡ true → (q ≡ p → ⊥) → key_at s root q ≡ Some k → node_doc t k ≡ node_doc s k
  numbered_doc q k is other there =
      ⊎_elim
      (λ below.
      let folder : q.folder ≡ true = (and_parts q.folder (is_inside q.names p.names) below).0 in
      folder_bare t root numbered_listed q k folder (numbered_key q ∙ there) ∙ sym (folder_bare s root listed q k folder there))
      (λ clear. doc_stays s t k same (numbered_other q k is other clear there))
      (cases_Bool (is_below q p))

  -- the number of each node, by its path
  pub numbered_all : (q : Path) (k : ℕ) → is_placed q ≡ true → key_at t root q ≡ Some k → node_number t k ≡ cond (same_path q p || is_below q p) n (node_number s k)
  numbered_all q k is there =
      let was : key_at s root q ≡ Some k = sym (numbered_key q) ∙ there in
      ⊎_elim
      (λ same_one.
      let it : q ≡ p = same_from q p same_one in
      let key_is : Some k ≡ Some key = sym was ∙ ap (key_at s root) it ∙ reached in
      let here : k ≡ key = cc in
      ap (node_number t) here ∙ numbered_here ∙ sym (ap (λ b. cond (b || is_below q p) n (node_number s k)) same_one))
      (λ apart.
      ⊎_elim
      (λ below.
      let up = numbered_above q below in
      let key_is : Some k ≡ Some up.0 = sym was ∙ up.1 in
      let here : k ≡ up.0 = cc in
      ap (node_number t) here ∙ up.2 ∙ sym (ap (λ b. cond (b || is_below q p) n (node_number s k)) apart ∙ ap (λ b. cond b n (node_number s k)) below))
      (λ clear.
      numbered_other q k is (λ it. true≢false (sym (ap (λ r. same_path r p) it ∙ same_itself p) ∙ apart)) clear was
      ∙ sym (ap (λ b. cond (b || is_below q p) n (node_number s k)) apart ∙ ap (λ b. cond b n (node_number s k)) clear))
      (cases_Bool (is_below q p)))
      (cases_Bool (same_path q p))
