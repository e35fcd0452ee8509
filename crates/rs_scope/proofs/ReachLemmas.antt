-- What scopes reach: no module's path is another's.
use Rattle.std.proofs.Common.{◌≡◌, ℕ, Bool, true, false, ◌&&◌, ◌||◌, List, [], ◌∷◌, get_or, refl, sym, ap, ◌∙◌, ◌⊎◌, inl, inr, ⊎_elim, arith}
use Rattle.std.specs.List.{list_any}
use Rattle.std.specs.Str.{bytes_eq}
use Rattle.std.proofs.lemmas.Bool.{cases_Bool}
use Rattle.std.proofs.lemmas.Bool.Decides.{nat_tests}
use Rattle.std.proofs.lemmas.Slice.Eq.{bytes_eq-Decides}
use Rattle.rs_path.specs.Paths.{Path}
use Rattle.rs_scope.specs.declared.method.Method.{Method}
use Rattle.rs_scope.specs.declared.method.Method.TheVariants.{Get}
use Rattle.rs_scope.specs.declared.scope.Reach.TheVariants.{Module}
use Rattle.rs_scope.specs.declared.scope.Scope.{Scope}
use Rattle.rs_scope.specs.Modules.{is_module, public_name}
use Rattle.rs_scope.specs.Reach.{is_reading, is_within, module_folder, public_folder, covers, allows, reach_of}
use Rattle.rs_scope.proofs.ScopeLemmas.{HasModule-from}

-- whose path it is: the first name, or the second behind `public`
abbrev Owner : List ℕ → List (List ℕ) → Type 0
Owner name names = (name ≡ get_or names 0 []) ⊎ ((public_name ≡ get_or names 0 []) × (name ≡ get_or names 1 []))

bool_or : (a b : Bool) → (a || b) ≡ true → (a ≡ true) ⊎ (b ≡ true)
bool_or true b h = inl refl
bool_or false b h = inr h

within_module : (name : List ℕ) (names : List (List ℕ)) (folder : Bool) → is_within (module_folder name) (record { names = names; folder = folder }) ≡ true → name ≡ get_or names 0 []
within_module name [] true within = absurd (cc)
within_module name [] false within = absurd (cc)
within_module name (first ∷ rest) folder within =
    ⊎_elim
    (λ same. (bytes_eq-Decides name first).0 same)
    (λ other. let wrong : is_within (module_folder name) (record { names = first ∷ rest; folder = folder }) ≡ false = rw other refl in absurd (cc (wrong, within)))
    (cases_Bool (bytes_eq name first))

within_public : (name : List ℕ) (names : List (List ℕ)) (folder : Bool) → is_within (public_folder name) (record { names = names; folder = folder }) ≡ true
    → (public_name ≡ get_or names 0 []) × (name ≡ get_or names 1 [])
within_public name [] true within = absurd (cc)
within_public name [] false within = absurd (cc)
within_public name (first ∷ rest) folder within =
    ⊎_elim
    (λ same. ((bytes_eq-Decides public_name first).0 same, within_module name rest folder (rw same at within)))
    (λ other. let wrong : is_within (public_folder name) (record { names = first ∷ rest; folder = folder }) ≡ false = rw other refl in absurd (cc (wrong, within)))
    (cases_Bool (bytes_eq public_name first))

owner : (name : List ℕ) (path : Path) → covers (Module name) path ≡ true → Owner name path.names
owner name path covered =
    ⊎_elim
    (λ within. inl (within_module name path.names path.folder within))
    (λ within. inr (within_public name path.names path.folder within))
    (bool_or (is_within (module_folder name) path) (is_within (public_folder name) path) covered)

not_public : (name : List ℕ) → is_module name ≡ true → name ≡ public_name → ⊥
not_public name named same =
    let other = (HasModule-from name named).not_public in
    let wrong = (bytes_eq-Decides name public_name).1 same in
    cc (other, wrong)

-- a path has one owner
pub one_owner : (m n : List ℕ) (path : Path) → is_module m ≡ true → is_module n ≡ true → covers (Module m) path ≡ true → covers (Module n) path ≡ true → m ≡ n
one_owner m n path named_m named_n first second =
    ⊎_elim
    (λ a. ⊎_elim (λ b. a ∙ sym b) (λ b. absurd (not_public m named_m (a ∙ sym b.0))) (owner n path second))
    (λ a. ⊎_elim (λ b. absurd (not_public n named_n (b ∙ sym a.0))) (λ b. a.1 ∙ sym b.1) (owner n path second))
    (owner m path first)

pub apart : (m n : List ℕ) (path : Path) → is_module m ≡ true → is_module n ≡ true → bytes_eq m n ≡ false → covers (Module m) path ≡ true
    → covers (Module n) path ≡ false
apart m n path named_m named_n other covered =
    ⊎_elim
    (λ both. let same = (bytes_eq-Decides m n).1 (one_owner m n path named_m named_n covered both) in absurd (cc (same, other)))
    (λ not_both. not_both)
    (cases_Bool (covers (Module n) path))

-- ---- methods

allows_reading : (write reading covered : Bool) → ((write || reading) && covered) ≡ true → ((write || true) && covered) ≡ true
allows_reading true reading covered allowed = allowed
allows_reading false true covered allowed = allowed
allows_reading false false covered allowed = absurd (cc)

-- what may be done may be read
pub reaches_reading : (scopes : List Scope) (method : Method) (path : Path) → reach_of scopes method path ≡ true → reach_of scopes Get path ≡ true
reaches_reading [] method path reached = absurd (cc)
reaches_reading (scope ∷ scopes) method path reached =
    ⊎_elim
    (λ first. ap (λ b. b || reach_of scopes Get path) (allows_reading scope.write (is_reading method) (covers scope.reach path) first))
    (λ later. grind (arith, nat_tests, reaches_reading scopes method path later))
    (bool_or (allows scope method path) (reach_of scopes method path) reached)

pub reaches_by_kind : (scopes : List Scope) (method other : Method) (path : Path) → is_reading method ≡ is_reading other
    → reach_of scopes method path ≡ reach_of scopes other path
reaches_by_kind scopes method other path same = ap (λ b. list_any (λ (scope : Scope). (scope.write || b) && covers scope.reach path) scopes) same
