-- A folder with a document below it.
use Rattle.std.proofs.Common.{◌≡◌, ℕ, Bool, true, false, ◌||◌, cond, List, [], ◌∷◌, find, Option, Some, None, is_some, refl, sym, ap, ◌∙◌, ⊎_elim}
use Rattle.std.specs.Option.{option_map}
use Rattle.std.proofs.lemmas.Bool.{cases_Bool, or_cases, or_left, or_right, true≢false}
use Rattle.rs_path.specs.Paths.{Path, same_path}
use Rattle.rs_path.specs.Below.{is_below}
use Rattle.rs_rules.specs.declared.doc.Doc.{Doc}
use Rattle.rs_rules.specs.declared.placed.Placed.{Placed}
use Rattle.rs_rules.specs.Documents.{doc_in, has_below}
use Rattle.rs_rules.proofs.Cited.{same_itself, same_from}

found_first : (d : Placed) (b : Bool) (o : Option Placed) → b ≡ true → is_some (option_map (λ (e : Placed). e.doc) (cond b (Some d) o)) ≡ true
found_first d true o hit = refl
found_first d false o hit = absurd (true≢false (sym hit))

found_later : (d : Placed) (b : Bool) (o : Option Placed) → is_some (option_map (λ (e : Placed). e.doc) o) ≡ true → is_some (option_map (λ (e : Placed). e.doc) (cond b (Some d) o)) ≡ true
found_later d true o there = refl
found_later d false o there = there

found_rest : (d : Placed) (b : Bool) (o : Option Placed) → b ≡ false → is_some (option_map (λ (e : Placed). e.doc) (cond b (Some d) o)) ≡ true → is_some (option_map (λ (e : Placed). e.doc) o) ≡ true
found_rest d true o clear there = absurd (true≢false clear)
found_rest d false o clear there = there

-- a document that is below
pub some_below : (f : Path) (ds : List Placed) → has_below f ds ≡ true → (r : Path) × (is_below f r ≡ true) × (is_some (doc_in r ds) ≡ true)
some_below f [] below = absurd (true≢false (sym below))
some_below f (d ∷ ds) below =
    ⊎_elim
    (λ here. (d.path, here, found_first d (same_path d.path d.path) (find (λ (e : Placed). same_path d.path e.path) ds) (same_itself d.path)))
    (λ rest.
    let it = some_below f ds rest in
    (it.0, it.1, found_later d (same_path it.0 d.path) (find (λ (e : Placed). same_path it.0 e.path) ds) it.2))
    (or_cases (is_below f d.path) (has_below f ds) below)

pub below_from : (f r : Path) (ds : List Placed) → is_below f r ≡ true → is_some (doc_in r ds) ≡ true → has_below f ds ≡ true
below_from f r [] below there = absurd (true≢false (sym there))
below_from f r (d ∷ ds) below there =
    ⊎_elim
    (λ same. or_left (is_below f d.path) (has_below f ds) (ap (is_below f) (sym (same_from r d.path same)) ∙ below))
    (λ other.
    or_right (is_below f d.path) (has_below f ds)
    (below_from f r ds below (found_rest d (same_path r d.path) (find (λ (e : Placed). same_path r e.path) ds) other there)))
    (cases_Bool (same_path r d.path))
