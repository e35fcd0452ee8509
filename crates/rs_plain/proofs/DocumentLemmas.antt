-- Whether a document stands at some names.
use Rattle.std.proofs.Common.{◌≡◌, ℕ, Bool, true, false, ◌||◌, cond, List, [], ◌∷◌, find, Some, is_some, option_map, refl}
use Rattle.std.specs.List.{list_any}
use Rattle.rs_path.specs.Paths.{document_at, same_path}
use Rattle.rs_rules.specs.declared.placed.Placed.{Placed}
use Rattle.rs_rules.specs.Clashes.{has_document}

-- something is found just where something passes
found_any : {X Y : Type 0} (f : X → Y) (p : X → Bool) (xs : List X) → is_some (option_map f (find p xs)) ≡ list_any p xs
found_any f p [] = refl
found_any f p (x ∷ xs) = by (p x) (found_any f p xs)
  where
    by : (b : Bool) → is_some (option_map f (find p xs)) ≡ list_any p xs → is_some (option_map f (cond b (Some x) (find p xs))) ≡ (b || list_any p xs)
    by true rest = refl
    by false rest = rest

pub has_document_any : (docs : List Placed) (names : List (List ℕ)) → has_document docs names ≡ list_any (λ (d : Placed). same_path (document_at names) d.path) docs
has_document_any docs names = found_any (λ (d : Placed). d.doc) (λ (d : Placed). same_path (document_at names) d.path) docs
