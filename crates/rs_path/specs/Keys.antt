-- Keys of items, and their order.
use Rattle.std.specs.Prelude.{ℕ, Bool, List, [], ◌∷◌, ◌++◌, if◌then◌else◌}
use Rattle.std.specs.declared.cmp.Ordering.{Ordering}
use Rattle.std.specs.declared.cmp.Ordering.TheVariants.{Less, Greater}
use Rattle.std.specs.Ordering.{nat_cmp, bool_cmp, ordering_then}

-- the name, with `/` at the end of a folder's
abbrev pub key_text : List ℕ → Bool → List ℕ
key_text name folder = if folder then name ++ 47 ∷ [] else name

-- the order of two keys, from names without slashes
abbrev pub key_cmp : List ℕ → Bool → List ℕ → Bool → Ordering
key_cmp [] own [] their = bool_cmp own their
key_cmp [] own (y ∷ ys) their = if own then nat_cmp 47 y else Less
key_cmp (x ∷ xs) own [] their = if their then nat_cmp x 47 else Greater
key_cmp (x ∷ xs) own (y ∷ ys) their = ordering_then (nat_cmp x y) (key_cmp xs own ys their)
