-- Paths of documents and folders, their plain text and their order.
use Rattle.std.specs.Prelude.{ℕ, Bool, true, false, not, ◌&&◌, ◌||◌, nat_le, List, [], ◌∷◌, ◌++◌, length, if◌then◌else◌}
use Rattle.std.specs.List.{list_all, flat_map}
use Rattle.std.specs.Str.{bytes_eq}
use Rattle.std.specs.declared.cmp.Ordering.{Ordering}
use Rattle.std.specs.Ordering.{nat_cmp, bool_cmp, on, then_cmp, eq_of_both}
use Rattle.std.specs.Cmp.Lexicographic.{slice_cmp}
use lib.Pointwise.{pointwise}
use mathlib.Core.Bool.{beq}
use Rattle.rs_path.specs.Names.{is_name}
use Rattle.rs_path.specs.Limits.{max_names}

-- the names from the root down, and whether it is a folder
pub record Path : Type 0 where
  pub names : List (List ℕ)
  pub folder : Bool

-- nothing is in the list
abbrev pub is_nil : {X : Type 0} → List X → Bool
is_nil [] = true
is_nil (x ∷ xs) = false

-- each name is one, there are at most 32, and a document has at least one
abbrev pub is_path : Path → Bool
is_path p = list_all is_name p.names && nat_le (length p.names) max_names && (p.folder || not (is_nil p.names))

-- the folder `/`
abbrev pub is_root : Path → Bool
is_root p = p.folder && is_nil p.names

-- the folder with these names
abbrev pub folder_at : List (List ℕ) → Path
folder_at names = record { names = names; folder = true }

-- the document with these names
abbrev pub document_at : List (List ℕ) → Path
document_at names = record { names = names; folder = false }

-- the same names, and both folders or neither
abbrev pub same_path : Path → Path → Bool
same_path = eq_of_both (on (λ p. p.names) (pointwise bytes_eq)) (on (λ p. p.folder) beq)

-- each text behind a slash, and a slash at the end of a folder
abbrev pub text_of : List (List ℕ) → Bool → List ℕ
text_of texts folder = flat_map (λ text. 47 ∷ text) texts ++ (if folder then 47 ∷ [] else [])

-- `/` and the names joined by `/`, with `/` at the end of a folder other than `/`
abbrev pub plain_text : Path → List ℕ
plain_text p = text_of p.names p.folder

-- the order of the plain texts; the rest tells apart only what is no path
abbrev pub path_cmp : Path → Path → Ordering
path_cmp = then_cmp (on plain_text (slice_cmp nat_cmp))
    (then_cmp (on (λ p. p.names) (slice_cmp (slice_cmp nat_cmp))) (on (λ p. p.folder) bool_cmp))
