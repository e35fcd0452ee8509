-- How far words are in a form.
use Rattle.std.specs.Prelude.{ℕ, ◌+◌, Bool, true, false, ◌&&◌, ◌||◌, max, List, [], ◌∷◌, if◌then◌else◌}

-- how many words in front take their places
abbrev pub count_taken : List (List ℕ → Bool) → List (List ℕ) → ℕ
count_taken [] words = 0
count_taken (test ∷ tests) [] = 0
count_taken (test ∷ tests) (word ∷ words) = if test word then count_taken tests words + 1 else 0

-- each place takes its word, and none is left
abbrev pub fits : List (List ℕ → Bool) → List (List ℕ) → Bool
fits [] [] = true
fits [] (word ∷ words) = false
fits (test ∷ tests) [] = false
fits (test ∷ tests) (word ∷ words) = test word && fits tests words

-- the words are in some form
abbrev pub some_fits : List (List (List ℕ → Bool)) → List (List ℕ) → Bool
some_fits [] words = false
some_fits (tests ∷ others) words = fits tests words || some_fits others words

-- the most words in front that some form takes
abbrev pub most_taken : List (List (List ℕ → Bool)) → List (List ℕ) → ℕ
most_taken [] words = 0
most_taken (tests ∷ others) words = max (count_taken tests words) (most_taken others words)
