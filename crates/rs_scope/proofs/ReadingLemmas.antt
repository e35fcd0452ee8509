-- Texts of scopes: what is read of one, and that what is written is read.
use Rattle.std.proofs.Common.{◌≡◌, ℕ, ◌+◌, ◌<◌, ◌≤◌, true, false, not, nat_lt, nat_le, List, [], ◌∷◌, ◌++◌, length, drop, get_or, map, Option, Some, None, option_map, Result, Ok, Err, Vec, IfOk, arith, refl, sym, ap, ◌∙◌, subst, ⊎_elim, length-append, append_assoc}
use Rattle.std.specs.List.{list_all, flat_map, slice_split, join_with_byte, onto_first}
use Rattle.std.proofs.lemmas.Bool.{cases_Bool, and_parts, and_from, cond-true, cond-false, cond_both}
use Rattle.std.proofs.lemmas.Bool.Decides.{nat_tests}
use Rattle.std.proofs.lemmas.List.{append-nil}
use Rattle.std.proofs.lemmas.List.Folds.{list_all-append}
use Rattle.std.proofs.lemmas.List.Splits.{slice_split_at, slice_split_none, join_with_byte-slice_split}
use Rattle.rs_path.specs.Paths.{is_nil}
use Rattle.rs_scope.specs.declared.scope.Scope.{Scope}
use Rattle.rs_scope.specs.declared.scope_fault.ScopeFault.{ScopeFault}
use Rattle.rs_scope.specs.declared.scope_fault.ScopeFault.TheVariants.{Bad, NoMemory}
use Rattle.rs_scope.specs.Scopes.{scope_text, scopes_text, is_scope, is_scopes}
use Rattle.rs_scope.specs.ScopeReadings.{scope_reading, scopes_with, after_word, some_scopes, words_reading, is_space, scopes_reading, ReadsAsScopes, ReadsWord, scopes_made}
use Rattle.rs_scope.proofs.ScopeLemmas.{scope_reading-some, scope_reading-text, scope_without_space, scope_some}

-- ---- lengths

-- the bytes of some words, and one more for each
abbrev pub spaced : List (List ℕ) → ℕ
spaced [] = 0
spaced (word ∷ words) = length word + 1 + spaced words

-- joined by one byte, words have one byte less
pub length-join : (word : List ℕ) (words : List (List ℕ)) → length (join_with_byte 32 (word ∷ words)) + 1 ≡ spaced (word ∷ words)
length-join word [] = omega arith
length-join word (next ∷ words) =
    let rest = length-join next words in
    omega (arith, length-append word (32 ∷ join_with_byte 32 (next ∷ words)), rest)

spaced-append : (words more : List (List ℕ)) → spaced (words ++ more) ≡ spaced words + spaced more
spaced-append [] more = omega arith
spaced-append (word ∷ words) more = let rest = spaced-append words more in omega arith

map-push : (scopes : List Scope) (scope : Scope) → map scope_text (scopes ++ scope ∷ []) ≡ map scope_text scopes ++ scope_text scope ∷ []
map-push [] scope = refl
map-push (first ∷ scopes) scope = ap (λ t. scope_text first ∷ t) (map-push scopes scope)

is_nil-onto_first : (byte : ℕ) (parts : List (List ℕ)) → is_nil (onto_first byte parts) ≡ false
is_nil-onto_first byte [] = refl
is_nil-onto_first byte (part ∷ parts) = refl

is_nil-split : (text : List ℕ) → is_nil (slice_split is_space text) ≡ false
is_nil-split [] = refl
is_nil-split (byte ∷ text) =
    cond_both (is_space byte) ([] ∷ slice_split is_space text) (onto_first byte (slice_split is_space text)) (λ parts. is_nil parts ≡ false)
    (λ _. refl) (λ _. is_nil-onto_first byte (slice_split is_space text))

spaced-join : (words : List (List ℕ)) → is_nil words ≡ false → spaced words ≡ length (join_with_byte 32 words) + 1
spaced-join [] some = absurd (cc)
spaced-join (word ∷ words) some = sym (length-join word words)

-- the words of a text and its length
spaced-split : (text : List ℕ) → spaced (slice_split is_space text) ≡ length text + 1
spaced-split text = spaced-join (slice_split is_space text) (is_nil-split text) ∙ ap (λ t. length t + 1) (join_with_byte-slice_split 32 text)

-- ---- what is read

-- the scopes are lawful and no longer than what they were read of
record Fits (scopes : List Scope) (room : ℕ) : Type 0 where
  lawful : list_all is_scope scopes ≡ true
  short : spaced (map scope_text scopes) ≤ room

push_fits : (scopes : List Scope) (word : List ℕ) (scope : Scope) (room : ℕ) → scope_reading word ≡ Some scope → Fits scopes room
    → Fits (scopes ++ scope ∷ []) (room + (length word + 1))
push_fits scopes word scope room read fits =
    let has = scope_reading-some word scope read in
    let last : list_all is_scope (scope ∷ []) ≡ true = and_from _ _ has.lawful refl in
    let before = fits.short in
    record {
      lawful = list_all-append is_scope scopes (scope ∷ []) ∙ and_from _ _ fits.lawful last;
      short = rw (map-push scopes scope, spaced-append (map scope_text scopes) (scope_text scope ∷ []), has.text_is) (omega arith);
    }

with_fits : (scopes : List Scope) (word : List ℕ) (found : Option Scope) (more : List Scope) (room : ℕ) → scope_reading word ≡ found
    → option_map (λ scope. scopes ++ scope ∷ []) found ≡ Some more → Fits scopes room → Fits more (room + (length word + 1))
with_fits scopes word None more room read made fits = absurd (cc)
with_fits scopes word (Some scope) more room read made fits =
    let same : scopes ++ scope ∷ [] ≡ more = cc in
    subst (λ (s : List Scope). Fits s (room + (length word + 1))) same (push_fits scopes word scope room read fits)

scopes_with-fits : (scopes : List Scope) (word : List ℕ) (more : List Scope) (room : ℕ) → scopes_with scopes word ≡ Some more → Fits scopes room
    → Fits more (room + (length word + 1))
scopes_with-fits scopes [] more room made fits =
    let same : scopes ≡ more = cc in
    let before = fits.short in
    subst (λ (s : List Scope). Fits s (room + (length {A = ℕ} [] + 1))) same (record { lawful = fits.lawful; short = omega arith })
scopes_with-fits scopes (byte ∷ word) more room made fits = with_fits scopes (byte ∷ word) (scope_reading (byte ∷ word)) more room refl made fits

-- one word and then the others
word_fits : (place : ℕ) (before : List Scope) (word : List ℕ) (words : List (List ℕ)) (scopes : List Scope) (room : ℕ) (found : Option (List Scope))
    → scopes_with before word ≡ found
    → after_word found place (λ more. words_reading (place + length word + 1) more words) ≡ Ok scopes → Fits before room
    → ((more : List Scope) → words_reading (place + length word + 1) more words ≡ Ok scopes → Fits more (room + (length word + 1))
    → Fits scopes (room + (length word + 1) + spaced words) × (is_nil scopes ≡ false))
    → Fits scopes (room + spaced (word ∷ words)) × (is_nil scopes ≡ false)
word_fits place before word words scopes room None made read fits others = absurd (cc)
word_fits place before word words scopes room (Some more) made read fits others =
    let rest = others more read (scopes_with-fits before word more room made fits) in
    let count : room + (length word + 1) + spaced words ≡ room + spaced (word ∷ words) = omega arith in
    (subst (λ (n : ℕ). Fits scopes n) count rest.0, rest.1)

words_fit : (place : ℕ) (before : List Scope) (words : List (List ℕ)) (scopes : List Scope) (room : ℕ) → words_reading place before words ≡ Ok scopes → Fits before room
    → Fits scopes (room + spaced words) × (is_nil scopes ≡ false)
words_fit place before [] scopes room read fits =
    ⊎_elim
    (λ none. let wrong : Err (Bad 0) ≡ Ok scopes = sym (cond-true _ _ _ none) ∙ read in absurd (cc))
    (λ some. let is : Ok before ≡ Ok scopes = sym (cond-false _ _ _ some) ∙ read in
    let same : before ≡ scopes = cc in
    let short = fits.short in
    subst (λ (s : List Scope). Fits s (room + spaced []) × (is_nil s ≡ false)) same (record { lawful = fits.lawful; short = omega arith }, some))
    (cases_Bool (is_nil before))
words_fit place before (word ∷ words) scopes room read fits =
    word_fits place before word words scopes room (scopes_with before word) refl read fits
    (λ more. words_fit (place + length word + 1) more words scopes (room + (length word + 1)))

short_text : (scopes : List Scope) (room : ℕ) → is_nil scopes ≡ false → spaced (map scope_text scopes) ≤ room + 1 → length (scopes_text scopes) ≤ room
short_text [] room some short = absurd (cc)
short_text (scope ∷ scopes) room some short = omega (arith, length-join (scope_text scope) (map scope_text scopes))

words_lawful : (text : List ℕ) (scopes : List Scope) → length text ≤ 1024 → words_reading 0 [] (slice_split is_space text) ≡ Ok scopes → is_scopes scopes ≡ true
words_lawful text scopes room read =
    let none : Fits [] 0 = record { lawful = refl; short = omega arith } in
    let found = words_fit 0 [] (slice_split is_space text) scopes 0 read none in
    let some = found.1 in
    let short = found.0.short in
    let short_enough = short_text scopes (length text) some (omega (arith, spaced-split text, short)) in
    let within : nat_le (length (scopes_text scopes)) 1024 ≡ true = grind (arith, nat_tests, short_enough, room) in
    and_from _ _ (and_from _ _ (ap not some) found.0.lawful) within

-- what a call read of the words is lawful
pub lawful : {Z : Type 0} (text : List ℕ) (r : Result (Vec Scope Z) ScopeFault) → length text ≤ 1024
    → ReadsAsScopes (scopes_made r) (words_reading 0 [] (slice_split is_space text)) → IfOk r (λ scopes. is_scopes scopes.items ≡ true)
lawful text (Ok scopes) room read = words_lawful text scopes.items room read
lawful text (Err fault) room read = tt

-- what is read is lawful
pub is_scopes-reading : (text : List ℕ) (scopes : List Scope) → scopes_reading text ≡ Ok scopes → is_scopes scopes ≡ true
is_scopes-reading text scopes read =
    ⊎_elim
    (λ long. let wrong : Err (Bad 1024) ≡ Ok scopes = sym (cond-true _ _ _ long) ∙ read in absurd (cc))
    (λ fits.
    let room : length text ≤ 1024 = grind (arith, nat_tests, fits) in
    words_lawful text scopes room (sym (cond-false _ _ _ fits) ∙ read))
    (cases_Bool (nat_lt 1024 (length text)))

-- ---- what is written is read

pub record HasScopes (scopes : List Scope) : Type 0 where
  pub some : is_nil scopes ≡ false
  pub lawful : list_all is_scope scopes ≡ true
  pub short : length (scopes_text scopes) ≤ 1024

pub HasScopes-from : (scopes : List Scope) → is_scopes scopes ≡ true → HasScopes scopes
HasScopes-from scopes is =
    let a = and_parts _ _ is in
    let b = and_parts (not (is_nil scopes)) (list_all is_scope scopes) a.0 in
    let some = b.0 in
    let short = a.1 in
    record { some = grind (arith, nat_tests, some); lawful = b.1; short = grind (arith, nat_tests, short) }

split-join : (scope : Scope) (scopes : List Scope) → list_all is_scope (scope ∷ scopes) ≡ true
    → slice_split is_space (scopes_text (scope ∷ scopes)) ≡ map scope_text (scope ∷ scopes)
split-join scope [] all =
    let parts = and_parts (is_scope scope) (list_all is_scope []) all in slice_split_none is_space (scope_text scope) (scope_without_space scope parts.0)
split-join scope (next ∷ scopes) all =
    let parts = and_parts (is_scope scope) (list_all is_scope (next ∷ scopes)) all in
    slice_split_at is_space (scope_text scope) 32 (scopes_text (next ∷ scopes)) (scope_without_space scope parts.0) refl
    ∙ ap (λ t. scope_text scope ∷ t) (split-join next scopes parts.1)

is_nil-some : (word : List ℕ) → 0 < length word → is_nil word ≡ false
is_nil-some [] some = absurd (omega arith)
is_nil-some (byte ∷ word) some = refl

scopes_with-text : (before : List Scope) (scope : Scope) → is_scope scope ≡ true → scopes_with before (scope_text scope) ≡ Some (before ++ scope ∷ [])
scopes_with-text before scope lawful =
    cond-false _ _ _ (is_nil-some (scope_text scope) (scope_some scope))
    ∙ ap (option_map (λ scope. before ++ scope ∷ [])) (scope_reading-text scope lawful)

words_reading-texts : (place : ℕ) (before scopes : List Scope) → list_all is_scope scopes ≡ true
    → words_reading place before (map scope_text scopes) ≡ some_scopes (before ++ scopes)
words_reading-texts place before [] all = ap some_scopes (sym (append-nil before))
words_reading-texts place before (scope ∷ scopes) all =
    let parts = and_parts (is_scope scope) (list_all is_scope scopes) all in
    ap (λ found. after_word found place (λ more. words_reading (place + length (scope_text scope) + 1) more (map scope_text scopes))) (scopes_with-text before scope parts.0)
    ∙ words_reading-texts (place + length (scope_text scope) + 1) (before ++ scope ∷ []) scopes parts.1
    ∙ ap some_scopes (append_assoc before (scope ∷ []) scopes)

words_back : (scopes : List Scope) → is_nil scopes ≡ false → list_all is_scope scopes ≡ true
    → words_reading 0 [] (slice_split is_space (scopes_text scopes)) ≡ Ok scopes
words_back [] some all = absurd (cc)
words_back (scope ∷ scopes) some all = ap (words_reading 0 []) (split-join scope scopes all) ∙ words_reading-texts 0 [] (scope ∷ scopes) all

-- the text that scopes are written as is read as these scopes
pub scopes_reading-text : (scopes : List Scope) → is_scopes scopes ≡ true → scopes_reading (scopes_text scopes) ≡ Ok scopes
scopes_reading-text scopes is =
    let has = HasScopes-from scopes is in
    let short = has.short in
    let fits : nat_lt 1024 (length (scopes_text scopes)) ≡ false = grind (arith, nat_tests, short) in
    cond-false _ _ _ fits ∙ words_back scopes has.some has.lawful

-- ---- the text, one scope after another

-- the first scope and then each other behind a space
pub scopes_text-parts : (first : Scope) (scopes : List Scope) → scopes_text (first ∷ scopes) ≡ scope_text first ++ flat_map (λ scope. 32 ∷ scope_text scope) scopes
scopes_text-parts first [] = sym (append-nil (scope_text first))
scopes_text-parts first (next ∷ scopes) = ap (λ t. scope_text first ++ 32 ∷ t) (scopes_text-parts next scopes)

-- the same of a list that isn't empty
pub scopes_text-first : (scopes : List Scope) (first : Scope) → 0 < length scopes → first ≡ get_or scopes 0 first
    → scopes_text scopes ≡ scope_text first ++ flat_map (λ scope. 32 ∷ scope_text scope) (drop 1 scopes)
scopes_text-first [] first some is = absurd (omega arith)
scopes_text-first (next ∷ scopes) first some is =
    scopes_text-parts next scopes ∙ ap (λ (s : Scope). scope_text s ++ flat_map (λ scope. 32 ∷ scope_text scope) scopes) (sym is)

-- ---- the loop

pub Reads_same : (r wanted : Result (List Scope) ScopeFault) → wanted ≡ r → ReadsAsScopes r wanted
Reads_same (Ok scopes) wanted same = same
Reads_same (Err (Bad place)) wanted same = same
Reads_same (Err NoMemory) wanted same = tt

-- the scopes go on behind a word
pub words_more : (place : ℕ) (scopes : List Scope) (word : List ℕ) (more : List Scope) (words : List (List ℕ)) → scopes_with scopes word ≡ Some more
    → words_reading place scopes (word ∷ words) ≡ words_reading (place + length word + 1) more words
words_more place scopes word more words made =
    ap (λ found. after_word found place (λ more. words_reading (place + length word + 1) more words)) made

-- the fault of a word is that of the whole
pub Reads_fault : (place : ℕ) (before scopes : List Scope) (word : List ℕ) (words : List (List ℕ)) (fault : ScopeFault)
    → ReadsWord (Err fault) place scopes (scopes_with before word) → ReadsAsScopes (Err fault) (words_reading place before (word ∷ words))
Reads_fault place before scopes word words (Bad at) read =
    let wrong = read.0 in
    rw read.1 (ap (λ found. after_word found place (λ more. words_reading (place + length word + 1) more words)) wrong)
Reads_fault place before scopes word words NoMemory read = tt
