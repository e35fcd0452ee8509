-- How a text is cut and read, one segment after another.
use Rattle.std.proofs.Common.{◌≡◌, ℕ, ◌+◌, ◌<◌, ◌≤◌, false, ◌&&◌, ltb, List, [], ◌∷◌, ◌++◌, length, take, drop, Some, None, Result, Ok, Err, position, arith, refl, sym, ap, ◌∙◌, ⊎_elim}
use Rattle.std.specs.List.{slice_split, onto_first, position_or_len}
use Rattle.std.proofs.lemmas.Bool.{cases_Bool, cond-true, cond-false, cond_both}
use Rattle.std.proofs.lemmas.Bool.Decides.{nat_tests}
use Rattle.std.proofs.lemmas.List.Elements.{All-from_get_or}
use Rattle.std.proofs.lemmas.List.Sums.{fails_before_first}
use Rattle.std.proofs.lemmas.List.Splits.{slice_split_first, slice_split_none}
use Rattle.rs_path.specs.declared.path_fault.PathWhy.{PathWhy}
use Rattle.rs_path.specs.declared.path_fault.PathFault.{PathFault}
use Rattle.rs_path.specs.declared.path_fault.PathFault.TheVariants.{Bad, NoMemory}
use Rattle.rs_path.specs.Paths.{is_nil, folder_at}
use Rattle.rs_path.specs.Readings.{segment_name, go_on, segments_reading, is_slash, Reads, ReadsName}

-- the text is cut at the first slash
pub slice_split_at : (text : List ℕ) (end : ℕ) → position is_slash text ≡ Some end
    → (end < length text) × (slice_split is_slash text ≡ take end text ∷ slice_split is_slash (drop (end + 1) text))
slice_split_at text end found =
    ⊎_elim
    (λ inside. let within : position_or_len is_slash text < length text = grind (arith, nat_tests, inside) in
    let here : position_or_len is_slash text ≡ end = let at : Some (position_or_len is_slash text) ≡ Some end = sym (cond-true _ _ _ inside) ∙ found in cc in
    (rw (← here) within, rw (← here) (slice_split_first is_slash text 0 within)))
    (λ outside. let none : None ≡ Some end = sym (cond-false _ _ _ outside) ∙ found in absurd (cc))
    (cases_Bool (ltb (position_or_len is_slash text) (length text)))

-- a text without a slash is one segment
pub slice_split_whole : (text : List ℕ) → position is_slash text ≡ None → slice_split is_slash text ≡ text ∷ []
slice_split_whole text none =
    ⊎_elim
    (λ inside. let found : Some (position_or_len is_slash text) ≡ None = sym (cond-true _ _ _ inside) ∙ none in absurd (cc))
    (λ outside. let past : length text ≤ position_or_len is_slash text = grind (arith, nat_tests, outside) in
    slice_split_none is_slash text (All-from_get_or (λ byte. is_slash byte ≡ false) text 0 (λ i within. fails_before_first is_slash text i 0 (omega arith))))
    (cases_Bool (ltb (position_or_len is_slash text) (length text)))

-- the end of the segments: an empty last one
pub segments_reading_folder : (name_of : List ℕ → Result (List ℕ) PathWhy) (place : ℕ) (names : List (List ℕ)) (segment : List ℕ)
    → length segment ≡ 0 → segments_reading name_of place names (segment ∷ []) ≡ Ok (folder_at names)
segments_reading_folder name_of place names [] empty = refl
segments_reading_folder name_of place names (x ∷ xs) empty = absurd (omega arith)

-- one segment that isn't an empty last one
pub segments_reading_more : (name_of : List ℕ → Result (List ℕ) PathWhy) (place : ℕ) (names : List (List ℕ)) (segment : List ℕ) (more : List (List ℕ))
    → (is_nil segment && is_nil more) ≡ false
    → segments_reading name_of place names (segment ∷ more)
    ≡ go_on (segment_name name_of (length names) segment) place (λ name. segments_reading name_of (place + length segment + 1) (names ++ name ∷ []) more)
segments_reading_more name_of place names segment more going = cond-false _ _ _ going

-- a segment's name goes on
pub segments_reading_name : (name_of : List ℕ → Result (List ℕ) PathWhy) (place : ℕ) (names : List (List ℕ)) (segment name : List ℕ) (more : List (List ℕ))
    → (is_nil segment && is_nil more) ≡ false → segment_name name_of (length names) segment ≡ Ok name
    → segments_reading name_of place names (segment ∷ more)
    ≡ segments_reading name_of (place + length segment + 1) (names ++ name ∷ []) more
segments_reading_name name_of place names segment name more going named =
    segments_reading_more name_of place names segment more going
    ∙ ap (λ r. go_on r place (λ name. segments_reading name_of (place + length segment + 1) (names ++ name ∷ []) more)) named

-- the fault of a segment is that of the whole
pub Reads_fault : (name_of : List ℕ → Result (List ℕ) PathWhy) (place : ℕ) (names : List (List ℕ)) (count : ℕ) (segment : List ℕ) (more : List (List ℕ)) (fault : PathFault)
    → count ≡ length names → (is_nil segment && is_nil more) ≡ false → ReadsName (Err fault) place (segment_name name_of count segment)
    → Reads (Err fault) (segments_reading name_of place names (segment ∷ more))
Reads_fault name_of place names count segment more (Bad why at) counted going read =
    let wrong : segment_name name_of (length names) segment ≡ Err why = ap (λ n. segment_name name_of n segment) (sym counted) ∙ read.0 in
    rw read.1 (segments_reading_more name_of place names segment more going
    ∙ ap (λ r. go_on r place (λ name. segments_reading name_of (place + length segment + 1) (names ++ name ∷ []) more)) wrong)
Reads_fault name_of place names count segment more NoMemory counted going read = tt

is_nil-onto_first : (byte : ℕ) (parts : List (List ℕ)) → is_nil (onto_first byte parts) ≡ false
is_nil-onto_first byte [] = refl
is_nil-onto_first byte (part ∷ parts) = refl

-- a text has a segment
pub is_nil-slice_split : (text : List ℕ) → is_nil (slice_split is_slash text) ≡ false
is_nil-slice_split [] = refl
is_nil-slice_split (byte ∷ text) =
    cond_both (is_slash byte) ([] ∷ slice_split is_slash text) (onto_first byte (slice_split is_slash text)) (λ parts. is_nil parts ≡ false)
    (λ _. refl) (λ _. is_nil-onto_first byte (slice_split is_slash text))

-- a segment's fault ends the reading
pub segments_reading_fault : (name_of : List ℕ → Result (List ℕ) PathWhy) (place : ℕ) (names : List (List ℕ)) (segment : List ℕ) (more : List (List ℕ)) (why : PathWhy)
    → (is_nil segment && is_nil more) ≡ false → segment_name name_of (length names) segment ≡ Err why
    → segments_reading name_of place names (segment ∷ more) ≡ Err (Bad why place)
segments_reading_fault name_of place names segment more why going wrong =
    segments_reading_more name_of place names segment more going
    ∙ ap (λ r. go_on r place (λ name. segments_reading name_of (place + length segment + 1) (names ++ name ∷ []) more)) wrong
