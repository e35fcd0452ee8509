-- What is written of a path is read as that path.
use Rattle.std.proofs.Common.{◌≡◌, ℕ, ◌+◌, ◌<◌, ◌≤◌, Bool, true, false, not, ◌&&◌, ◌||◌, nat_lt, nat_le, if◌then◌else◌, List, [], ◌∷◌, ◌++◌, length, map, Option, Some, None, Result, Ok, Err, All, arith, refl, sym, ap, ◌∙◌, subst, ◌⊎◌, inl, inr, ⊎_elim, append_assoc, length-append}
use Rattle.std.specs.List.{list_all, flat_map, slice_split, join_with_byte}
use Rattle.std.specs.Result.{IfOk}
use Rattle.std.proofs.lemmas.Bool.{cases_Bool, and_parts, cond-true, cond-false, cond_both}
use Rattle.std.proofs.lemmas.Bool.Decides.{nat_tests}
use Rattle.std.proofs.lemmas.List.{append-nil, map-id}
use Rattle.std.proofs.lemmas.List.Splits.{slice_split_at, slice_split_none, join_with_byte-slice_split}
use Rattle.rs_path.specs.declared.path_fault.PathWhy.{PathWhy}
use Rattle.rs_path.specs.declared.path_fault.PathWhy.TheVariants.{Deep, Empty}
use Rattle.rs_path.specs.declared.path_fault.PathFault.{PathFault}
use Rattle.rs_path.specs.declared.path_fault.PathFault.TheVariants.{Bad}
use Rattle.rs_path.specs.Names.{is_name}
use Rattle.rs_path.specs.Paths.{Path, is_nil, is_path, text_of, plain_text, document_at, folder_at}
use Rattle.rs_path.specs.Targets.{escaped, target_text}
use Rattle.rs_path.specs.Readings.{segment_name, segments_reading, is_slash, reading, Reads, name_unless, name_fault, plain_name, escaped_name, plain_reading, target_reading}
use Rattle.rs_path.proofs.NameLemmas.{HasName-from, name_bytes, name_without_slash}
use Rattle.rs_path.proofs.EscapeLemmas.{plain_name-name, escaped_name-escaped, escaped_without_slash, is_nil-escaped}
use Rattle.rs_path.proofs.ReadingLemmas.{segments_reading_name, segments_reading_fault, is_nil-slice_split}

-- the segments of a text of these texts
abbrev pub segments_of : List (List ℕ) → Bool → List (List ℕ)
segments_of [] true = [] ∷ []
segments_of [] false = []
segments_of (text ∷ texts) folder = text ∷ segments_of texts folder

-- no byte is a slash
abbrev pub NoSlash : ℕ → Type 0
NoSlash byte = is_slash byte ≡ false

-- a way to spell names, and one to read them, fit
pub record Spells (name_of : List ℕ → Result (List ℕ) PathWhy) (spell : List ℕ → List ℕ) : Type 0 where
  pub back : (name : List ℕ) → is_name name ≡ true → name_of (spell name) ≡ Ok name
  pub some : (name : List ℕ) → is_name name ≡ true → is_nil (spell name) ≡ false
  pub whole : (name : List ℕ) → is_name name ≡ true → All NoSlash (spell name)

is_nil-name : (name : List ℕ) → nat_lt 0 (length name) ≡ true → is_nil name ≡ false
is_nil-name [] some = absurd (grind (arith, nat_tests))
is_nil-name (byte ∷ name) some = refl

pub plain_spells : Spells plain_name (λ name. name)
plain_spells = record {
  back = plain_name-name;
  some = λ name named. is_nil-name name (HasName-from name named).some;
  whole = name_without_slash;
}

pub escaped_spells : Spells escaped_name escaped
escaped_spells = record {
  back = escaped_name-escaped;
  some = λ name named. let has = (HasName-from name named).some in is_nil-escaped name (grind (arith, nat_tests));
  whole = λ name named. escaped_without_slash name (name_bytes name named);
}

-- ---- a text falls into the segments that it was made of

pub text_of-cons : (text : List ℕ) (texts : List (List ℕ)) (folder : Bool) → text_of (text ∷ texts) folder ≡ 47 ∷ (text ++ text_of texts folder)
text_of-cons text texts folder = ap (λ t. 47 ∷ t) (append_assoc text (flat_map (λ text. 47 ∷ text) texts) (if folder then 47 ∷ [] else []))

pub slice_split-text_of : (spell : List ℕ → List ℕ) (whole : (name : List ℕ) → is_name name ≡ true → All NoSlash (spell name))
    → (name : List ℕ) (names : List (List ℕ)) (folder : Bool) → is_name name ≡ true → list_all is_name names ≡ true
    → slice_split is_slash (spell name ++ text_of (map spell names) folder) ≡ spell name ∷ segments_of (map spell names) folder
slice_split-text_of spell whole name [] true named all = slice_split_at is_slash (spell name) 47 [] (whole name named) refl
slice_split-text_of spell whole name [] false named all =
    ap (slice_split is_slash) (append-nil (spell name)) ∙ slice_split_none is_slash (spell name) (whole name named)
slice_split-text_of spell whole name (next ∷ names) folder named all =
    let parts = and_parts (is_name next) (list_all is_name names) all in
    ap (λ t. slice_split is_slash (spell name ++ t)) (text_of-cons (spell next) (map spell names) folder)
    ∙ slice_split_at is_slash (spell name) 47 (spell next ++ text_of (map spell names) folder) (whole name named) refl
    ∙ ap (λ s. spell name ∷ s) (slice_split-text_of spell whole next names folder parts.0 parts.1)

-- ---- the segments are read as the names

going_on : (segment : List ℕ) (more : List (List ℕ)) → is_nil segment ≡ false → (is_nil segment && is_nil more) ≡ false
going_on segment more some = ap (λ t. t && is_nil more) some

segment_name-spell : (name_of : List ℕ → Result (List ℕ) PathWhy) (count : ℕ) (segment name : List ℕ)
    → count < 32 → is_nil segment ≡ false → name_of segment ≡ Ok name → segment_name name_of count segment ≡ Ok name
segment_name-spell name_of count segment name few some back =
    let room : nat_le 32 count ≡ false = grind (arith, nat_tests) in rw (room, some) back

segments_reading-segments_of : (name_of : List ℕ → Result (List ℕ) PathWhy) (spell : List ℕ → List ℕ) → Spells name_of spell
    → (place : ℕ) (before names : List (List ℕ)) (folder : Bool) → list_all is_name names ≡ true → length before + length names ≤ 32
    → segments_reading name_of place before (segments_of (map spell names) folder) ≡ Ok (record { names = before ++ names; folder = folder })
segments_reading-segments_of name_of spell spells place before [] true all few = ap (λ ns. Ok (folder_at ns)) (sym (append-nil before))
segments_reading-segments_of name_of spell spells place before [] false all few = ap (λ ns. Ok (document_at ns)) (sym (append-nil before))
segments_reading-segments_of name_of spell spells place before (name ∷ names) folder all few =
    let parts = and_parts (is_name name) (list_all is_name names) all in
    let some = spells.some name parts.0 in
    let more = segments_of (map spell names) folder in
    let room : length (before ++ name ∷ []) + length names ≤ 32 = omega (arith, length-append before (name ∷ [])) in
    segments_reading_name name_of place before (spell name) name more (going_on (spell name) more some) (segment_name-spell name_of (length before) (spell name) name (omega arith) some (spells.back name parts.0))
    ∙ segments_reading-segments_of name_of spell spells (place + length (spell name) + 1) (before ++ name ∷ []) names folder parts.1 room
    ∙ ap (λ ns. Ok (record { names = ns; folder = folder })) (append_assoc before (name ∷ []) names)

-- a text of the spelled names is read as the path of the names
reading-text_of : (name_of : List ℕ → Result (List ℕ) PathWhy) (spell : List ℕ → List ℕ) → Spells name_of spell
    → (names : List (List ℕ)) (folder : Bool) → list_all is_name names ≡ true → length names ≤ 32 → (folder || not (is_nil names)) ≡ true
    → reading name_of (text_of (map spell names) folder) ≡ Ok (record { names = names; folder = folder })
reading-text_of name_of spell spells [] true all few some = refl
reading-text_of name_of spell spells [] false all few some = absurd (cc)
reading-text_of name_of spell spells (name ∷ names) folder all few some =
    let parts = and_parts (is_name name) (list_all is_name names) all in
    let room : length {A = List ℕ} [] + length (name ∷ names) ≤ 32 = omega arith in
    ap (reading name_of) (text_of-cons (spell name) (map spell names) folder)
    ∙ ap (segments_reading name_of 1 []) (slice_split-text_of spell spells.whole name names folder parts.0 parts.1)
    ∙ segments_reading-segments_of name_of spell spells 1 [] (name ∷ names) folder all room

-- the facts of a path, one by one
pub record HasPath (p : Path) : Type 0 where
  pub named : list_all is_name p.names ≡ true
  pub few : length p.names ≤ 32
  pub some : (p.folder || not (is_nil p.names)) ≡ true

pub HasPath-from : (p : Path) → is_path p ≡ true → HasPath p
HasPath-from p is =
    let a = and_parts _ (p.folder || not (is_nil p.names)) is in
    let b = and_parts (list_all is_name p.names) (nat_le (length p.names) 32) a.0 in
    let within = b.1 in
    record { named = b.0; few = grind (arith, nat_tests); some = a.1 }

pub target_reading-target_text : (p : Path) → is_path p ≡ true → target_reading (target_text p) ≡ Ok p
target_reading-target_text p is =
    let has = HasPath-from p is in reading-text_of escaped_name escaped escaped_spells p.names p.folder has.named has.few has.some

pub plain_reading-plain_text : (p : Path) → is_path p ≡ true → plain_reading (plain_text p) ≡ Ok p
plain_reading-plain_text p is =
    let has = HasPath-from p is in
    ap (λ names. plain_reading (text_of names p.folder)) (sym (map-id p.names))
    ∙ reading-text_of plain_name (λ name. name) plain_spells p.names p.folder has.named has.few has.some

-- paths with the same plain text are the same
pub same_from_plain_text : (p q : Path) → is_path p ≡ true → is_path q ≡ true → plain_text p ≡ plain_text q → p ≡ q
same_from_plain_text p q is_p is_q same =
    let read : Ok p ≡ Ok q = sym (plain_reading-plain_text p is_p) ∙ ap plain_reading same ∙ plain_reading-plain_text q is_q in cc

-- ---- a plain text that is read is the plain text of what is read

-- the path has these names and then those of the segments
record IsMadeOf (p : Path) (before segments : List (List ℕ)) : Type 0 where
  rest : List (List ℕ)
  names : p.names ≡ before ++ rest
  parts : segments ≡ segments_of rest p.folder

-- a segment that is read plainly is its own name
plain_segment : (count : ℕ) (segment : List ℕ)
    → (segment_name plain_name count segment ≡ Ok segment) ⊎ ((why : PathWhy) × (segment_name plain_name count segment ≡ Err why))
plain_segment count segment =
    cond_both (nat_le 32 count) (Err Deep) (if is_nil segment then Err Empty else plain_name segment) (λ r. (r ≡ Ok segment) ⊎ ((why : PathWhy) × (r ≡ Err why)))
    (λ _. inr (Deep, refl))
    (λ _. cond_both (is_nil segment) (Err Empty) (plain_name segment) (λ r. (r ≡ Ok segment) ⊎ ((why : PathWhy) × (r ≡ Err why)))
    (λ _. inr (Empty, refl))
    (λ _. name_or_fault segment (name_fault segment)))
  where
    name_or_fault : (name : List ℕ) (fault : Option PathWhy) → (name_unless name fault ≡ Ok name) ⊎ ((why : PathWhy) × (name_unless name fault ≡ Err why))
    name_or_fault name None = inl refl
    name_or_fault name (Some why) = inr (why, refl)

-- an empty segment is no name
empty_segment : (count : ℕ) → segment_name plain_name count [] ≡ Ok [] → ⊥
empty_segment count named =
    let No : Result (List ℕ) PathWhy → Type 0 = λ r. r ≡ Ok [] → ⊥ in
    cond_both (nat_le 32 count) (Err Deep) (Err Empty) No (λ _ h. cc) (λ _ h. cc) named

made_of : (place : ℕ) (before segments : List (List ℕ)) (p : Path) → segments_reading plain_name place before segments ≡ Ok p → IsMadeOf p before segments
made_of place before [] p read =
    let same : document_at before ≡ p = cc in
    subst (λ (p : Path). IsMadeOf p before []) same (record { rest = []; names = sym (append-nil before); parts = refl })
made_of place before ([] ∷ []) p read =
    let same : folder_at before ≡ p = cc in
    subst (λ (p : Path). IsMadeOf p before ([] ∷ [])) same (record { rest = []; names = sym (append-nil before); parts = refl })
made_of place before ([] ∷ (next ∷ more)) p read =
    let going : (is_nil {X = ℕ} [] && is_nil (next ∷ more)) ≡ false = refl in
    ⊎_elim
    (λ named. absurd (empty_segment (length before) named))
    (λ faulty. let wrong = segments_reading_fault plain_name place before [] (next ∷ more) faulty.0 going faulty.1 in absurd (cc (wrong, read)))
    (plain_segment (length before) [])
made_of place before ((byte ∷ bytes) ∷ more) p read =
    let going : (is_nil (byte ∷ bytes) && is_nil more) ≡ false = refl in
    ⊎_elim
    (λ named.
    let next = segments_reading_name plain_name place before (byte ∷ bytes) (byte ∷ bytes) more going named in
    let rest = made_of (place + length (byte ∷ bytes) + 1) (before ++ (byte ∷ bytes) ∷ []) more p (sym next ∙ read) in
    record {
      rest = (byte ∷ bytes) ∷ rest.rest;
      names = rest.names ∙ append_assoc before ((byte ∷ bytes) ∷ []) rest.rest;
      parts = ap (λ s. (byte ∷ bytes) ∷ s) rest.parts;
    })
    (λ faulty. let wrong = segments_reading_fault plain_name place before (byte ∷ bytes) more faulty.0 going faulty.1 in absurd (cc (wrong, read)))
    (plain_segment (length before) (byte ∷ bytes))

join-segments_of : (names : List (List ℕ)) (folder : Bool) → is_nil (segments_of names folder) ≡ false
    → 47 ∷ join_with_byte 47 (segments_of names folder) ≡ text_of names folder
join-segments_of [] true some = refl
join-segments_of [] false some = absurd (cc)
join-segments_of (name ∷ []) true some = sym (text_of-cons name [] true)
join-segments_of (name ∷ []) false some = ap (λ t. 47 ∷ t) (sym (append-nil name)) ∙ sym (text_of-cons name [] false)
join-segments_of (name ∷ (next ∷ names)) folder some =
    ap (λ t. 47 ∷ (name ++ t)) (join-segments_of (next ∷ names) folder refl) ∙ sym (text_of-cons name (next ∷ names) folder)

-- what is read of a plain text is written as that text
pub plain_text-plain_reading : (text : List ℕ) (p : Path) → plain_reading text ≡ Ok p → plain_text p ≡ text
plain_text-plain_reading [] p read = absurd (cc)
plain_text-plain_reading (first ∷ rest) p read =
    ⊎_elim
    (λ slash.
    let first_is : first ≡ 47 = grind (arith, nat_tests) in
    let made = made_of 1 [] (slice_split is_slash rest) p (sym (cond-true _ _ _ slash) ∙ read) in
    let some : is_nil (segments_of p.names p.folder) ≡ false = ap is_nil (ap (λ ns. segments_of ns p.folder) made.names ∙ sym made.parts) ∙ is_nil-slice_split rest in
    sym (join-segments_of p.names p.folder some)
    ∙ ap (λ s. 47 ∷ join_with_byte 47 s) (ap (λ ns. segments_of ns p.folder) made.names ∙ sym made.parts)
    ∙ ap (λ t. 47 ∷ t) (join_with_byte-slice_split 47 rest)
    ∙ ap (λ b. b ∷ rest) (sym first_is))
    (λ other.
    let wrong : Err (Bad Empty 0) ≡ Ok p = sym (cond-false (is_slash first) (segments_reading plain_name 1 [] (slice_split is_slash rest)) (Err (Bad Empty 0)) other) ∙ read in
    absurd (cc))
    (cases_Bool (is_slash first))

pub canonical : (text : List ℕ) (r : Result Path PathFault) → Reads r (plain_reading text) → IfOk r (λ p. plain_text p ≡ text)
canonical text (Ok p) read = plain_text-plain_reading text p read
canonical text (Err fault) read = tt
