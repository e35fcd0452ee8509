-- What is spelled is read, whatever follows.
use Rattle.std.proofs.Common.{◌≡◌, ℕ, ◌+◌, ◌<◌, ◌≤◌, true, false, eqb, List, [], ◌∷◌, ◌++◌, length, take, drop, Some, Ok, Err, refl, sym, ap, ◌∙◌, arith}
use Rattle.std.specs.List.{list_all}
use Rattle.std.proofs.lemmas.List.{append-nil, append_assoc, length-append, drop-drop, take_all, take_at, drop_at, nil_from_length}
use Rattle.std.proofs.lemmas.Bool.{and_parts, cond-true, cond-false, le-ltb, ne_eqb, both_ways, or_from}
use Rattle.httparse.specs.Grammar.{RequestHead, IsRequestHead, print_request, print_blank, is_token_byte, print_version, print_end, print_section}
use Rattle.httparse.proofs.GrammarLemmas.{print_request-append}
use Rattle.rs_request.specs.declared.fault.WireWhy.TheVariants.{BadChunk, BodyLong}
use Rattle.rs_request.specs.declared.framing.Framing.{Framing}
use Rattle.rs_request.specs.declared.framing.Framing.TheVariants as framed
use Rattle.rs_request.specs.declared.body.Part.TheVariants.{Length, Line, Data, Trailer}
use Rattle.rs_request.specs.declared.head.Begun.{Begun}
use Rattle.rs_request.specs.declared.message.RequestMessage.{RequestMessage}
use Rattle.rs_request.specs.declared.search.Spot.TheVariants.{Before, Fresh}
use Rattle.rs_path.specs.Limits.{max_body}
use Rattle.rs_request.specs.Limits.{max_head, max_chunk_line, max_trailer}
use Rattle.rs_request.specs.Lines.{is_break, past_breaks, first_line, first_empty_line}
use Rattle.rs_request.specs.ChunkTexts.{size_of}
use Rattle.rs_request.specs.RequestHeads.{judged_request, with_length, head_at}
use Rattle.rs_request.specs.Bodies.{ended, waits, goes, ends, fails, fault_at, part_after, next_part, size_turn, line_turn, trailer_turn, has_line_end, first_part, body_from}
use Rattle.rs_request.specs.Readings.{begun, reading_by, request_reading}
use Rattle.rs_request.specs.Division.{message_by, message_at}
use Rattle.rs_request.specs.Spelling.{IsLine, Chunks, chunk, last, SpellsBody, SpellsRequest}
use Rattle.rs_request.proofs.LinesLemmas.{empty_line_is_found, first_line_is_first, window_more}
use Rattle.rs_request.proofs.TextLemmas.{test_from_AllPass, no_token_10, no_token_13}
use Rattle.rs_request.proofs.RequestLemmas.{request_found}
use Rattle.rs_request.proofs.HeadLemmas.{judged_some, head_text}
use Rattle.rs_request.proofs.BodyLemmas.{body_step}

-- ---- a text in its window

line_in_window : (limit : ℕ) (line after : List ℕ) → IsLine line → length line ≤ limit → first_line (take limit (line ++ after)) ≡ Some (length line)
line_in_window limit line after is short =
    let larger = window_more limit line after in
    ap first_line (larger.1 ∙ ap (λ xs. xs ++ larger.0) (take_all limit line short)) ∙ (first_line_is_first line (length line) is).stays larger.0

end_in_window : (start : _) (limit : ℕ) (text after : List ℕ) → first_empty_line start text ≡ Some (length text) → length text ≤ limit
    → first_empty_line start (take limit (text ++ after)) ≡ Some (length text)
end_in_window start limit text after is short =
    let larger = window_more limit text after in
    ap (first_empty_line start) (larger.1 ∙ ap (λ xs. xs ++ larger.0) (take_all limit text short)) ∙ (empty_line_is_found start text (length text) is).stays larger.0

-- ---- chunks

line_goes : (b line after : List ℕ) (at size : ℕ) → IsLine line → length line ≤ max_chunk_line → size_of line ≡ Some size → length b + size ≤ max_body
    → body_from (Line 0) b at (line ++ after) ≡ body_from (part_after size) b (at + length line) after
line_goes b line after at size is short sized small =
    let found = line_in_window max_chunk_line line after is short in
    let text = take_at line after (length line) refl in
    let next : next_part (length b) (size_of (take (length line) (line ++ after))) ≡ Ok (part_after size) =
    ap (λ xs. next_part (length b) (size_of xs)) text ∙ ap (next_part (length b)) sized
    ∙ cond-false _ (Err BodyLong) (Ok (part_after size)) (le-ltb _ _ small) in
    body_step (Line 0) b at (line ++ after) (goes (part_after size) b (length line))
    (ap (line_turn b at (line ++ after)) found ∙ ap (size_turn b at (length line)) next)
    ∙ ap (body_from (part_after size) b (at + length line)) (drop_at line after (length line) refl)

data_goes : (b content rest : List ℕ) (at : ℕ)
    → body_from (Data (length content)) b at (content ++ (13 ∷ 10 ∷ rest)) ≡ body_from (Line 0) (b ++ content) (at + (length content + 2)) rest
data_goes b content rest at =
    let n = length content in
    let xs = content ++ (13 ∷ 10 ∷ rest) in
    let enough : n + 2 ≤ length xs = omega (arith, length-append content (13 ∷ 10 ∷ rest)) in
    let after : drop n xs ≡ 13 ∷ 10 ∷ rest = drop_at content (13 ∷ 10 ∷ rest) n refl in
    let content_is : take n xs ≡ content = take_at content (13 ∷ 10 ∷ rest) n refl in
    let rest_is : drop (n + 2) xs ≡ rest = sym (drop-drop 2 n xs) ∙ ap (drop 2) after in
    let good : has_line_end (drop n xs) ≡ true = ap has_line_end after in
    body_step (Data n) b at xs (goes (Line 0) (b ++ take n xs) (n + 2))
    (cond-false _ waits _ (le-ltb _ _ enough) ∙ cond-true _ (goes (Line 0) (b ++ take n xs) (n + 2)) (fails (fault_at BadChunk (at + n))) good)
    ∙ (λ i. body_from (Line 0) (b ++ content_is i) (at + (n + 2)) (rest_is i))

trailer_ends : (b trailer after : List ℕ) (at : ℕ) → first_empty_line Fresh trailer ≡ Some (length trailer) → length trailer ≤ max_trailer
    → body_from (Trailer (record { sought = 0; spot = Fresh })) b at (trailer ++ after) ≡ ended b (at + length trailer)
trailer_ends b trailer after at is short =
    body_step (Trailer (record { sought = 0; spot = Fresh })) b at (trailer ++ after) (ends b (length trailer))
    (ap (trailer_turn b at (trailer ++ after)) (end_in_window Fresh max_trailer trailer after is short))

chunks_read : (so_far : ℕ) (body bytes : List ℕ) → Chunks so_far body bytes → (b after : List ℕ) (at : ℕ) → length b ≡ so_far
    → body_from (Line 0) b at (bytes ++ after) ≡ ended (b ++ body) (at + length bytes)
chunks_read so_far body bytes (chunk line content later rest is short sized some small chunks body_is bytes_is) b after at same =
    let n = length content in
    let low : length b + n ≤ max_body = omega arith in
    let next : part_after n ≡ Data n = cond-false (eqb n 0) (Trailer (record { sought = 0; spot = Fresh })) (Data n) (ne_eqb n 0 (λ none. absurd (omega arith))) in
    let text : bytes ++ after ≡ line ++ (content ++ (13 ∷ 10 ∷ (rest ++ after))) =
    ap (λ xs. xs ++ after) bytes_is ∙ append_assoc line (content ++ (13 ∷ 10 ∷ rest)) after ∙ ap (λ xs. line ++ xs) (append_assoc content (13 ∷ 10 ∷ rest) after) in
    let sum : length (b ++ content) ≡ so_far + n = omega (arith, length-append b content) in
    let place : at + length line + (n + 2) + length rest ≡ at + length bytes =
    omega (arith, ap length bytes_is, length-append line (content ++ (13 ∷ 10 ∷ rest)), length-append content (13 ∷ 10 ∷ rest)) in
    ap (body_from (Line 0) b at) text
    ∙ line_goes b line (content ++ (13 ∷ 10 ∷ (rest ++ after))) at n is short sized low
    ∙ ap (λ p. body_from p b (at + length line) (content ++ (13 ∷ 10 ∷ (rest ++ after)))) next
    ∙ data_goes b content (rest ++ after) (at + length line)
    ∙ chunks_read (so_far + n) later rest chunks (b ++ content) after (at + length line + (n + 2)) sum
    ∙ (λ i. ended ((append_assoc b content later ∙ ap (λ xs. b ++ xs) (sym body_is)) i) (place i))
chunks_read so_far [] bytes (last line trailer is short sized small ending brief bytes_is) b after at same =
    let low : length b + 0 ≤ max_body = omega arith in
    let text : bytes ++ after ≡ line ++ (trailer ++ after) = ap (λ xs. xs ++ after) bytes_is ∙ append_assoc line trailer after in
    let place : at + length line + length trailer ≡ at + length bytes = omega (arith, ap length bytes_is, length-append line trailer) in
    ap (body_from (Line 0) b at) text
    ∙ line_goes b line (trailer ++ after) at 0 is short sized low
    ∙ trailer_ends b trailer after (at + length line) ending brief
    ∙ (let back = sym (append-nil b) in λ i. ended (back i) (place i))

-- ---- a body

length_read : (n : ℕ) (body after : List ℕ) (at : ℕ) → length body ≡ n → body_from (Length n) [] at (body ++ after) ≡ ended body (at + length body)
length_read n body after at same =
    let enough : n ≤ length (body ++ after) = omega (arith, length-append body after) in
    let place : at + n ≡ at + length body = omega arith in
    body_step (Length n) [] at (body ++ after) (ends (take n (body ++ after)) n) (cond-false _ waits (ends (take n (body ++ after)) n) (le-ltb _ _ enough))
    ∙ (λ i. ended (take_at body after n same i) (place i))

body_read : (framing : Framing) (body bytes after : List ℕ) (at : ℕ) → SpellsBody framing body bytes
    → body_from (first_part framing) [] at (bytes ++ after) ≡ ended body (at + length bytes)
body_read framed.Unstated body bytes after at spells =
    let none = spells.0 in
    let empty = spells.1 in
    ap (λ xs. body_from (Length 0) [] at (xs ++ after)) empty ∙ length_read 0 [] after at refl
    ∙ (λ i. ended (sym none i) (at + length (sym empty i)))
body_read (framed.Length n) body bytes after at spells =
    ap (λ xs. body_from (Length n) [] at (xs ++ after)) spells.1 ∙ length_read n body after at spells.0
    ∙ ap (λ xs. ended body (at + length xs)) (sym spells.1)
body_read framed.Chunked body bytes after at spells = chunks_read 0 body bytes spells [] after at refl

-- ---- a head

breaks_dropped : (breaks xs : List ℕ) → list_all is_break breaks ≡ true → past_breaks (breaks ++ xs) ≡ past_breaks xs
breaks_dropped [] xs all = refl
breaks_dropped (b ∷ breaks) xs all =
    let parts = and_parts (is_break b) (list_all is_break breaks) all in
    cond-true (is_break b) (past_breaks (breaks ++ xs)) (b ∷ (breaks ++ xs)) parts.0 ∙ breaks_dropped breaks xs parts.1

no_break : (b : ℕ) → is_token_byte b ≡ true → is_break b ≡ false
no_break b token =
    or_from _ _ (ne_eqb b 13 (λ e. both_ways (is_token_byte 13) no_token_13 (ap is_token_byte (sym e) ∙ token)))
    (ne_eqb b 10 (λ e. both_ways (is_token_byte 10) no_token_10 (ap is_token_byte (sym e) ∙ token)))

-- a head that begins with its method begins with no line end
head_clean : (h : RequestHead) → h.blank ≡ [] → IsRequestHead h → past_breaks (print_request h) ≡ print_request h
head_clean h none valid =
    let rest = print_end h.line_end ++ (print_section h.fields h.last ++ []) in
    let text = sym (append-nil (print_request h)) ∙ print_request-append h []
    ∙ ap (λ b. print_blank b ++ (h.method ++ 32 ∷ (h.target ++ 32 ∷ (print_version h.minor ++ rest)))) none in
    ap past_breaks text ∙ by_method h.method valid.method.0 (test_from_AllPass is_token_byte h.method valid.method.1) (32 ∷ (h.target ++ 32 ∷ (print_version h.minor ++ rest))) ∙ sym text
  where
    by_method : (method : List ℕ) → 0 < length method → list_all is_token_byte method ≡ true → (xs : List ℕ) → past_breaks (method ++ xs) ≡ method ++ xs
    by_method [] some all xs = absurd (omega arith)
    by_method (b ∷ method) some all xs =
        cond-false (is_break b) (past_breaks (method ++ xs)) (b ∷ (method ++ xs)) (no_break b (and_parts (is_token_byte b) (list_all is_token_byte method) all).0)

head_read : (place : ℕ) (m : RequestMessage) (bytes : List ℕ) (s : SpellsRequest place m bytes) (after : List ℕ)
    → head_at place ((s.breaks ++ print_request s.head) ++ after) ≡ Some (Ok (s.begun, length (s.breaks ++ print_request s.head)))
head_read place m bytes s after =
    let T = s.breaks ++ print_request s.head in
    let n = length T in
    let h = s.head in
    let clean = head_clean h s.first s.valid in
    let text : past_breaks (take n (T ++ after)) ≡ print_request h = ap past_breaks (take_at T after n refl) ∙ breaks_dropped s.breaks (print_request h) s.dropped ∙ clean in
    let found = request_found (print_request h) h clean (s.valid, sym (append-nil (print_request h))) in
    head_text place (T ++ after) n (end_in_window Before max_head T after s.ends s.short)
    ∙ ap (λ r. Some (with_length n r)) (ap (judged_request place) text ∙ judged_some place (print_request h) h found ∙ s.judged)

-- ---- a message

reading_read : (place : ℕ) (b : Begun) (n : ℕ) (T tail : List ℕ) (body : List ℕ) (end : ℕ) → length T ≡ n → head_at place (T ++ tail) ≡ Some (Ok (b, n))
    → body_from (first_part b.framing) [] (place + n) tail ≡ ended body end → request_reading place (T ++ tail) ≡ begun b (ended body end)
unfolding request_reading
reading_read place b n T tail body end same e whole =
    ap (reading_by place (T ++ tail)) e ∙ ap (λ xs. begun b (body_from (first_part b.framing) [] (place + n) xs)) (drop_at T tail n same) ∙ ap (begun b) whole

pub spelled_is_read : (place : ℕ) (m : RequestMessage) (bytes after : List ℕ) → SpellsRequest place m bytes → message_at place (bytes ++ after) ≡ Some (m, place + length bytes)
unfolding message_at
spelled_is_read place m bytes after s =
    let T = s.breaks ++ print_request s.head in
    let n = length T in
    let text : bytes ++ after ≡ T ++ (s.tail ++ after) = ap (λ xs. xs ++ after) s.whole ∙ append_assoc T s.tail after in
    let body = body_read s.begun.framing m.body s.tail after (place + n) s.body in
    let end : place + n + length s.tail ≡ place + length bytes = omega (arith, ap length s.whole, length-append T s.tail) in
    ap (λ xs. message_by (request_reading place xs)) text
    ∙ ap message_by (reading_read place s.begun n T (s.tail ++ after) m.body (place + n + length s.tail) refl (head_read place m bytes s (s.tail ++ after)) body)
    ∙ (λ i. Some (sym s.same i, end i))

-- no spelling is a proper prefix of one
pub no_proper_prefix : (place : ℕ) (m k : RequestMessage) (bytes after : List ℕ) → SpellsRequest place m bytes → SpellsRequest place k (bytes ++ after) → (m ≡ k) × (after ≡ [])
no_proper_prefix place m k bytes after s t =
    let first = spelled_is_read place m bytes after s in
    let second = ap (message_at place) (sym (append-nil (bytes ++ after))) ∙ spelled_is_read place k (bytes ++ after) [] t in
    let p : ◌≡◌ {A = RequestMessage × ℕ} (m, place + length bytes) (k, place + length (bytes ++ after)) = (let both = sym first ∙ second in cc) in
    let lengths : place + length bytes ≡ place + length (bytes ++ after) = λ i. (p i).1 in
    ((λ i. (p i).0), nil_from_length after (omega (arith, length-append bytes after)))
