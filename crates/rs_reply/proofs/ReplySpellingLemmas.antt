-- What is spelled as a reply is read so.
use Rattle.std.proofs.Common.{◌≡◌, ℕ, ◌+◌, ◌/◌, ◌<◌, ◌≤◌, Bool, true, List, [], ◌∷◌, ◌++◌, length, take, drop, Some, Ok, Err, refl, sym, ap, ◌∙◌, arith}
use Rattle.std.specs.Prelude.{nat_lt}
use Rattle.std.specs.List.{list_all}
use Rattle.std.specs.Option.{option_map_or}
use Rattle.std.proofs.lemmas.List.{append-nil, append_assoc, length-append, take_all, take_at, drop_at, drop-drop}
use Rattle.std.proofs.lemmas.Bool.{and_parts, cond-true, cond-false, le-ltb}
use Rattle.httparse.specs.Grammar.{ResponseHead, print_blank, print_version, print_reason, print_end, print_section, print_response, status_code}
use Rattle.httparse.proofs.GrammarLemmas.{print_response-append}
use Rattle.rs_request.specs.declared.framing.Framing.{Framing}
use Rattle.rs_request.specs.declared.framing.Framing.TheVariants as framed
use Rattle.rs_reply.specs.declared.message.ReplyMessage.{ReplyMessage}
use Rattle.rs_reply.specs.declared.reply.Chunk.{Chunk}
use Rattle.rs_request.specs.declared.search.Spot.TheVariants.{Before, Fresh}
use Rattle.rs_request.specs.Limits.{max_head, max_chunk_line, max_trailer}
use Rattle.rs_request.specs.Bodies.{has_line_end}
use Rattle.rs_request.specs.ChunkTexts.{size_of}
use Rattle.rs_request.specs.Lines.{is_break, past_breaks, first_line, first_empty_line}
use Rattle.rs_reply.specs.ReplyTexts.{response_head}
use Rattle.rs_reply.specs.Replies.{reply_head_of, judged_reply, first_byte, reply_head_at, last_head, last_chunk, chunk_at, chunks_from, reply_body, reply_framing, reply_of}
use Rattle.rs_request.specs.Spelling.{IsLine}
use Rattle.rs_reply.specs.ReplySpelling.{SpellsHead, Interims, none, skipped, ReplyChunks, chunk, last, SpellsReplyBody, SpellsReply}
use Rattle.rs_reply.specs.Writing.{has_no_body}
use Rattle.rs_request.proofs.Cited.{empty_line_is_found, first_line_is_first, window_more}
use Rattle.rs_reply.proofs.ReplyLemmas.{response_found}
use Rattle.rs_reply.proofs.ReplySteps.{head_whole, last_found, last_next, trailer_whole, data_ending, chunk_of_data, chunk_of_none, chunks_last, chunks_next, reply_whole}

-- ---- heads

breaks_dropped : (breaks xs : List ℕ) → list_all is_break breaks ≡ true → past_breaks (breaks ++ xs) ≡ past_breaks xs
breaks_dropped [] xs all = refl
breaks_dropped (b ∷ breaks) xs all =
    let parts = and_parts (is_break b) (list_all is_break breaks) all in
    cond-true (is_break b) (past_breaks (breaks ++ xs)) (b ∷ (breaks ++ xs)) parts.0 ∙ breaks_dropped breaks xs parts.1

-- a head begins with its version
head_clean : (h : ResponseHead) → h.blank ≡ [] → past_breaks (print_response h) ≡ print_response h
head_clean h blank =
    let rest = 32 ∷ (h.digits ++ (print_reason h.reason ++ (print_end h.line_end ++ (print_section h.fields h.last ++ [])))) in
    let text : print_response h ≡ print_version h.minor ++ rest =
    sym (append-nil (print_response h)) ∙ print_response-append h [] ∙ ap (λ b. print_blank b ++ (print_version h.minor ++ rest)) blank in
    ap past_breaks text ∙ sym text

end_in_window : (start : _) (limit : ℕ) (text after : List ℕ) → first_empty_line start text ≡ Some (length text) → length text ≤ limit
    → first_empty_line start (take limit (text ++ after)) ≡ Some (length text)
end_in_window start limit text after is short =
    let larger = window_more limit text after in
    ap (first_empty_line start) (larger.1 ∙ ap (λ xs. xs ++ larger.0) (take_all limit text short)) ∙ (empty_line_is_found start text (length text) is).stays larger.0

line_in_window : (limit : ℕ) (line after : List ℕ) → IsLine line → length line ≤ limit → first_line (take limit (line ++ after)) ≡ Some (length line)
line_in_window limit line after is short =
    let larger = window_more limit line after in
    ap first_line (larger.1 ∙ ap (λ xs. xs ++ larger.0) (take_all limit line short)) ∙ (first_line_is_first line (length line) is).stays larger.0

head_judged : (h : ResponseHead) (text : List ℕ) (at end : ℕ) → SpellsHead h text → judged_reply at end (past_breaks text) ≡ Ok (reply_head_of at end h)
unfolding judged_reply
head_judged h text at end s =
    let clean = head_clean h s.first in
    let alone = ap past_breaks s.whole ∙ breaks_dropped s.breaks (print_response h) s.dropped ∙ clean in
    let found = response_found (print_response h) h clean (s.valid, sym (append-nil (print_response h))) in
    ap (λ o. option_map_or (λ h. Ok (reply_head_of at end h)) o (Err at)) (ap response_head alone ∙ found)

-- a head that stands after other bytes
pub head_is_read : (h : ResponseHead) (text before after : List ℕ) → SpellsHead h text
    → reply_head_at (before ++ (text ++ after)) (length before) ≡ Ok (reply_head_of (first_byte (before ++ (text ++ after)) (length before)) (length before + length text) h)
head_is_read h text before after s =
    let n = length text in
    let at = length before in
    let rest : drop at (before ++ (text ++ after)) ≡ text ++ after = drop_at before (text ++ after) at refl in
    let found = ap (λ xs. first_empty_line Before (take max_head xs)) rest ∙ end_in_window Before max_head text after s.ends s.short in
    let alone : take n (drop at (before ++ (text ++ after))) ≡ text = ap (take n) rest ∙ take_at text after n refl in
    let place = first_byte (before ++ (text ++ after)) at in
    head_whole (before ++ (text ++ after)) at n found ∙ ap (λ xs. judged_reply place (at + n) (past_breaks xs)) alone ∙ head_judged h text place (at + n) s

-- the head that no other follows, after interim ones
last_is_read : (before interims text tail : List ℕ) (h : ResponseHead) → Interims interims → SpellsHead h text → (status_code h / 100 ≡ 1 → ⊥)
    → (place : ℕ) × (last_head (before ++ (interims ++ (text ++ tail))) (length before) ≡ Ok (reply_head_of place (length before + length interims + length text) h))
last_is_read before [] text tail h none s final =
    let at = length before in
    let place = first_byte (before ++ (text ++ tail)) at in
    let end : at + length text ≡ at + 0 + length text = omega arith in (
      place,
      last_found (before ++ (text ++ tail)) at (reply_head_of place (at + length text) h) (head_is_read h text before tail s) final
          ∙ ap (λ n. Ok (reply_head_of place n h)) end,
    )
last_is_read before interims text tail h (skipped g first rest spells interim later whole) s final =
    let at = length before in
    let after = rest ++ (text ++ tail) in
    let bytes = before ++ (first ++ after) in
    let all : before ++ (interims ++ (text ++ tail)) ≡ bytes = ap (λ xs. before ++ xs) (ap (λ xs. xs ++ (text ++ tail)) whole ∙ append_assoc first rest (text ++ tail)) in
    let again = last_is_read (before ++ first) rest text tail h later s final in
    let same : (before ++ first) ++ after ≡ bytes = append_assoc before first after in
    let front : length (before ++ first) ≡ at + length first = length-append before first in
    let inside : at ≤ length bytes = omega (arith, length-append before (first ++ after)) in
    let end : length (before ++ first) + length rest + length text ≡ at + length interims + length text = omega (arith, front, ap length whole, length-append first rest) in (
      again.0,
      ap (λ xs. last_head xs at) all
          ∙ last_next bytes at (reply_head_of (first_byte bytes at) (at + length first) g) inside (head_is_read g first before after spells) interim
          ∙ (λ i. last_head (sym same i) (sym front i)) ∙ again.1
          ∙ ap (λ n. Ok (reply_head_of again.0 n h)) end,
    )

-- ---- chunks

chunk_is_read : (before line content rest : List ℕ) → IsLine line → length line ≤ max_chunk_line → size_of line ≡ Some (length content) → 0 < length content
    → chunk_at (before ++ (line ++ (content ++ (13 ∷ 10 ∷ rest)))) (length before)
    ≡ Ok (record { line = length before + length line; size = length content; end = length before + length line + length content + 2 })
chunk_is_read before line content rest is short sized some =
    let after = content ++ (13 ∷ 10 ∷ rest) in
    let bytes = before ++ (line ++ after) in
    let at = length before in
    let n = length line in
    let size = length content in
    let here : drop at bytes ≡ line ++ after = drop_at before (line ++ after) at refl in
    let found = ap (λ xs. first_line (take max_chunk_line xs)) here ∙ line_in_window max_chunk_line line after is short in
    let alone : take n (drop at bytes) ≡ line = ap (take n) here ∙ take_at line after n refl in
    let past : drop (at + n) bytes ≡ after = sym (drop-drop n at bytes) ∙ ap (drop n) here ∙ drop_at line after n refl in
    let end : drop (at + n + size) bytes ≡ 13 ∷ 10 ∷ rest = sym (drop-drop size (at + n) bytes) ∙ ap (drop size) past ∙ drop_at content (13 ∷ 10 ∷ rest) size refl in
    let good : has_line_end (drop (at + n + size) bytes) ≡ true = ap has_line_end end in
    let enough = length-append before (line ++ after) in
    chunk_of_data bytes at n size found (ap size_of alone ∙ sized) (λ e. absurd (omega (arith, some, e)))
    ∙ data_ending bytes at (at + n) size true (omega (arith, enough, length-append line after, length-append content (13 ∷ 10 ∷ rest)))
    (omega (arith, enough, length-append line after, length-append content (13 ∷ 10 ∷ rest))) good

last_chunk_is_read : (before line trailer : List ℕ) → IsLine line → length line ≤ max_chunk_line → size_of line ≡ Some 0
    → first_empty_line Fresh trailer ≡ Some (length trailer) → length trailer ≤ max_trailer
    → chunk_at (before ++ (line ++ trailer)) (length before)
    ≡ Ok (record { line = length before + length line; size = 0; end = length before + length line + length trailer })
last_chunk_is_read before line trailer is short sized ends brief =
    let bytes = before ++ (line ++ trailer) in
    let at = length before in
    let n = length line in
    let here : drop at bytes ≡ line ++ trailer = drop_at before (line ++ trailer) at refl in
    let found = ap (λ xs. first_line (take max_chunk_line xs)) here ∙ line_in_window max_chunk_line line trailer is short in
    let alone : take n (drop at bytes) ≡ line = ap (take n) here ∙ take_at line trailer n refl in
    let past : drop (at + n) bytes ≡ trailer = sym (drop-drop n at bytes) ∙ ap (drop n) here ∙ drop_at line trailer n refl in
    let window = ap (λ xs. first_empty_line Fresh (take max_trailer xs)) past ∙ ap (first_empty_line Fresh) (take_all max_trailer trailer brief) ∙ ends in
    chunk_of_none bytes at n 0 found (ap size_of alone ∙ sized) refl
    ∙ ap (last_chunk (at + n)) (trailer_whole bytes (at + n) (length trailer) window)

chunks_are_read : (body bytes : List ℕ) → ReplyChunks body bytes → (before so_far : List ℕ)
    → chunks_from (before ++ bytes) so_far (length before) ≡ Ok (so_far ++ body, length (before ++ bytes))
chunks_are_read body bytes (chunk line content later rest is short sized some chunks body_is bytes_is) before so_far =
    let at = length before in
    let text = line ++ (content ++ (13 ∷ 10 ∷ rest)) in
    let whole = before ++ text in
    let c : Chunk = record { line = at + length line; size = length content; end = at + length line + length content + 2 } in
    let start = line ++ (content ++ (13 ∷ 10 ∷ [])) in
    let front = before ++ start in
    let split : text ≡ start ++ rest = ap (λ xs. line ++ xs) (sym (append_assoc content (13 ∷ 10 ∷ []) rest)) ∙ sym (append_assoc line (content ++ (13 ∷ 10 ∷ [])) rest) in
    let same : whole ≡ front ++ rest = ap (λ xs. before ++ xs) split ∙ sym (append_assoc before start rest) in
    let end : at + length line + length content + 2 ≡ length front =
    omega (arith, length-append before start, length-append line (content ++ (13 ∷ 10 ∷ [])), length-append content (13 ∷ 10 ∷ [])) in
    let past : drop (at + length line) whole ≡ content ++ (13 ∷ 10 ∷ rest) =
    sym (drop-drop (length line) at whole) ∙ ap (drop (length line)) (drop_at before text at refl) ∙ drop_at line (content ++ (13 ∷ 10 ∷ rest)) (length line) refl in
    let data_is : take (length content) (drop (at + length line) whole) ≡ content = ap (take (length content)) past ∙ take_at content (13 ∷ 10 ∷ rest) (length content) refl in
    let inside : at ≤ length whole = omega (arith, length-append before text) in
    let again = chunks_are_read later rest chunks front (so_far ++ content) in
    let joined : (so_far ++ content) ++ later ≡ so_far ++ body = append_assoc so_far content later ∙ ap (λ xs. so_far ++ xs) (sym body_is) in
    let all : front ++ rest ≡ before ++ bytes = sym same ∙ ap (λ xs. before ++ xs) (sym bytes_is) in
    ap (λ xs. chunks_from (before ++ xs) so_far at) bytes_is
    ∙ chunks_next whole so_far at c inside (chunk_is_read before line content rest is short sized some) (λ e. absurd (omega (arith, some, e)))
    ∙ (λ i. chunks_from (same i) (so_far ++ data_is i) (end i))
    ∙ again ∙ (λ i. Ok (joined i, length (all i)))
chunks_are_read [] bytes (last line trailer is short sized ends brief bytes_is) before so_far =
    let at = length before in
    let whole = before ++ (line ++ trailer) in
    let c : Chunk = record { line = at + length line; size = 0; end = at + length line + length trailer } in
    let end : at + length line + length trailer ≡ length (before ++ bytes) =
    omega (arith, length-append before bytes, ap length bytes_is, length-append line trailer) in
    ap (λ xs. chunks_from (before ++ xs) so_far at) bytes_is
    ∙ chunks_last whole so_far at c (last_chunk_is_read before line trailer is short sized ends brief) refl
    ∙ (λ i. Ok (sym (append-nil so_far) i, end i))

-- ---- the whole reply

body_is_read : (framing : Framing) (body tail before : List ℕ) → SpellsReplyBody framing body tail
    → reply_body (before ++ tail) (length before) framing ≡ Ok (body, length (before ++ tail))
body_is_read framed.Unstated body tail before s = ap (λ xs. Ok (xs, length (before ++ tail))) (drop_at before tail (length before) refl ∙ s)
body_is_read (framed.Length n) body tail before s =
    let bytes = before ++ tail in
    let at = length before in
    let size = s.0 in
    let here : drop at bytes ≡ tail = drop_at before tail at refl in
    let count : length tail ≡ n = ap length s.1 ∙ size in
    let enough : length (drop at bytes) ≡ n = ap length here ∙ count in
    let all : take n (drop at bytes) ≡ body = take_all n (drop at bytes) (omega (arith, enough)) ∙ here ∙ s.1 in
    let end : at + n ≡ length bytes = omega (arith, count, length-append before tail) in
    cond-false (nat_lt (length (drop at bytes)) n) (Err (length bytes)) (Ok (take n (drop at bytes), at + n)) (le-ltb (length (drop at bytes)) n (omega (arith, enough)))
    ∙ (λ i. Ok (all i, end i))
body_is_read framed.Chunked body tail before s = chunks_are_read body tail s before []

pub spelled_reply_is_read : (bodiless : Bool) (m : ReplyMessage) (bytes : List ℕ) → SpellsReply bodiless m bytes → reply_of bodiless bytes ≡ Ok m
spelled_reply_is_read bodiless m bytes s =
    let h = s.head in
    let found = last_is_read [] s.interims s.text s.tail h s.before s.spells s.final in
    let end = length s.interims + length s.text in
    let all : bytes ≡ (s.interims ++ s.text) ++ s.tail = s.whole ∙ sym (append_assoc s.interims s.text s.tail) in
    let place : end ≡ length (s.interims ++ s.text) = sym (length-append s.interims s.text) in
    let far : 0 + length s.interims + length s.text ≡ end = omega arith in
    let head = ap (λ xs. last_head xs 0) s.whole ∙ found.1 ∙ ap (λ n. Ok (reply_head_of found.0 n h)) far in
    let framing = reply_framing (has_no_body bodiless (status_code h)) s.framing in
    let body = (λ i. reply_body (all i) (place i) framing) ∙ body_is_read framing m.body s.tail (s.interims ++ s.text) s.body
    ∙ (λ i. Ok (m.body, length (sym all i))) in
    reply_whole bodiless bytes (reply_head_of found.0 end h) s.framing m.body (length bytes) head s.states body (omega arith) ∙ ap Ok (sym s.same)
