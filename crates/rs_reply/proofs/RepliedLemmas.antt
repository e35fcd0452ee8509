-- What the writer of replies writes is spelled, and so it is read back.
use Rattle.std.proofs.Common.{◌≡◌, ℕ, suc, ◌/◌, ◌<◌, Bool, true, false, not, ◌&&◌, ◌||◌, eqb, cond, List, [], ◌∷◌, ◌++◌, length, map, Some, Result, Ok, Err, codes, is_ok, refl, sym, ap, ◌∙◌, subst, arith}
use Rattle.std.specs.Prelude.{All}
use Rattle.std.specs.List.{list_all, flat_map}
use Rattle.std.specs.Char.{is_ascii_digit}
use Rattle.std.specs.Str.Parse.{digits_value}
use Rattle.std.proofs.lemmas.List.{append-nil, append_assoc}
use Rattle.std.proofs.lemmas.Bool.{and_parts, eqb-true, eqb-false}
use Rattle.httparse.specs.Grammar.{crlf, IsField, is_value_byte, print_end, print_section, ResponseHead, IsResponseHead, print_response, status_code}
use Rattle.httparse.proofs.GrammarLemmas.{print_response-append}
use Rattle.rs_request.specs.declared.fault.WireWhy.{WireWhy}
use Rattle.rs_request.specs.declared.framing.Framing.{Framing}
use Rattle.rs_request.specs.declared.framing.Framing.TheVariants as framed
use Rattle.rs_reply.specs.declared.message.ReplyMessage.{ReplyMessage}
use Rattle.rs_request.specs.declared.search.Spot.TheVariants.{Before}
use Rattle.rs_request.specs.Lines.{first_empty_line}
use Rattle.rs_request.specs.Framing.{stated}
use Rattle.rs_reply.specs.Replies.{reply_framing, reply_of}
use Rattle.rs_reply.specs.ReplySpelling.{SpellsHead, Interims, none, skipped, SpellsReplyBody, SpellsReply}
use Rattle.rs_request.specs.Writing.{line_for}
use Rattle.rs_reply.specs.Writing.{phrase_of, status_digits, reply_head_text, reply_text, has_no_body, IsReplyBody, IsWritableReply}
use Rattle.rs_reply.specs.Replied.{IsReadable, IsInterim}
use Rattle.rs_request.proofs.Cited.{AllPass-from_test, lacks, lacks_by, lacks_append, line_ends, section_ends, fields_text_is, fields_back}
use Rattle.rs_reply.proofs.ReplySpellingLemmas.{spelled_reply_is_read}

-- ---- a status that has a phrase

-- its digits give it, its phrase can stand in a head, and of 100 to 199 it can only be 100
abbrev is_known : ℕ → Bool
is_known s =
    (eqb (digits_value 10 (status_digits s)) s && list_all is_ascii_digit (status_digits s))
    && (list_all is_value_byte (phrase_of s) && (eqb s 100 || not (eqb (s / 100) 1)))

by_status : (s k : ℕ) (phrase later : List ℕ) → is_known k ≡ true → (0 < length later → is_known s ≡ true) → 0 < length (cond (eqb s k) phrase later) → is_known s ≡ true
by_status s k phrase later known rest some = by_test (eqb s k) refl some
  where
    by_test : (t : Bool) → eqb s k ≡ t → 0 < length (cond t phrase later) → is_known s ≡ true
    by_test true t some = ap is_known (eqb-true s k t) ∙ known
    by_test false t some = rest some

known_by_phrase : (s : ℕ) → 0 < length (phrase_of s) → is_known s ≡ true
known_by_phrase s =
    by_status s 100 _ _ refl (by_status s 200 _ _ refl (by_status s 201 _ _ refl (by_status s 204 _ _ refl (by_status s 302 _ _ refl
    (by_status s 304 _ _ refl (by_status s 400 _ _ refl (by_status s 401 _ _ refl (by_status s 403 _ _ refl (by_status s 404 _ _ refl
    (by_status s 405 _ _ refl (by_status s 409 _ _ refl (by_status s 412 _ _ refl (by_status s 413 _ _ refl (by_status s 414 _ _ refl
    (by_status s 431 _ _ refl (by_status s 500 _ _ refl (by_status s 501 _ _ refl (by_status s 503 _ _ refl (by_status s 507 _ _ refl
    (λ some. absurd (omega (arith, some))))))))))))))))))))))

record IsKnown (s : ℕ) : Type 0 where
  digits : digits_value 10 (status_digits s) ≡ s
  all : list_all is_ascii_digit (status_digits s) ≡ true
  phrase : list_all is_value_byte (phrase_of s) ≡ true
  last : (s ≡ 100 → ⊥) → s / 100 ≡ 1 → ⊥

known : (s : ℕ) → 0 < length (phrase_of s) → IsKnown s
known s some =
    let parts = and_parts (eqb (digits_value 10 (status_digits s)) s && list_all is_ascii_digit (status_digits s)) _ (known_by_phrase s some) in
    let digits = and_parts (eqb (digits_value 10 (status_digits s)) s) (list_all is_ascii_digit (status_digits s)) parts.0 in
    let rest = and_parts (list_all is_value_byte (phrase_of s)) (eqb s 100 || not (eqb (s / 100) 1)) parts.1 in
    record { digits = eqb-true _ _ digits.0; all = digits.1; phrase = rest.0; last = by_cases (eqb s 100) (eqb (s / 100) 1) refl refl rest.1 }
  where
    by_cases : (t u : Bool) → eqb s 100 ≡ t → eqb (s / 100) 1 ≡ u → (t || not u) ≡ true → (s ≡ 100 → ⊥) → s / 100 ≡ 1 → ⊥
    by_cases true u e f holds other one = other (eqb-true s 100 e)
    by_cases false true e f holds other one = cc
    by_cases false false e f holds other one = eqb-false (s / 100) 1 f one

-- ---- the head

abbrev head_of : ReplyMessage → ResponseHead
head_of m = record {
  blank = [];
  minor = 1;
  digits = status_digits m.status;
  reason = Some (phrase_of m.status);
  line_end = crlf;
  fields = map line_for m.fields;
  last = crlf;
}

head_valid : (m : ReplyMessage) → IsKnown m.status → All IsField (map line_for m.fields) → IsResponseHead (head_of m)
head_valid m k valid = record {
  minor = omega arith;
  digits = (refl, AllPass-from_test is_ascii_digit (status_digits m.status) k.all);
  reason = AllPass-from_test is_value_byte (phrase_of m.status) k.phrase;
  fields = valid;
}

-- the first line
abbrev start : ReplyMessage → List ℕ
start m = 72 ∷ (codes "TTP/1.1 " ++ (status_digits m.status ++ 32 ∷ phrase_of m.status))

head_lines : (m : ReplyMessage) → reply_head_text m ≡ (start m ++ print_end crlf) ++ print_section (map line_for m.fields) crlf
head_lines m =
    let section = ap (λ xs. xs ++ 13 ∷ 10 ∷ []) (fields_text_is m.fields) in
    let all = print_section (map line_for m.fields) crlf in
    ap (λ xs. codes "HTTP/1.1 " ++ (status_digits m.status ++ (32 ∷ (phrase_of m.status ++ (13 ∷ 10 ∷ xs))))) section
    ∙ ap (λ xs. codes "HTTP/1.1 " ++ (status_digits m.status ++ (32 ∷ xs))) (sym (append_assoc (phrase_of m.status) (13 ∷ 10 ∷ []) all))

head_printed : (m : ReplyMessage) → reply_head_text m ≡ print_response (head_of m) ++ []
head_printed m =
    let all = print_section (map line_for m.fields) crlf in
    let section = ap (λ xs. xs ++ 13 ∷ 10 ∷ []) (fields_text_is m.fields) ∙ sym (append-nil all) in
    ap (λ xs. codes "HTTP/1.1 " ++ (status_digits m.status ++ (32 ∷ (phrase_of m.status ++ (13 ∷ 10 ∷ xs))))) section
    ∙ sym (print_response-append (head_of m) [])

head_ends : (m : ReplyMessage) → IsKnown m.status → All IsField (map line_for m.fields)
    → first_empty_line Before (reply_head_text m) ≡ Some (length (reply_head_text m))
head_ends m k valid =
    let text = head_lines m in
    let none : lacks 10 (codes "TTP/1.1 " ++ (status_digits m.status ++ 32 ∷ phrase_of m.status)) ≡ true =
    lacks_append 10 (codes "TTP/1.1 ") (status_digits m.status ++ 32 ∷ phrase_of m.status) refl
    (lacks_append 10 (status_digits m.status) (32 ∷ phrase_of m.status) (lacks_by is_ascii_digit 10 (status_digits m.status) refl k.all)
    (lacks_append 10 (32 ∷ []) (phrase_of m.status) refl (lacks_by is_value_byte 10 (phrase_of m.status) refl k.phrase))) in
    let first = line_ends Before 72 (codes "TTP/1.1 " ++ (status_digits m.status ++ 32 ∷ phrase_of m.status)) crlf refl none in
    ap (first_empty_line Before) text
    ∙ section_ends (start m ++ print_end crlf) (map line_for m.fields) crlf first valid
    ∙ ap (λ xs. Some (length xs)) (sym text)

-- the head of a reply that can be read back is spelled
head_spells : (bodiless : Bool) (m : ReplyMessage) → IsReadable bodiless m → SpellsHead (head_of m) (reply_head_text m)
head_spells bodiless m r =
    let w = r.writable in
    let k = known m.status w.phrase in record {
      breaks = [];
      dropped = refl;
      valid = head_valid m k w.valid;
      first = refl;
      whole = head_printed m ∙ append-nil (print_response (head_of m));
      ends = head_ends m k w.valid;
      short = r.short;
    }

-- ---- interim replies

interims_spell : (bodiless : Bool) (interims : List ReplyMessage) → All (IsInterim bodiless) interims → Interims (flat_map reply_text interims)
interims_spell bodiless [] all = none
interims_spell bodiless (i ∷ interims) all =
    let first = all 0 i (omega arith) in
    let k = known i.status first.readable.writable.phrase in
    let alone : reply_text i ≡ reply_head_text i = ap (λ xs. reply_head_text i ++ xs) first.empty ∙ append-nil (reply_head_text i) in
    skipped (head_of i) (reply_head_text i) (flat_map reply_text interims) (head_spells bodiless i first.readable)
    (ap (λ s. s / 100) (k.digits ∙ first.status)) (interims_spell bodiless interims (λ k d below. all (suc k) d (omega arith)))
    (ap (λ xs. xs ++ flat_map reply_text interims) alone)

-- ---- the whole reply

body_spells : (bodiless : Bool) (m : ReplyMessage) → IsWritableReply bodiless m → (framing : Framing) → stated m.fields ≡ Ok framing
    → SpellsReplyBody (reply_framing (has_no_body bodiless m.status) framing) m.body m.body
body_spells bodiless m w framing f = by_test (has_no_body bodiless m.status) refl
  where
    by_framing : (framing : Framing) → IsReplyBody (Ok framing) m.body → SpellsReplyBody framing m.body m.body
    by_framing framed.Unstated is = refl
    by_framing (framed.Length n) is = (sym is, refl)
    by_framing framed.Chunked is = absurd is

    by_test : (t : Bool) → has_no_body bodiless m.status ≡ t → SpellsReplyBody (reply_framing t framing) m.body m.body
    by_test true t = (ap length (w.empty t), refl)
    by_test false t = by_framing framing (subst (λ (r : Result Framing WireWhy). IsReplyBody r m.body) f (w.framed t))

-- what was written is spelled, also after interim replies
pub written_reply_is_spelled : (bodiless : Bool) (interims : List ReplyMessage) (m : ReplyMessage) → All (IsInterim bodiless) interims
    → IsReadable bodiless m → (m.status ≡ 100 → ⊥) → SpellsReply bodiless m (flat_map reply_text interims ++ reply_text m)
written_reply_is_spelled bodiless interims m all r other = by_stated (stated m.fields) refl r.writable.framing
  where
    by_stated : (o : Result Framing WireWhy) → stated m.fields ≡ o → is_ok o ≡ true → SpellsReply bodiless m (flat_map reply_text interims ++ reply_text m)
    by_stated (Err why) f ok = cc
    by_stated (Ok framing) f ok =
        let w = r.writable in
        let k = known m.status w.phrase in
        let code : status_code (head_of m) ≡ m.status = k.digits in
        let back = fields_back m.fields w.trimmed in record {
          interims = flat_map reply_text interims;
          text = reply_head_text m;
          tail = m.body;
          head = head_of m;
          framing = framing;
          before = interims_spell bodiless interims all;
          spells = head_spells bodiless m r;
          final = λ e. k.last other (ap (λ s. s / 100) (sym code) ∙ e);
          states = ap stated back ∙ f;
          body = subst (λ (s : ℕ). SpellsReplyBody (reply_framing (has_no_body bodiless s) framing) m.body m.body) (sym code) (body_spells bodiless m w framing f);
          whole = refl;
          same = λ i. record { status = sym code i; fields = sym back i; body = m.body };
        }

-- and so it is read
pub written_reply_is_read : (bodiless : Bool) (interims : List ReplyMessage) (m : ReplyMessage) → All (IsInterim bodiless) interims
    → IsReadable bodiless m → (m.status ≡ 100 → ⊥) → reply_of bodiless (flat_map reply_text interims ++ reply_text m) ≡ Ok m
written_reply_is_read bodiless interims m all r other =
    spelled_reply_is_read bodiless m (flat_map reply_text interims ++ reply_text m) (written_reply_is_spelled bodiless interims m all r other)
