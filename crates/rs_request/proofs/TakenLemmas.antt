-- What is read as a request is spelled so, and the other way round.
use Rattle.std.proofs.Common.{◌≡◌, ℕ, ◌+◌, ◌-◌, Bool, true, false, not, ◌&&◌, cond, List, [], ◌∷◌, ◌++◌, length, take, drop, Some, None, Ok, refl, sym, ap, ◌∙◌, subst, arith}
use Rattle.std.specs.List.{list_all}
use Rattle.std.proofs.lemmas.List.{append-nil, append_assoc, length-append, take-append-drop, drop_at}
use Rattle.std.proofs.lemmas.Bool.{and_from}
use Rattle.httparse.specs.Grammar.{print_request}
use Rattle.httparse.proofs.GrammarLemmas.{print_request-append}
use Rattle.rs_request.specs.declared.message.RequestMessage.{RequestMessage}
use Rattle.rs_request.specs.declared.message.Step.TheVariants.{Message}
use Rattle.rs_request.specs.Limits.{max_head}
use Rattle.rs_request.specs.declared.search.Spot.TheVariants.{Before}
use Rattle.rs_request.specs.Lines.{is_break, past_breaks, first_empty_line}
use Rattle.rs_request.specs.Readings.{Fed, next_of, interim, message, step_of, fed_after}
use Rattle.rs_request.specs.Division.{message_at, Divides, fed_next}
use Rattle.rs_request.specs.Laws.{awaits}
use Rattle.rs_request.specs.Taken.{BeginsWithRequest, SpellsAll}
use Rattle.rs_request.proofs.RequestLemmas.{request_reads, no_blank}
use Rattle.rs_request.proofs.HeadLemmas.{past_breaks_twice}
use Rattle.rs_request.proofs.DivisionLemmas.{next_message}
use Rattle.rs_request.proofs.SpellingLemmas.{spelled_is_read}
use Rattle.rs_request.proofs.AnswerLemmas.{head_is_read, message_is_read, message_answered}
use Rattle.rs_request.proofs.RestLemmas.{end_of_window, body_is_spelled}

-- ---- the line ends before a head

pub record IsBroken (xs : List ℕ) : Type 0 where
  pub breaks : List ℕ
  pub dropped : list_all is_break breaks ≡ true
  pub whole : xs ≡ breaks ++ past_breaks xs

pub broken : (xs : List ℕ) → IsBroken xs
broken [] = record { breaks = []; dropped = refl; whole = refl }
broken (x ∷ xs) =
    let later = broken xs in
    let r = by_test (is_break x) refl later.breaks later.dropped later.whole in
    record { breaks = r.0; dropped = r.1; whole = r.2 }
  where
    by_test : (t : Bool) → is_break x ≡ t → (breaks : List ℕ) → list_all is_break breaks ≡ true → xs ≡ breaks ++ past_breaks xs
        → (all : List ℕ) × (list_all is_break all ≡ true) × (x ∷ xs ≡ all ++ cond t (past_breaks xs) (x ∷ xs))
    by_test true t breaks dropped whole = (x ∷ breaks, and_from _ _ t dropped, ap (λ ys. x ∷ ys) whole)
    by_test false t breaks dropped whole = ([], refl, refl)

-- ---- a request

pub begins_with : (place : ℕ) (bytes : List ℕ) (m : RequestMessage) (next : ℕ) → message_at place bytes ≡ Some (m, next) → BeginsWithRequest place bytes m next
begins_with place bytes m next e =
    let r = message_is_read place bytes m next e in
    let n = r.count in
    let read = head_is_read place bytes r.begun n r.head in
    let window = end_of_window Before max_head n bytes read.ends in
    let low = window.0.low in
    let count = window.0.count in
    let T = take n bytes in
    let h = read.head in
    let reads = request_reads (past_breaks T) h read.is in
    let none = no_blank h.blank (past_breaks T) _ (past_breaks_twice T) (reads.1 ∙ print_request-append h []) in
    let split = broken T in
    let text : T ≡ split.breaks ++ print_request h = split.whole ∙ ap (λ xs. split.breaks ++ xs) (reads.1 ∙ append-nil (print_request h)) in
    let tail = body_is_spelled r.begun.framing (place + n) (drop n bytes) m.body next r.body in
    let end = tail.place in
    let head = split.breaks ++ print_request h in
    let size : length head ≡ n = sym (ap length text) ∙ count in record {
      text = head ++ tail.text;
      rest = tail.rest;
      whole = sym (take-append-drop n bytes) ∙ (λ i. text i ++ tail.whole i) ∙ sym (append_assoc head tail.text tail.rest);
      end = omega (arith, end, size, length-append head tail.text);
      spells = record {
        breaks = split.breaks;
        head = h;
        begun = r.begun;
        tail = tail.text;
        dropped = split.dropped;
        valid = reads.0;
        first = none;
        ends = subst (λ (xs : List ℕ). first_empty_line Before xs ≡ Some (length xs)) text window.1;
        short = omega (arith, size, low);
        judged = read.judged;
        whole = refl;
        body = tail.spells;
        same = r.same;
      };
    }

pub read_where_it_begins : (place : ℕ) (bytes : List ℕ) (m : RequestMessage) (next : ℕ) → BeginsWithRequest place bytes m next → message_at place bytes ≡ Some (m, next)
read_where_it_begins place bytes m next b =
    let end = b.end in
    ap (message_at place) b.whole ∙ spelled_is_read place m b.text b.rest b.spells ∙ (λ i. Some (m, sym end i))

-- ---- what a reader answers

pub given_begins : (fed : Fed) (m : RequestMessage) → step_of (next_of fed) ≡ Ok (Message m)
    → (next : ℕ) × BeginsWithRequest fed.place fed.bytes m next × (fed_after fed (next_of fed) ≡ fed_next fed next)
given_begins fed m e =
    let r = next_message fed m e in
    (r.0, begins_with fed.place fed.bytes m r.0 r.1, r.2)

pub begun_is_given : (fed : Fed) (m : RequestMessage) (next : ℕ) → fed.fault ≡ None → BeginsWithRequest fed.place fed.bytes m next
    → next_of fed ≡ cond (awaits m && not fed.told) interim (message m next)
begun_is_given fed m next none b = message_answered fed m next none (read_where_it_begins fed.place fed.bytes m next b)

-- ---- a stream

pub divided_is_spelled : (ms : List RequestMessage) (place : ℕ) (bytes : List ℕ) (end : ℕ) (rest : List ℕ) → Divides place bytes ms end rest
    → SpellsAll place bytes ms end rest
divided_is_spelled [] place bytes end rest d = d
divided_is_spelled (m ∷ ms) place bytes end rest d =
    let next = d.0 in
    let b = begins_with place bytes m next d.1 in
    let is = b.end in
    let size : next - place ≡ length b.text = omega (arith, is) in
    let after : drop (next - place) bytes ≡ b.rest = (λ i. drop (size i) (b.whole i)) ∙ drop_at b.text b.rest (length b.text) refl in
    let later = subst (λ (k : ℕ). Divides k (drop (next - place) bytes) ms end rest) is d.2 in
    let moved = subst (λ (xs : List ℕ). Divides (place + length b.text) xs ms end rest) after later in
    (b.text, b.rest, b.whole, b.spells, divided_is_spelled ms (place + length b.text) b.rest end rest moved)

pub spelled_is_divided : (ms : List RequestMessage) (place : ℕ) (bytes : List ℕ) (end : ℕ) (rest : List ℕ) → SpellsAll place bytes ms end rest
    → Divides place bytes ms end rest
spelled_is_divided [] place bytes end rest s = s
spelled_is_divided (m ∷ ms) place bytes end rest s =
    let text = s.0 in
    let later = s.1 in
    let next = place + length text in
    let size : next - place ≡ length text = omega arith in
    let after : drop (next - place) bytes ≡ later = (λ i. drop (size i) (s.2 i)) ∙ drop_at text later (length text) refl in (
      next,
      ap (message_at place) s.2 ∙ spelled_is_read place m text later s.3,
      subst (λ (xs : List ℕ). Divides next xs ms end rest) (sym after) (spelled_is_divided ms next later end rest s.4),
    )
