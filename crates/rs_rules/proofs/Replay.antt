-- A value that is followed over entries, over one more and over more of them.
use Rattle.std.proofs.Common.{◌≡◌, ℕ, ◌+◌, List, [], ◌∷◌, ◌++◌, length, arith, ap, ◌∙◌}
use Rattle.std.proofs.lemmas.List.{length_push}
use Rattle.rs_path.specs.declared.log_entry.LogEntry.{LogEntry}
use Rattle.rs_record.specs.declared.records.Record.{Record}
use Rattle.rs_rules.specs.Histories.{History, len, with_entry, replay}

pub replay-append : {S : Type 0} (step : ℕ → Record → S → S) (n : ℕ) (s : S) (xs ys : List (LogEntry Record))
    → replay step n s (xs ++ ys) ≡ replay step (n + length xs) (replay step n s xs) ys
replay-append step n s [] ys = let same : n ≡ n + 0 = omega arith in ap (λ k. replay step k s ys) same
replay-append step n s (e ∷ xs) ys =
    let same : (n + 1) + length xs ≡ n + length (e ∷ xs) = omega arith in
    replay-append step (n + 1) (step (n + 1) e.what s) xs ys
    ∙ ap (λ k. replay step k (replay step (n + 1) (step (n + 1) e.what s) xs) ys) same

pub replay-push : {S : Type 0} (step : ℕ → Record → S → S) (n : ℕ) (s : S) (xs : List (LogEntry Record)) (e : LogEntry Record)
    → replay step n s (xs ++ e ∷ []) ≡ step ((n + length xs) + 1) e.what (replay step n s xs)
replay-push step n s xs e = replay-append step n s xs (e ∷ [])

pub len-with_entry : (h : History) (e : LogEntry Record) → len (with_entry h e) ≡ len h + 1
len-with_entry h e = omega (arith, length_push h.entries e)
