use Rattle.std.proofs.Common.{◌≡◌, List, ℕ, Result, Ok, Err, Bor, sym, ⊎_elim}
use Rattle.std.specs.Result.{MatchResult, is_ok}
use Rattle.std.specs.Str.{IsUtf8, is_utf8}
use Rattle.std.proofs.lemmas.Bool.{cases_Bool}
use Rattle.std.proofs.lemmas.Str.{IsUtf8-from_is_utf8, is_utf8-from_IsUtf8}
use Rattle.rs_path.proofs.name.is_utf8.Goals as goal

-- a call that answers Ok just where the bytes are UTF-8 is the test
is_ok-is_utf8 : {E : Type 0} (Q : E → Type 0) (bs : List ℕ) (r : Result (Bor (List ℕ)) E)
    → MatchResult r (λ s. (s.now ≡ bs) × IsUtf8 bs) (λ e. (¬ (IsUtf8 bs)) × Q e) → is_ok r ≡ is_utf8 bs
is_ok-is_utf8 Q bs (Ok s) h = sym (is_utf8-from_IsUtf8 bs h.1)
is_ok-is_utf8 Q bs (Err e) h =
    ⊎_elim (λ yes. absurd (h.0 (IsUtf8-from_is_utf8 bs yes))) (λ no_text. sym no_text) (cases_Bool (is_utf8 bs))

pub returns : goal.returns
returns c = rw c.is_ok.ensures.value (is_ok-is_utf8 _ _ _ c.from_utf8.ensures.cases)
