-- What a longer history says of a shorter one.
use Rattle.std.proofs.Common.{◌≡◌, ◌≢◌, ℕ, ◌+◌, cond, eqb, eq-eqb, ne_eqb, List, [], ◌∷◌, ◌++◌, length, Option, Some, None, sym, refl, ap, ◌∙◌, append_assoc, arith, length-append}
use Rattle.std.proofs.lemmas.List.{append-nil, nil_from_length}
use Rattle.std.proofs.lemmas.List.Elements.{filter-append}
use Rattle.rs_path.specs.declared.log_entry.LogEntry.{LogEntry}
use Rattle.rs_turn.specs.Places.{grown_by}
use Rattle.rs_path.specs.Logs.{StartsWith, own}
use Rattle.rs_turn.specs.Entries.{entry, extended}

module _ {A : Type 0} where
  pub begins_itself : (a : List A) → StartsWith a a
  begins_itself a = ([], sym (append-nil a))

  pub begins_longer : (a b c : List A) → StartsWith a b → StartsWith (a ++ c) b
  begins_longer a b c s = (s.0 ++ c, ap (λ (z : List A). z ++ c) s.1 ∙ append_assoc b s.0 c)

module _ {W : Type 0} where
  pub of_append : (n : ℕ) (a b : List (LogEntry W)) → own n (a ++ b) ≡ own n a ++ own n b
  of_append n a b = filter-append (λ (e : LogEntry W). eqb e.who n) a b

  -- nothing of a number in a history is nothing of it in a front of it
  pub of_front : (n : ℕ) (a b : List (LogEntry W)) → StartsWith a b → own n a ≡ [] → own n b ≡ []
  of_front n a b s none = let e = ap length (sym none ∙ (ap (own n) s.1 ∙ of_append n b s.0)) in nil_from_length (own n b) (omega (arith, length-append (own n b) (own n s.0)))

  -- what stands between two histories with the same entries of a number has these too
  pub of_between : (n : ℕ) (a b c : List (LogEntry W)) → StartsWith a b → StartsWith b c → own n a ≡ own n c → own n b ≡ own n c
  of_between n a b c s t same =
      let p = ap (own n) s.1 ∙ of_append n b s.0 in
      let q = ap (own n) t.1 ∙ of_append n c t.0 in
      let e : length (own n t.0) ≡ 0 = omega (arith, ap length p, ap length q, ap length same, length-append (own n b) (own n s.0), length-append (own n c) (own n t.0)) in
      q ∙ (ap (λ (z : List (LogEntry W)). own n c ++ z) (nil_from_length (own n t.0) e) ∙ append-nil (own n c))

  pub of_extended : (n : ℕ) (h : List (LogEntry W)) (x : W) → own n (h ++ entry n x ∷ []) ≡ own n h ++ entry n x ∷ []
  of_extended n h x = of_append n h (entry n x ∷ []) ∙ ap (λ b. own n h ++ cond b (entry n x ∷ []) []) (eq-eqb n n refl)

  -- an entry of one seat is none of another's
  pub of_other : (n who : ℕ) (h : List (LogEntry W)) (e : Option W) → who ≢ n → own n (extended h who e) ≡ own n h
  of_other n who h None other = refl
  of_other n who h (Some x) other = of_append n h (entry who x ∷ []) ∙ (ap (λ b. own n h ++ cond b (entry who x ∷ []) []) (ne_eqb who n other) ∙ append-nil (own n h))

  pub begins_extended : (a b : List (LogEntry W)) (who : ℕ) (e : Option W) → StartsWith a b → StartsWith (extended a who e) b
  begins_extended a b who None s = s
  begins_extended a b who (Some x) s = begins_longer a b (entry who x ∷ []) s

  pub length_extended : (h : List (LogEntry W)) (who : ℕ) (e : Option W) → length (extended h who e) ≡ length h + grown_by e
  length_extended h who None = omega arith
  length_extended h who (Some x) = length-append h (entry who x ∷ []) ∙ omega arith
