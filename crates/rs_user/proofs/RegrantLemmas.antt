-- Histories that go on by revocations and grants of one token, and show what they showed.
use Rattle.std.proofs.Common.{◌≡◌, ℕ, zero, suc, ◌+◌, ◌*◌, ◌<◌, ◌≤◌, true, cond, List, [], ◌∷◌, ◌++◌, length, Option, Some, None, refl, sym, ap, ◌∙◌, subst, ⊎_elim, arith, length-append, append-nil, append_assoc}
use Rattle.std.specs.Prelude.{is_some, is_none}
use Rattle.std.specs.Str.{bytes_eq}
use Rattle.std.proofs.lemmas.Bool.{cases_Bool, cond-true, cond-false, true≢false}
use Rattle.std.proofs.lemmas.Slice.Eq.{bytes_eq-Decides}
use Rattle.rs_path.specs.declared.log_entry.LogEntry.{LogEntry}
use Rattle.rs_scope.specs.declared.scope.Scope.{Scope}
use Rattle.rs_record.specs.declared.records.Record.TheVariants.{Grant, Revoke}
use Rattle.rs_record.specs.declared.records.Record.{Record}
use Rattle.rs_rules.specs.Limits.{max_len}
use Rattle.rs_rules.specs.Histories.{History, len, with_entry, with_entries}
use Rattle.rs_rules.specs.Tokens.{scopes_of, scopes_after}
use Rattle.rs_rules.specs.Contents.{Contents, contents, contents_after}
use Rattle.rs_rules.specs.Snapshots.{snapshot}
use Rattle.rs_rules.specs.Lawful.{may_follow, IsLawful}
use Rattle.rs_user.specs.declared.state.UserState.{UserState}
use Rattle.rs_user.specs.Grants.{scopes_in}
use Rattle.rs_user.specs.Regrants.{regrants}
use Rattle.rs_user.specs.Standing.{StandsFor}
use Rattle.rs_user.proofs.StandingLemmas.{contents_granted, contents_revoked}

-- the later history has so many entries more, and shows what the history shows
pub record GoesOn (h later : History) (more : ℕ) : Type 0 where
  pub shown : contents later ≡ contents h
  pub given : (token : List ℕ) → scopes_of later token ≡ scopes_of h token
  pub lawful : IsLawful later
  pub cut : later.base.cut ≡ h.base.cut
  pub count : length later.entries ≡ length h.entries + more

same_text : (a b : List ℕ) → bytes_eq a b ≡ true → a ≡ b
same_text a b same = (bytes_eq-Decides a b).0 same

pub some_of : {X : Type 0} (o : Option X) → is_some o ≡ true → (x : X) × (o ≡ Some x)
some_of None is = absurd (true≢false (sym is))
some_of (Some x) is = (x, refl)

-- a token that had scopes has them again
back : (h : History) (token other : List ℕ) (scopes : List Scope) → scopes_of h token ≡ Some scopes
    → cond (bytes_eq token other) (Some scopes) (cond (bytes_eq token other) None (scopes_of h other)) ≡ scopes_of h other
back h token other scopes given =
    let inner = cond (bytes_eq token other) None (scopes_of h other) in
    ⊎_elim
    (λ hit. cond-true (bytes_eq token other) (Some scopes) inner hit ∙ sym given ∙ ap (scopes_of h) (same_text token other hit))
    (λ clear. cond-false (bytes_eq token other) (Some scopes) inner clear ∙ cond-false (bytes_eq token other) None (scopes_of h other) clear)
    (cases_Bool (bytes_eq token other))

none_more : (h : History) → with_entries h [] ≡ h
none_more h = ap (λ es. record { base = h.base; entries = es }) (append-nil h.entries)

two_more : (h : History) (a b : LogEntry Record) (es : List (LogEntry Record)) → with_entries h (a ∷ b ∷ es) ≡ with_entries (with_entry (with_entry h a) b) es
two_more h a b es =
    ap (λ all. record { base = h.base; entries = all })
    (sym (append_assoc (h.entries ++ a ∷ []) (b ∷ []) es ∙ append_assoc h.entries (a ∷ []) (b ∷ es)))

module _ (step_contents : (h : History) (e : LogEntry Record) → contents (with_entry h e) ≡ contents_after (len h + 1) e.what (contents h))
    (step_scopes : (h : History) (e : LogEntry Record) (token : List ℕ) → scopes_of (with_entry h e) token ≡ scopes_after token (len h + 1) e.what (scopes_of h token))
    (step_lawful : (h : History) (e : LogEntry Record) → IsLawful h → may_follow (snapshot h) e.what ≡ true → len h < max_len → IsLawful (with_entry h e)) where
  -- one revocation and one grant
  pair : (h : History) (token : List ℕ) (scopes : List Scope) → IsLawful h → scopes_of h token ≡ Some scopes → len h + 2 ≤ max_len
      → GoesOn h (with_entry (with_entry h (record { who = 0; what = Revoke token })) (record { who = 0; what = Grant token scopes })) 2
  pair h token scopes lawful given room =
      let revoked : LogEntry Record = record { who = 0; what = Revoke token } in
      let granted : LogEntry Record = record { who = 0; what = Grant token scopes } in
      let without = with_entry h revoked in
      let one = length-append h.entries (revoked ∷ []) in
      let two = length-append without.entries (granted ∷ []) in
      let itself : bytes_eq token token ≡ true = (bytes_eq-Decides token token).1 refl in
      let none : scopes_of without token ≡ None = step_scopes h revoked token ∙ cond-true (bytes_eq token token) None (scopes_of h token) itself in
      let first : IsLawful without = step_lawful h revoked lawful (ap is_some given) (omega (arith, room)) in
      record {
        shown = step_contents without granted ∙ contents_granted (len without + 1) without token scopes ∙ step_contents h revoked ∙ contents_revoked (len h + 1) h token;
        given = λ other. step_scopes without granted other
            ∙ ap (cond (bytes_eq token other) (Some scopes)) (step_scopes h revoked other) ∙ back h token other scopes given;
        lawful = step_lawful without granted first (ap is_none none) (omega (arith, room, one));
        cut = refl;
        count = omega (arith, one, two);
      }

  -- so many revocations and grants in turn
  pub pairs : (n : ℕ) (h : History) (token : List ℕ) (scopes : List Scope) → IsLawful h → scopes_of h token ≡ Some scopes → len h + 2 * n ≤ max_len
      → GoesOn h (with_entries h (regrants token scopes n)) (2 * n)
  pairs zero h token scopes lawful given room =
      subst (λ later. GoesOn h later 0) (sym (none_more h))
      (record {
        shown = refl;
        given = λ other. refl;
        lawful = lawful;
        cut = refl;
        count = omega arith;
      })
  pairs (suc n) h token scopes lawful given room =
      let revoked : LogEntry Record = record { who = 0; what = Revoke token } in
      let granted : LogEntry Record = record { who = 0; what = Grant token scopes } in
      let later = with_entry (with_entry h revoked) granted in
      let next = pair h token scopes lawful given (omega (arith, room)) in
      let rest = pairs n later token scopes next.lawful (next.given token ∙ given) (omega (arith, room, next.cut, next.count)) in
      subst (λ last. GoesOn h last (2 * suc n)) (sym (two_more h revoked granted (regrants token scopes n)))
      (record {
        shown = rest.shown ∙ next.shown;
        given = λ other. rest.given other ∙ next.given other;
        lawful = rest.lawful;
        cut = rest.cut ∙ next.cut;
        count = omega (arith, rest.count, next.count);
      })

module _ {T R : Type 0} (tree_stands : T → Contents → Type 0) where
  -- a state with the same tree and grants, and so many more records
  pub stands_on : (state new : UserState T R) (h later : History) (more : ℕ) → StandsFor tree_stands state h → GoesOn h later more
      → new.tree ≡ state.tree → new.granted ≡ state.granted → new.cut ≡ state.cut → new.len ≡ state.len + more → new.rows ≡ state.rows + more
      → StandsFor tree_stands new later
  stands_on state new h later more stands on tree granted cut count rows =
      let shown = subst (tree_stands new.tree) (sym on.shown) (subst (λ t. tree_stands t (contents h)) (sym tree) stands.shows.tree) in
      record {
        shows = record {
          tree = shown;
          scopes = λ token. ap (scopes_in token) granted ∙ stands.shows.scopes token ∙ sym (on.given token);
          len = omega (arith, count, stands.shows.len, on.cut, on.count);
        };
        lawful = on.lawful;
        cut = cut ∙ stands.cut ∙ sym on.cut;
        rows = omega (arith, rows, stands.rows, on.count);
      }
