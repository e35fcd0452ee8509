-- A Grant is added only by a message that asks for it.
use Rattle.std.proofs.Common.{◌≡◌, ℕ, ◌+◌, inl, inr, List, [], ◌∷◌, ◌++◌, Option, Some, None, length, drop, get_or, refl, sym, ap, ◌∙◌, subst, arith}
use Rattle.std.proofs.lemmas.List.{length-append}
use Rattle.rs_path.specs.declared.log_entry.LogEntry.{LogEntry}
use Rattle.rs_path.specs.Logs.{own}
use Rattle.rs_scope.specs.declared.scope.Scope.{Scope}
use Rattle.rs_scope.specs.Tokens.{bytes_of_words}
use Rattle.rs_record.specs.declared.records.Record.{Record}
use Rattle.rs_record.specs.declared.records.Record.TheVariants.{Grant as GrantRecord}
use Rattle.rs_rules.specs.declared.request.Request.{Request}
use Rattle.rs_rules.specs.Histories.{History, up_to}
use Rattle.rs_rules.specs.Answers.{taken, entry_of, brought, brought_by}
use Rattle.rs_scope.specs.declared.method.Method.{Method}
use Rattle.rs_scope.specs.declared.method.Method.TheVariants.{Get, Head, Put, Delete}
use Rattle.rs_rules.specs.declared.call.Call.{Call}
use Rattle.rs_request.specs.declared.message.RequestMessage.{RequestMessage}
use Rattle.rs_grant.specs.declared.ask.Ask.{Ask}
use Rattle.rs_exchange.specs.declared.account.Config.{Config}
use Rattle.rs_exchange.specs.declared.answer.Answer.{Answer}
use Rattle.rs_exchange.specs.declared.asked.Asked.{Asked}
use Rattle.rs_exchange.specs.declared.asked.Asked.TheVariants.{Desk, Now, Consent}
use Rattle.rs_exchange.specs.Asking.{IsStore}
use Rattle.rs_exchange.specs.Requests.{asked_of}
use Rattle.rs_front.specs.Due.{Users, Outcome, answered, unkept, plain, starved, drew, undrawn, request_of, OthersStay, GoesOn}
use Rattle.rs_front.specs.Granting.{AddsOne, IsGrantOf}
use Rattle.rs_front.proofs.DueLemmas.{same_number}

-- ---- lists

drop_front : {A : Type 0} (xs ys : List A) → drop (length xs) (xs ++ ys) ≡ ys
drop_front [] ys = refl
drop_front (x ∷ xs) ys = drop_front xs ys

cancel : {A : Type 0} (xs ys zs : List A) → xs ++ ys ≡ xs ++ zs → ys ≡ zs
cancel xs ys zs same = sym (drop_front xs ys) ∙ ap (drop (length xs)) same ∙ drop_front xs zs

never_more : {A : Type 0} (xs : List A) (x : A) → ¬ (xs ≡ xs ++ x ∷ [])
never_more xs x same =
    let longer = ap (λ (l : List _). length l) same in
    let sum = length-append xs (x ∷ []) in
    absurd (omega (arith, longer, sum))

-- ---- one record

entry_is : (who : ℕ) (o : Option Record) (what : Record) → entry_of who o ≡ record { who = who; what = what } ∷ [] → o ≡ Some what
entry_is who None what same = let longer = ap (λ (l : List (LogEntry Record)). length l) same in absurd (omega (arith, longer))
entry_is who (Some w) what same =
    ap (λ (l : List (LogEntry Record)). Some (get_or l 0 (record { who = who; what = w })).what) same

module _ (brings : (h : History) (quota : ℕ) (r : Request) (what : Record) → taken h quota r ≡ Some what → brought r ≡ Some what) where
  -- what a desk's answer adds
  desk_adds : (users : Users) (u : ℕ) (r : Request) (o : Outcome) (old new : ℕ → History) (user : ℕ) (what : Record)
      → GoesOn users (Desk u r) o old new → AddsOne (users.me user) (old user) (new user) what
      → (user ≡ u) × (brought r ≡ Some what) × ((n : ℕ) × (o ≡ answered n))
  desk_adds users u r (answered n) old new user what goes adds = elim (same_number user u) [
    | inl same ↦
        let here : AddsOne (users.me u) (old u) (new u) what = subst (λ (k : ℕ). AddsOne (users.me k) (old k) (new k) what) same adds in
        let entry = cancel (own (users.me u) (old u).entries) (entry_of (users.me u) (taken (up_to n (new u)) (users.quota u) r))
        (record { who = users.me u; what = what } ∷ []) (sym goes.0.mine ∙ here) in
        (same, brings (up_to n (new u)) (users.quota u) r what (entry_is (users.me u) (taken (up_to n (new u)) (users.quota u) r) what entry), (n, refl))
    | inr apart ↦ absurd (not_added (users.me user) (old user) (new user) what (goes.2 user apart) adds)
  ]
    where
      not_added : (me : ℕ) (was is : History) (what : Record) → is ≡ was → AddsOne me was is what → ⊥
      not_added me was is what same adds =
          never_more (own me was.entries) (record { who = me; what = what }) (sym (ap (λ (h : History). own me h.entries) same) ∙ adds)
  desk_adds users u r unkept old new user what goes adds = elim (same_number user u) [
    | inl same ↦ absurd (never_more (own (users.me u) (old u).entries) (record { who = users.me u; what = what })
        (sym goes.0.others.mine ∙ subst (λ (k : ℕ). AddsOne (users.me k) (old k) (new k) what) same adds))
    | inr apart ↦ absurd (never_more (own (users.me user) (old user).entries) (record { who = users.me user; what = what })
        (sym (ap (λ (h : History). own (users.me user) h.entries) (goes.1 user apart)) ∙ adds))
  ]
  desk_adds users u r plain old new user what goes adds = absurd goes
  desk_adds users u r starved old new user what goes adds = elim (same_number user u) [
    | inl same ↦ absurd (never_more (own (users.me u) (old u).entries) (record { who = users.me u; what = what })
        (sym goes.0.others.mine ∙ subst (λ (k : ℕ). AddsOne (users.me k) (old k) (new k) what) same adds))
    | inr apart ↦ absurd (never_more (own (users.me user) (old user).entries) (record { who = users.me user; what = what })
        (sym (ap (λ (h : History). own (users.me user) h.entries) (goes.1 user apart)) ∙ adds))
  ]
  desk_adds users u r (drew first second o) old new user what goes adds = absurd goes
  desk_adds users u r (undrawn words) old new user what goes adds = absurd goes

  -- no request on a document brings a Grant
  store_brings : (method : Method) (c : Call) (token : List ℕ) (scopes : List Scope) → ¬ (brought_by method c ≡ Some (GrantRecord token scopes))
  store_brings Get c token scopes is = grind arith
  store_brings Head c token scopes is = grind arith
  store_brings Put c token scopes is = grind arith
  store_brings Delete c token scopes is = grind arith

  -- what a consent brings
  grant_is : (token other : List ℕ) (scopes wanted : List Scope) → brought (request_of (record { redirect = []; origin = []; client = []; scopes = scopes; state = None }) token) ≡ Some (GrantRecord other wanted)
      → (token ≡ other) × (scopes ≡ wanted)
  grant_is token other scopes wanted is = (grind arith, grind arith)

  stays_put : (users : Users) (old new : ℕ → History) (user : ℕ) (what : Record) → ((u : ℕ) → new u ≡ old u) → ¬ (AddsOne (users.me user) (old user) (new user) what)
  stays_put users old new user what stay adds = absurd (never_more (own (users.me user) (old user).entries) (record { who = users.me user; what = what })
      (sym (ap (λ (h : History). own (users.me user) h.entries) (stay user)) ∙ adds))

  pub grant_by : (users : Users) (asked : Asked) (stores : (u : ℕ) (r : Request) → asked ≡ Desk u r → IsStore r) (o : Outcome) (old new : ℕ → History) (user : ℕ)
      (token : List ℕ) (scopes : List Scope) → GoesOn users asked o old new → AddsOne (users.me user) (old user) (new user) (GrantRecord token scopes)
      → IsGrantOf asked user token scopes o
  grant_by users (Desk u r) stores o old new user token scopes goes adds =
      let store = stores u r refl in
      let added = desk_adds users u r o old new user (GrantRecord token scopes) goes adds in
      absurd (store_brings store.0.method store.0 token scopes (sym (ap brought store.1) ∙ added.1))
  grant_by users (Now a) stores (answered n) old new user token scopes goes adds = absurd goes
  grant_by users (Now a) stores unkept old new user token scopes goes adds = absurd goes
  grant_by users (Now a) stores plain old new user token scopes goes adds = absurd (stays_put users old new user (GrantRecord token scopes) goes adds)
  grant_by users (Now a) stores starved old new user token scopes goes adds = absurd (stays_put users old new user (GrantRecord token scopes) goes adds)
  grant_by users (Now a) stores (drew first second o) old new user token scopes goes adds = absurd goes
  grant_by users (Now a) stores (undrawn words) old new user token scopes goes adds = absurd goes
  grant_by users (Consent u ask) stores (answered n) old new user token scopes goes adds = absurd goes
  grant_by users (Consent u ask) stores unkept old new user token scopes goes adds = absurd goes
  grant_by users (Consent u ask) stores plain old new user token scopes goes adds = absurd goes
  grant_by users (Consent u ask) stores starved old new user token scopes goes adds = absurd (stays_put users old new user (GrantRecord token scopes) goes adds)
  grant_by users (Consent u ask) stores (drew first second o) old new user token scopes goes adds =
      let added = desk_adds users u (request_of ask (bytes_of_words first second)) o old new user (GrantRecord token scopes) goes adds in
      let parts = grant_is (bytes_of_words first second) token ask.scopes scopes added.1 in record {
        ask = ask;
        consent = ap (λ (k : ℕ). Consent k ask) (sym added.0);
        scopes_are = sym parts.1;
        first = first;
        second = second;
        front = added.2.0;
        drawn = ap (drew first second) added.2.1;
        token_is = sym parts.0;
      }
  grant_by users (Consent u ask) stores (undrawn words) old new user token scopes goes adds = absurd (stays_put users old new user (GrantRecord token scopes) goes.0 adds)
