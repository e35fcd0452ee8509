-- A worker's connections, with one more at a time.
use Rattle.std.proofs.Common.{◌≡◌, ℕ, ◌+◌, ◌≤◌, Bool, List, [], ◌∷◌, ◌++◌, Option, Some, None, IfSome, Result, Ok, Err, OnOk, map, refl, sym, ap, subst, ◌∙◌, arith, append_assoc, append-nil, length-append}
use Rattle.std.proofs.lemmas.List.{map-append}
use Rattle.rs_face.proofs.Cited.{Rose-later}
use Rattle.rs_face.specs.Causes.{one_more, Rose, HasCause}
use Rattle.rs_face.specs.Listening.{GivesNext, after_given, after_end, with_first, with_last}
use Rattle.rs_face.specs.declared.listener.ListenFault.{ListenFault}
use Rattle.rs_face.specs.declared.listener.ListenFault.TheVariants.{Failed}
use Rattle.rs_face.specs.declared.listener.Ended.{Ended}
use Rattle.rs_rules.specs.Desks.{ForHistories}
use Rattle.rs_rules.specs.Histories.{History}
use Rattle.rs_exchange.specs.declared.account.Config.{Config}
use Rattle.rs_front.specs.declared.serve.End.{End}
use Rattle.rs_front.specs.Due.{Users, users_of_desk}
use Rattle.rs_work.specs.Connections.{Connection, ConnectionCourse, as_given, given_back, ServesConnection, ServesAll, with_firsts, with_lasts, Works, ServesOne}

-- ---- what a listener tells

pub taken_none : {C : Type 0} (told : Option (List C)) → told ≡ with_firsts [] told
taken_none None = refl
taken_none (Some them) = refl

taken_more : {C : Type 0} (first : List C) (one : C) (old middle new : Option (List C)) → old ≡ with_firsts first middle → middle ≡ with_first one new
    → old ≡ with_firsts (first ++ one ∷ []) new
taken_more first one old middle None before next = before ∙ ap (with_firsts first) next
taken_more first one old middle (Some them) before next = before ∙ ap (with_firsts first) next ∙ ap Some (sym (append_assoc first (one ∷ []) them))

pub returned_none : {C : Type 0} (told : Option (List C)) → told ≡ with_lasts told []
returned_none None = refl
returned_none (Some them) = ap Some (sym (append-nil them))

returned_more : {C : Type 0} (last : List C) (one : C) (old middle new : Option (List C)) → middle ≡ with_lasts old last → new ≡ with_last middle one
    → new ≡ with_lasts old (last ++ one ∷ [])
returned_more last one None middle new before next = next ∙ ap (λ told. with_last told one) before
returned_more last one (Some them) middle new before next = next ∙ ap (λ told. with_last told one) before ∙ ap Some (append_assoc them last (one ∷ []))

-- one more connection was taken, and given back as it was left
pub works_more : {S W : Type 0} (Before After : List (Connection S W) → Type 0) (This : Connection S W → Type 0)
    (coming middle new : Option (List (S × W))) (back between given last : Option (List (Ended S W))) (count count' : ℕ) (source : S) (sink : W) (end : End)
    → Works coming middle back between count Before → ServesOne source sink given last end This → middle ≡ with_first (source, sink) new
    → given ≡ between → count' ≡ count + 1
    → ((all : List (Connection S W)) (c : Connection S W) → Before all → This c → After (all ++ c ∷ []))
    → Works coming new back last count' After
works_more {S} {W} Before After This coming middle new back between given last count count' source sink end so_far one next same counted holds =
    let c : Connection S W = record { source = source; sink = sink; source_left = one.source_left; sink_left = one.sink_left; end = end } in
    record {
      all = so_far.all ++ c ∷ [];
      taken = subst (λ (l : List (S × W)). coming ≡ with_firsts l new) (sym (map-append as_given so_far.all (c ∷ [])))
          (taken_more (map as_given so_far.all) (source, sink) coming middle new so_far.taken next);
      returned = subst (λ (l : List (Ended S W)). last ≡ with_lasts back l) (sym (map-append given_back so_far.all (c ∷ [])))
          (returned_more (map given_back so_far.all) (given_back c) back given last (same ∙ so_far.returned) one.returned);
      counted = let before = so_far.counted in omega (arith, before, counted, length-append so_far.all (c ∷ []));
      holds = holds so_far.all c so_far.holds one.holds;
    }

-- no more was taken
pub works_stays : {S W : Type 0} (Holds : List (Connection S W) → Type 0) (coming middle new : Option (List (S × W))) (back between last : Option (List (Ended S W))) (count : ℕ)
    → Works coming middle back between count Holds → new ≡ middle → last ≡ between → Works coming new back last count Holds
works_stays Holds coming middle new back between last count so_far still same = record {
  all = so_far.all;
  taken = so_far.taken ∙ ap (with_firsts (map as_given so_far.all)) (sym still);
  returned = same ∙ so_far.returned;
  counted = so_far.counted;
  holds = so_far.holds;
}

-- ---- what a call of `accept` answered

rose_at : {C : Type 0} (fault : ListenFault) (first before now : ℕ) → first ≤ before → HasCause {A = Option C} before now Failed (Err fault) → Rose first now
rose_at Failed first before now later cause = Rose-later first before now later (cause.failed refl)

module _ {C : Type 0} (answer : Result (Option C) ListenFault) where
  -- a connection
  module _ (one : C) (is : answer ≡ Ok (Some one)) where
    pub gives_one : (old new : Option (List C)) → GivesNext old new answer → old ≡ with_first one new
    gives_one old new next = subst (λ (r : Result (Option C) ListenFault). GivesNext old new r) is next

    pub counts_one : (before now : ℕ) → now ≡ after_given answer before → now ≡ before + 1
    counts_one before now counted = subst (λ (r : Result (Option C) ListenFault). now ≡ after_given r before) is counted

    pub no_end : (before now : ℕ) → now ≡ after_end answer before → now ≡ before
    no_end before now counted = subst (λ (r : Result (Option C) ListenFault). now ≡ after_end r before) is counted

    pub no_fault : (before now : ℕ) → OnOk answer (now ≡ before) → now ≡ before
    no_fault before now quiet = subst (λ (r : Result (Option C) ListenFault). OnOk r (now ≡ before)) is quiet

  -- that none will come
  module _ (is : answer ≡ Ok None) where
    pub gives_none : (old new : Option (List C)) → GivesNext old new answer → (new ≡ old) × IfSome old (λ them. them ≡ [])
    gives_none old new next = subst (λ (r : Result (Option C) ListenFault). GivesNext old new r) is next

    -- and how the worker ends then
    pub none_left : (first before now : ℕ) (old new : Option (List C)) → before ≡ first → now ≡ after_end answer before → GivesNext old new answer
        → Rose first now × IfSome new (λ them. them ≡ [])
    none_left first before now old new same counted next =
        let none = gives_none old new next in
        let one : now ≡ one_more before = subst (λ (r : Result (Option C) ListenFault). now ≡ after_end r before) is counted in
        (omega (arith, same, one), subst (λ (told : Option (List C)). IfSome told (λ them. them ≡ [])) (sym none.0) none.1)

  -- that the listener failed
  module _ (fault : ListenFault) (is : answer ≡ Err fault) where
    pub gives_nothing : (old new : Option (List C)) → GivesNext old new answer → new ≡ old
    gives_nothing old new next = subst (λ (r : Result (Option C) ListenFault). GivesNext old new r) is next

    -- and how the worker ends then
    pub has_failed : (first before now : ℕ) → first ≤ before → HasCause before now Failed answer → Rose first now
    has_failed first before now later cause =
        rose_at fault first before now later (subst (λ (r : Result (Option C) ListenFault). HasCause before now Failed r) is cause)

-- ---- connections, one on from the other

module _ (users : (ℕ → History) → Users) (config : Config) where
  -- no connection was served
  pub none_served : (history : ℕ → History) (words : Option (List ℕ)) (failed count : ℕ)
      → ServesAll users config [] (record { old = words; new = words; before = failed; now = failed }) history history count count
  none_served history words failed count = (λ user. refl, refl, (refl, refl))

  module _ (c : ConnectionCourse) (words words' : Option (List ℕ)) (failed failed' : ℕ) (middle now : ℕ → History) (between after : ℕ)
      (one : ServesConnection users config c (record { old = words; new = words'; before = failed; now = failed' }) middle now between after) where
    -- a connection after none
    after_none : (first : Option (List ℕ)) (faults : ℕ) (old : ℕ → History) (before : ℕ)
        → ServesAll users config [] (record { old = first; new = words; before = faults; now = failed }) old middle before between
        → ServesConnection users config c (record { old = first; new = words'; before = faults; now = failed' }) old now before after
    after_none first faults old before none =
        let histories : middle ≡ old = λ i user. none.0 user i in
        let a = subst (λ (h : ℕ → History). ServesConnection users config c (record { old = words; new = words'; before = failed; now = failed' }) h now between after) histories one in
        let b = subst (λ (n : ℕ). ServesConnection users config c (record { old = words; new = words'; before = failed; now = failed' }) old now n after) none.1 a in
        let d = subst (λ (w : Option (List ℕ)). ServesConnection users config c (record { old = w; new = words'; before = failed; now = failed' }) old now before after) none.2.0 b in
        subst (λ (n : ℕ). ServesConnection users config c (record { old = first; new = words'; before = n; now = failed' }) old now before after) none.2.1 d

    -- a connection after these
    all_more : (cs : List ConnectionCourse) (first : Option (List ℕ)) (faults : ℕ) (old : ℕ → History) (before : ℕ)
        → ServesAll users config cs (record { old = first; new = words; before = faults; now = failed }) old middle before between
        → ServesAll users config (cs ++ c ∷ []) (record { old = first; new = words'; before = faults; now = failed' }) old now before after
    all_more [] first faults old before none =
        (now, after, words', failed', after_none first faults old before none, none_served now words' failed' after)
    all_more (d ∷ ds) first faults old before served =
        (served.0, served.1, served.2, served.3, served.4, all_more ds served.2 served.3 served.0 served.1 served.5)

  -- the same for all histories that the desk stood for; users are alike over the desk before the first of these and before this one
  pub holds_more : {C : Type 0} (f : C → ConnectionCourse) (users' : (ℕ → History) → Users) (is_user : ℕ → Type 0) (stood middle stands : ℕ → History → Type 0)
      (first words words' : Option (List ℕ)) (faults failed failed' : ℕ) (before between after : ℕ) → users' ≡ users → (all : List C) (c : C)
      → ForHistories is_user stood middle (λ old now.
      ServesAll users config (map f all) (record { old = first; new = words; before = faults; now = failed }) old now before between)
      → ForHistories is_user middle stands (λ old now.
      ServesConnection users' config (f c) (record { old = words; new = words'; before = failed; now = failed' }) old now between after)
      → ForHistories is_user stood stands (λ old now.
      ServesAll users config (map f (all ++ c ∷ [])) (record { old = first; new = words'; before = faults; now = failed' }) old now before after)
  holds_more f users' is_user stood middle stands first words words' faults failed failed' before between after alike all c so_far one old old_stands =
      let served = so_far old old_stands in
      let this = one served.0 served.1 in
      let here = subst (λ (u : (ℕ → History) → Users). ServesConnection u config (f c) (record { old = words; new = words'; before = failed; now = failed' }) served.0 this.0 between after) alike this.2 in
      let all' = all_more (f c) words words' failed failed' served.0 this.0 between after here (map f all) first faults old before served.2 in (
        this.0,
        this.1,
        subst (λ (cs : List ConnectionCourse). ServesAll users config cs (record { old = first; new = words'; before = faults; now = failed' }) old this.0 before after)
            (sym (map-append f all (c ∷ []))) all',
      )

-- a desk under the same quotas and numbers, as alone, has the same users
pub alike : {D : Type 0} (quota me : D → ℕ → ℕ) (alone : D → Bool) (old new : D) → quota new ≡ quota old → me new ≡ me old → alone new ≡ alone old
    → ◌≡◌ {A = (ℕ → History) → Users} (users_of_desk quota me alone new) (users_of_desk quota me alone old)
alike quota me alone old new quotas numbers others = λ i history. record { history = history; quota = quotas i; me = numbers i; alone = others i }
