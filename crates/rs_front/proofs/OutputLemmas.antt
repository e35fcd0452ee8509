-- What a connection writes is a function of what it reads.
use Rattle.std.proofs.Common.{◌≡◌, ℕ, inl, inr, true, List, [], ◌∷◌, ◌++◌, get_or, drop, append_assoc, refl, sym, ap, ◌∙◌, subst}
use Rattle.std.specs.List.{list_all}
use Rattle.std.proofs.lemmas.Bool.{and_parts}
use Rattle.rs_rules.specs.declared.request.Request.{Request}
use Rattle.rs_rules.specs.Histories.{History, len, up_to, with_entries}
use Rattle.rs_rules.specs.Answers.{answer, taken, entry_of}
use Rattle.rs_rules.specs.Growth.{Grows}
use Rattle.rs_request.specs.declared.message.RequestMessage.{RequestMessage}
use Rattle.rs_exchange.specs.declared.account.Config.{Config}
use Rattle.rs_exchange.specs.declared.asked.Asked.{Asked}
use Rattle.rs_exchange.specs.declared.asked.Asked.TheVariants.{Desk, Now, Consent}
use Rattle.rs_scope.specs.Tokens.{bytes_of_words}
use Rattle.rs_exchange.specs.Requests.{asked_of}
use Rattle.rs_front.specs.Due.{Users, Outcome, answered, unkept, plain, starved, drew, undrawn, request_of, words_of, drawn_of, is_whole, due, OthersStay, GoesOn, GoesAlong}
use Rattle.rs_front.proofs.DueLemmas.{same_number}
use Rattle.rs_front.proofs.SettleLemmas.{still_at_front}

-- what a turn of a desk that is alone leaves of its user's history
abbrev after : (old : History) (quota me : ℕ) → Request → History
after old quota me r = with_entries old (entry_of me (taken old quota r))

grown_is : (old new : History) (quota me : ℕ) (r : Request) (n : ℕ) → Grows old new quota me r (answer (up_to n new) quota r) n → n ≡ len old
    → new ≡ after old quota me r
grown_is old new quota me r n grows front =
    grows.added ∙ ap (λ (h : History). with_entries h (entry_of me (taken h quota r))) (still_at_front old new n grows.before front)

-- a user's history, and the others', are those of two ways to go on
both_same : (user : ℕ) (old new later : ℕ → History) → new user ≡ later user → OthersStay user old new → OthersStay user old later → (other : ℕ) → new other ≡ later other
both_same user old new later here others those other = elim (same_number other user) [
  | inl same ↦ subst (λ (k : ℕ). new k ≡ later k) (sym same) here
  | inr apart ↦ others other apart ∙ sym (those other apart)
]

-- what two lists begin with
firsts : (a b x y : ℕ) (xs ys : List ℕ) → a ∷ x ∷ xs ≡ b ∷ y ∷ ys → (a ≡ b) × (x ≡ y) × (xs ≡ ys)
firsts a b x y xs ys same = (ap (λ (l : List ℕ). get_or l 0 0) same, ap (λ (l : List ℕ). get_or l 1 0) same, ap (drop 2) same)

-- one request, one way to go on
desk_one : (users : Users) (user : ℕ) (r : Request) (o p : Outcome) (old new later : ℕ → History) → users.alone ≡ true → is_whole o ≡ true → is_whole p ≡ true
    → GoesOn users (Desk user r) o old new → GoesOn users (Desk user r) p old later → (o ≡ p) × ((other : ℕ) → new other ≡ later other)
desk_one users user r (answered n) (answered k) old new later alone o p goes went =
    let here : new user ≡ later user =
    grown_is (old user) (new user) (users.quota user) (users.me user) r n goes.0 (goes.1 alone)
    ∙ sym (grown_is (old user) (later user) (users.quota user) (users.me user) r k went.0 (went.1 alone)) in
    (ap answered (goes.1 alone ∙ sym (went.1 alone)), both_same user old new later here goes.2 went.2)
desk_one users user r (answered n) unkept old new later alone o p goes went = cc
desk_one users user r (answered n) plain old new later alone o p goes went = absurd went
desk_one users user r (answered n) starved old new later alone o p goes went = cc
desk_one users user r (answered n) (drew x y q) old new later alone o p goes went = absurd went
desk_one users user r (answered n) (undrawn words) old new later alone o p goes went = absurd went
desk_one users user r unkept q old new later alone o p goes went = cc
desk_one users user r plain q old new later alone o p goes went = absurd goes
desk_one users user r starved q old new later alone o p goes went = cc
desk_one users user r (drew x y q') q old new later alone o p goes went = absurd goes
desk_one users user r (undrawn words) q old new later alone o p goes went = absurd goes

-- one message, one way to go on, and the same words are left
goes_one : (users : Users) (asked : Asked) (o p : Outcome) (old new later : ℕ → History) (left other : List ℕ) → words_of o ++ left ≡ words_of p ++ other
    → users.alone ≡ true → is_whole o ≡ true → is_whole p ≡ true
    → GoesOn users asked o old new → GoesOn users asked p old later → (o ≡ p) × ((user : ℕ) → new user ≡ later user) × (left ≡ other)
goes_one users (Desk user r) (answered n) (answered k) old new later left other drawn alone o p goes went =
    let same = desk_one users user r (answered n) (answered k) old new later alone o p goes went in
    (same.0, same.1, drawn)
goes_one users (Desk user r) (answered n) unkept old new later left other drawn alone o p goes went = cc
goes_one users (Desk user r) (answered n) plain old new later left other drawn alone o p goes went = absurd went
goes_one users (Desk user r) (answered n) starved old new later left other drawn alone o p goes went = cc
goes_one users (Desk user r) (answered n) (drew x y q) old new later left other drawn alone o p goes went = absurd went
goes_one users (Desk user r) (answered n) (undrawn words) old new later left other drawn alone o p goes went = absurd went
goes_one users (Desk user r) unkept q old new later left other drawn alone o p goes went = cc
goes_one users (Desk user r) plain q old new later left other drawn alone o p goes went = absurd goes
goes_one users (Desk user r) starved q old new later left other drawn alone o p goes went = cc
goes_one users (Desk user r) (drew x y q') q old new later left other drawn alone o p goes went = absurd goes
goes_one users (Desk user r) (undrawn words) q old new later left other drawn alone o p goes went = absurd goes
goes_one users (Now a) plain plain old new later left other drawn alone o p goes went = (refl, λ user. goes user ∙ sym (went user), drawn)
goes_one users (Now a) plain (answered n) old new later left other drawn alone o p goes went = absurd went
goes_one users (Now a) plain unkept old new later left other drawn alone o p goes went = cc
goes_one users (Now a) plain starved old new later left other drawn alone o p goes went = cc
goes_one users (Now a) plain (drew x y q) old new later left other drawn alone o p goes went = absurd went
goes_one users (Now a) plain (undrawn words) old new later left other drawn alone o p goes went = absurd went
goes_one users (Now a) (answered n) q old new later left other drawn alone o p goes went = absurd goes
goes_one users (Now a) unkept q old new later left other drawn alone o p goes went = cc
goes_one users (Now a) starved q old new later left other drawn alone o p goes went = cc
goes_one users (Now a) (drew x y q') q old new later left other drawn alone o p goes went = absurd goes
goes_one users (Now a) (undrawn words) q old new later left other drawn alone o p goes went = absurd goes
goes_one users (Consent user ask) (drew a x o') (drew b y p') old new later left other drawn alone o p goes went =
    let same = firsts a b x y left other drawn in
    let token = bytes_of_words a x in
    let as_first : GoesOn users (Desk user (request_of ask token)) p' old later =
    subst (λ (t : List ℕ). GoesOn users (Desk user (request_of ask t)) p' old later) (λ i. bytes_of_words (sym same.0 i) (sym same.1 i)) went in
    let inner = desk_one users user (request_of ask token) o' p' old new later alone o p goes as_first in
    ((λ i. drew (same.0 i) (same.1 i) (inner.0 i)), inner.1, same.2)
goes_one users (Consent user ask) (drew a x o') (answered n) old new later left other drawn alone o p goes went = absurd went
goes_one users (Consent user ask) (drew a x o') unkept old new later left other drawn alone o p goes went = absurd went
goes_one users (Consent user ask) (drew a x o') plain old new later left other drawn alone o p goes went = absurd went
goes_one users (Consent user ask) (drew a x o') starved old new later left other drawn alone o p goes went = cc
goes_one users (Consent user ask) (drew a x o') (undrawn words) old new later left other drawn alone o p goes went = cc
goes_one users (Consent user ask) (answered n) q old new later left other drawn alone o p goes went = absurd goes
goes_one users (Consent user ask) unkept q old new later left other drawn alone o p goes went = absurd goes
goes_one users (Consent user ask) plain q old new later left other drawn alone o p goes went = absurd goes
goes_one users (Consent user ask) starved q old new later left other drawn alone o p goes went = cc
goes_one users (Consent user ask) (undrawn words) q old new later left other drawn alone o p goes went = cc

along_one : (users : Users) (config : Config) (ms : List RequestMessage) (os ps : List Outcome) (old now later : ℕ → History) (left other : List ℕ)
    → drawn_of os ++ left ≡ drawn_of ps ++ other → users.alone ≡ true → list_all is_whole os ≡ true → list_all is_whole ps ≡ true
    → GoesAlong users config ms os old now → GoesAlong users config ms ps old later → (os ≡ ps) × (now ≡ later)
along_one users config [] [] [] old now later left other drawn alone w v goes went = (refl, λ i user. (goes user ∙ sym (went user)) i)
along_one users config [] [] (p ∷ ps) old now later left other drawn alone w v goes went = absurd went
along_one users config [] (o ∷ os) ps old now later left other drawn alone w v goes went = absurd goes
along_one users config (m ∷ ms) [] ps old now later left other drawn alone w v goes went = absurd goes
along_one users config (m ∷ ms) (o ∷ os) [] old now later left other drawn alone w v goes went = absurd went
along_one users config (m ∷ ms) (o ∷ os) (p ∷ ps) old now later left other drawn alone w v goes went =
    let first = and_parts (is_whole o) (list_all is_whole os) w in
    let second = and_parts (is_whole p) (list_all is_whole ps) v in
    let words = sym (append_assoc (words_of o) (drawn_of os) left) ∙ drawn ∙ append_assoc (words_of p) (drawn_of ps) other in
    let here = goes_one users (asked_of config m) o p old goes.0 went.0 (drawn_of os ++ left) (drawn_of ps ++ other) words alone first.0 second.0 goes.1 went.1 in
    let middle : went.0 ≡ goes.0 = (λ i user. sym (here.1 user) i) in
    let rest = along_one users config ms os ps goes.0 now later left other here.2 alone first.1 second.1 goes.2
    (subst (λ (h : ℕ → History). GoesAlong users config ms ps h later) middle went.2) in
    (λ i. here.0 i ∷ rest.0 i, rest.1)

pub outputs_are_one : (users : Users) (config : Config) (ms : List RequestMessage) (os ps : List Outcome) (old now later : ℕ → History) (left other : List ℕ)
    → drawn_of os ++ left ≡ drawn_of ps ++ other → users.alone ≡ true → list_all is_whole os ≡ true → list_all is_whole ps ≡ true
    → GoesAlong users config ms os old now → GoesAlong users config ms ps old later
    → (os ≡ ps) × (now ≡ later)
    × (due (record users { history = now }) config 0 ms os ≡ due (record users { history = later }) config 0 ms ps)
outputs_are_one users config ms os ps old now later left other drawn alone w v goes went =
    let same = along_one users config ms os ps old now later left other drawn alone w v goes went in
    (same.0, same.1, λ i. due (record users { history = same.1 i }) config 0 ms (same.0 i))
