-- A turn of a desk is what its outcome says.
use Rattle.std.proofs.Common.{◌≡◌, ◌≢◌, ℕ, ◌≤◌, ◌==◌, Bool, true, false, Some, Ok, Err, refl, sym, ◌∙◌, ap, subst, arith, if◌then◌else◌}
use Rattle.std.proofs.lemmas.Bool.Decides.{nat_tests}
use Rattle.rs_rules.specs.declared.reply.Reply.{Reply}
use Rattle.rs_rules.specs.declared.reply.Reply.TheVariants.{Found, Folder, Stored, Removed, Same, NoToken, BadToken, Forbidden, FolderWrite, Clash, Absent, Unmet, RecordsFull, OverQuota, FolderFull, StoreFailed, Granted, TokenTaken, Revoked, NotGranted}
use Rattle.rs_rules.specs.declared.request.Request.{Request}
use Rattle.rs_rules.specs.declared.turn.Turn.{Turn}
use Rattle.rs_rules.specs.declared.desk.DeskFault.{DeskFault}
use Rattle.rs_rules.specs.declared.desk.DeskFault.TheVariants.{NoMemory}
use Rattle.rs_rules.specs.Histories.{History, up_to}
use Rattle.rs_rules.specs.Answers.{answer}
use Rattle.rs_rules.specs.Growth.{Grows, AddsNothing, Turned, TurnedBy, is_store_failed}
use Rattle.rs_exchange.specs.declared.answer.Answer.{Answer}
use Rattle.rs_exchange.specs.declared.answer.Answer.TheVariants.{Decided}
use Rattle.rs_exchange.specs.declared.asked.Asked.TheVariants.{Desk, Now}
use Rattle.rs_front.specs.Due.{Users, answered, unkept, plain, starved, OthersStay}
use Rattle.rs_front.specs.Settling.{Decides}

-- the histories, where this user has that one
unfoldable pub with_history : (ℕ → History) → ℕ → History → ℕ → History
with_history old user now other = if other == user then now else old other

pub with_history-same : (old : ℕ → History) (user : ℕ) (now : History) → with_history old user now user ≡ now
unfolding with_history
with_history-same old user now = grind (arith, nat_tests)

pub with_history-other : (old : ℕ → History) (user : ℕ) (now : History) → OthersStay user old (with_history old user now)
unfolding with_history
with_history-other old user now other apart = grind (arith, nat_tests)

-- a reply that says so is StoreFailed
store_failed_is : (r : Reply) → is_store_failed r ≡ true → r ≡ StoreFailed
store_failed_is StoreFailed is = refl
store_failed_is (Found version kind body) is = grind arith
store_failed_is (Folder version items) is = grind arith
store_failed_is (Stored version created) is = grind arith
store_failed_is (Removed version) is = grind arith
store_failed_is (Same version) is = grind arith
store_failed_is NoToken is = grind arith
store_failed_is BadToken is = grind arith
store_failed_is Forbidden is = grind arith
store_failed_is FolderWrite is = grind arith
store_failed_is (Clash path) is = grind arith
store_failed_is Absent is = grind arith
store_failed_is Unmet is = grind arith
store_failed_is RecordsFull is = grind arith
store_failed_is (OverQuota live) is = grind arith
store_failed_is (FolderFull path) is = grind arith
store_failed_is Granted is = grind arith
store_failed_is TokenTaken is = grind arith
store_failed_is Revoked is = grind arith
store_failed_is NotGranted is = grind arith

-- the users after a turn of one
unfoldable pub users_with : (ℕ → History) → (quota me : ℕ → ℕ) → Bool → ℕ → History → Users
users_with old quota me alone user now = record { history = with_history old user now; quota = quota; me = me; alone = alone }

-- a turn that answered
turned_by : (b : Bool) (old : ℕ → History) (quota me : ℕ → ℕ) (user : ℕ) (now : History) (alone : Bool) (r : Request) (turn : Turn) (before after : ℕ)
    → is_store_failed turn.reply ≡ b → before ≤ after → TurnedBy b (old user) now (quota user) (me user) alone r turn before after
    → {E : Type 0} → Decides {E = E} (users_with old quota me alone user now) (Desk user r) old before after (Ok (Decided turn.reply))
unfolding users_with
turned_by true old quota me user now alone r turn before after is later turned = record {
  outcome = unkept;
  goes_on = (
    subst (λ (h : History). AddsNothing (old user) h (me user) alone) (sym (with_history-same old user now)) turned.nothing,
    with_history-other old user now,
  );
  unkept = turned.rose;
  answer = ap (λ (r : Reply). Some (Decided r)) (sym (store_failed_is turn.reply is));
}
turned_by false old quota me user now alone r turn before after is later turned =
    let same = sym (with_history-same old user now) in
    let replied : turn.reply ≡ answer (up_to turn.front (with_history old user now user)) (quota user) r =
    turned.grows.replied ∙ ap (λ (h : History). answer (up_to turn.front h) (quota user) r) same in
    record {
      outcome = answered turn.front;
      goes_on = (
        subst (λ (reply : Reply). Grows (old user) (with_history old user now user) (quota user) (me user) r reply turn.front) replied
            (subst (λ (h : History). Grows (old user) h (quota user) (me user) r turn.reply turn.front) same turned.grows),
        turned.now,
        with_history-other old user now,
      );
      unkept = omega (arith, later);
      answer = ap (λ (r : Reply). Some (Decided r)) (sym replied);
    }

pub turned_ok : (old : ℕ → History) (quota me : ℕ → ℕ) (user : ℕ) (now : History) (alone : Bool) (r : Request) (turn : Turn) (before after : ℕ)
    → before ≤ after → Turned (old user) now (quota user) (me user) alone r (Ok turn) before after
    → {E : Type 0} → Decides {E = E} (users_with old quota me alone user now) (Desk user r) old before after (Ok (Decided turn.reply))
turned_ok old quota me user now alone r turn before after later turned =
    turned_by (is_store_failed turn.reply) old quota me user now alone r turn before after refl later turned

-- a turn for which memory was wanted
pub turned_err : (old : ℕ → History) (quota me : ℕ → ℕ) (user : ℕ) (now : History) (alone : Bool) (r : Request) (f : DeskFault) (before after : ℕ)
    → before ≤ after → Turned (old user) now (quota user) (me user) alone r (Err f) before after
    → {E : Type 0} (e : E) → Decides {E = E} (users_with old quota me alone user now) (Desk user r) old before after (Err e)
unfolding users_with
turned_err old quota me user now alone r NoMemory before after later turned e = record {
  outcome = starved;
  goes_on = (
    subst (λ (h : History). AddsNothing (old user) h (me user) alone) (sym (with_history-same old user now)) turned,
    with_history-other old user now,
  );
  unkept = omega (arith, later);
  answer = refl;
}

equal_if : (a b : ℕ) → (a == b) ≡ true → a ≡ b
equal_if a b is = grind (arith, nat_tests)

apart_if : (a b : ℕ) → (a == b) ≡ false → a ≢ b
apart_if a b is same = grind (arith, nat_tests)

-- what holds of this user's history and of the others' holds of all
stands_by : (P : ℕ → History → Type 0) (b : Bool) (old : ℕ → History) (user other : ℕ) (now : History) → (other == user) ≡ b → P user now
    → (other ≢ user → P other (old other)) → P other (if b then now else old other)
stands_by P true old user other now is this others = subst (λ (n : ℕ). P n now) (sym (equal_if other user is)) this
stands_by P false old user other now is this others = others (apart_if other user is)

pub all_stand : (S : ℕ → Type 0) (P : ℕ → History → Type 0) (old : ℕ → History) (user : ℕ) (now : History) → P user now
    → ((other : ℕ) → other ≢ user → S other → P other (old other)) → (other : ℕ) → S other → P other (with_history old user now other)
unfolding with_history
all_stand S P old user now this others other served =
    stands_by P (other == user) old user other now refl this (λ apart. others other apart served)

-- a message that asks no desk
pub now_answered : (old : ℕ → History) (quota me : ℕ → ℕ) (alone : Bool) (count : ℕ) (a : Answer) → {E : Type 0}
    → Decides {E = E} (record { history = old; quota = quota; me = me; alone = alone }) (Now a) old count count (Ok a)
now_answered old quota me alone count a = record {
  outcome = plain;
  goes_on = λ user. refl;
  unkept = omega arith;
  answer = refl;
}
