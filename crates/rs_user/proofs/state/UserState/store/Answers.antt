use Rattle.std.proofs.Common.{◌≡◌, ◌+◌, Some, refl, sym, ap, ◌∙◌, subst}
use Rattle.rs_rules.specs.declared.call.Call.{Call}
use Rattle.rs_rules.specs.declared.reply.Reply.{Reply}
use Rattle.rs_rules.specs.declared.reply.Reply.TheVariants.{Stored, Removed}
use Rattle.rs_rules.specs.declared.request.Request.TheVariants.{Store}
use Rattle.rs_rules.specs.Histories.{len}
use Rattle.rs_rules.specs.Snapshots.{Snapshot, snapshot}
use Rattle.rs_rules.specs.Answers.{answer, taken, put_record, remove_record, record_of_call}
use Rattle.rs_user.specs.declared.decision.Decision.{Decision}
use Rattle.rs_user.specs.Decisions.{DecisionAgrees}
use Rattle.rs_user.proofs.MayLemmas.{put_within}
use Rattle.rs_user.proofs.PreparationLemmas.{kept_row}
use Rattle.rs_user.proofs.TurnLemmas.{kept_turns, still_turns}
use Rattle.rs_user.proofs.state.UserState.store.Goals as goal

pub decide-requires : goal.decide-requires
decide-requires g c =
    let stands = c.requires.stands in
    let call = c.args.call.now in
    record {
      room = (snapshot stands.0, stands.1.shows, λ put. c.lawful_laws.ensures.room stands.0 call.body stands.1.lawful (put_within call.method call.body c.requires.body put));
    }

-- the decision, as it turned out
told : (s : Snapshot) (c : Call) (answer : Reply) (decision other : Decision) → decision ≡ other → DecisionAgrees s c answer decision → DecisionAgrees s c answer other
told s c answer decision other is decides = subst (DecisionAgrees s c answer) is decides

pub unwrap-requires : goal.unwrap-requires
unwrap-requires g c =
    let stands = c.requires.stands in
    let h = stands.0 in
    let call = c.args.call.now in
    let quota = c.args.self.now.quota in
    let is = told (snapshot h) call _ _ _ c.in-Put.is (c.in_ok-reply.ensures.decided (snapshot h) stands.1.shows) in
    let adds : taken h quota (Store call) ≡ Some (put_record call) = ap (record_of_call call) is in
    let keeps = c.turn_laws.ensures.row h quota (Store call) (put_record call) stands.1.lawful c.requires.body adds in
    (kept_row c.args.row (Store call) (put_record call) c.requires.made keeps).0

pub keep_put-requires : goal.keep_put-requires
keep_put-requires g c =
    let stands = c.requires.stands in
    let h = stands.0 in
    let call = c.args.call.now in
    let quota = c.args.self.now.quota in
    let is = told (snapshot h) call _ _ _ c.in-Put.is (c.in_ok-reply.ensures.decided (snapshot h) stands.1.shows) in
    let adds : taken h quota (Store call) ≡ Some (put_record call) = ap (record_of_call call) is in
    let keeps = c.turn_laws.ensures.row h quota (Store call) (put_record call) stands.1.lawful c.requires.body adds in
    record {
      may = (
        h,
        stands.1,
        c.taken_laws.ensures.may h quota (Store call) (put_record call) c.requires.body adds,
        c.taken_laws.ensures.room h quota (Store call) (put_record call) adds,
      );
      row = (kept_row c.args.row (Store call) (put_record call) c.requires.made keeps).1 c.unwrap.result c.unwrap.ensures;
    }

pub unwrap-requires-in-Remove : goal.unwrap-requires-in-Remove
unwrap-requires-in-Remove g c =
    let stands = c.requires.stands in
    let h = stands.0 in
    let call = c.args.call.now in
    let quota = c.args.self.now.quota in
    let is = told (snapshot h) call _ _ _ c.in-Remove.is (c.in_ok-reply.ensures.decided (snapshot h) stands.1.shows) in
    let adds : taken h quota (Store call) ≡ Some (remove_record call) = ap (record_of_call call) is in
    let keeps = c.turn_laws.ensures.row h quota (Store call) (remove_record call) stands.1.lawful c.requires.body adds in
    (kept_row c.args.row (Store call) (remove_record call) c.requires.made keeps).0

pub keep_remove-requires : goal.keep_remove-requires
keep_remove-requires g c =
    let stands = c.requires.stands in
    let h = stands.0 in
    let call = c.args.call.now in
    let quota = c.args.self.now.quota in
    let is = told (snapshot h) call _ _ _ c.in-Remove.is (c.in_ok-reply.ensures.decided (snapshot h) stands.1.shows) in
    let adds : taken h quota (Store call) ≡ Some (remove_record call) = ap (record_of_call call) is in
    let keeps = c.turn_laws.ensures.row h quota (Store call) (remove_record call) stands.1.lawful c.requires.body adds in
    record {
      may = (
        h,
        stands.1,
        c.taken_laws.ensures.may h quota (Store call) (remove_record call) c.requires.body adds,
        c.taken_laws.ensures.room h quota (Store call) (remove_record call) adds,
      );
      row = (kept_row c.args.row (Store call) (remove_record call) c.requires.made keeps).1 c.unwrap-in-Remove.result c.unwrap-in-Remove.ensures;
    }

pub returns-in-Answer-clause-turned : goal.returns-in-Answer-clause-turned
returns-in-Answer-clause-turned g c h who s =
    let call = c.args.call.now in
    let quota = c.args.self.now.quota in
    let is = told (snapshot h) call _ _ _ c.in-Answer.is (c.in_ok-reply.ensures.decided (snapshot h) s.shows) in
    still_turns g.T.Tree.stands c.args.self.now h quota who (Store call) (record { reply = c.in-Answer.reply; front = c.args.self.now.len }) _ _
    (c.answer_laws.ensures.kept h quota (Store call)) (sym is.0) s.shows.len (ap (record_of_call call) is.0 ∙ is.1) s

pub returns-in-Put-clause-turned : goal.returns-in-Put-clause-turned
returns-in-Put-clause-turned g c h who s =
    let call = c.args.call.now in
    let quota = c.args.self.now.quota in
    let is = told (snapshot h) call _ _ _ c.in-Put.is (c.in_ok-reply.ensures.decided (snapshot h) s.shows) in
    let adds : taken h quota (Store call) ≡ Some (put_record call) = ap (record_of_call call) is in
    kept_turns g.T.Tree.stands c.keep_put.new.self h quota who (Store call) (put_record call) (Stored (len h + 1) c.in-Put.created) c.keep_put.result
    _ _ _ _ is refl
    (c.keep_put.ensures.keeps h who s (c.taken_laws.ensures.may h quota (Store call) (put_record call) c.requires.body adds)
    (c.taken_laws.ensures.room h quota (Store call) (put_record call) adds))

pub returns-in-Remove-clause-turned : goal.returns-in-Remove-clause-turned
returns-in-Remove-clause-turned g c h who s =
    let call = c.args.call.now in
    let quota = c.args.self.now.quota in
    let is = told (snapshot h) call _ _ _ c.in-Remove.is (c.in_ok-reply.ensures.decided (snapshot h) s.shows) in
    let adds : taken h quota (Store call) ≡ Some (remove_record call) = ap (record_of_call call) is in
    kept_turns g.T.Tree.stands c.keep_remove.new.self h quota who (Store call) (remove_record call) (Removed c.in-Remove.version) c.keep_remove.result
    _ _ _ _ is refl
    (c.keep_remove.ensures.keeps h who s (c.taken_laws.ensures.may h quota (Store call) (remove_record call) c.requires.body adds)
    (c.taken_laws.ensures.room h quota (Store call) (remove_record call) adds))
