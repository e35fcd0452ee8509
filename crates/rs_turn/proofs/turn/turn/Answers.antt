use Rattle.std.proofs.Common.{rules, ◌≡◌, ℕ, List, sym, ap, ◌∙◌, subst}
use Rattle.rs_path.specs.Logs.{own}
use Rattle.rs_turn.specs.Entries.{extended}
use Rattle.rs_path.specs.declared.log_entry.LogEntry.{LogEntry}
use Rattle.rs_turn.specs.Origins.{HasBasisOf, BeginsAsMade}
use Rattle.rs_turn.specs.Places.{added}
use Rattle.rs_turn.proofs.Cited.{begins_on}
use Rattle.rs_turn.proofs.Histories.{begins_extended}
use Rattle.rs_turn.proofs.Telling.{tells}
use Rattle.rs_turn.proofs.turn.turn.Goals as goal

pub returns-clause-turn : goal.returns-clause-turn
returns-clause-turn g c =
    let took = c.take-value.ensures.taken in
    let mid = c.take-value.new.place.me.0.seen in
    let more = c.act-done.result.more in
    let asked : c.of-asked.result.value ≡ c.args.deed.now = search rules in
    let lent : c.take-value.result.value ≡ c.deref_mut.result.now = search rules in
    let was : c.of-was.result.value ≡ c.deref_mut.result.now = search rules in
    let stood = subst (λ v. g.V.Held.stands v mid) lent took.3.0 in
    let based : HasBasisOf g.V.Held.basis c.args.place.now.me.0.origin c.deref_mut.result.now = (took.0, took.1, subst (λ v. g.V.Held.basis v ≡ g.V.Held.basis took.0) lent took.3.1) in
    let who : c.take-value.new.place.me.0.number ≡ c.args.who = ap (λ v. v.number) took.6 ∙ sym c.requires.who in
    let same : (own c.args.who mid ≡ own c.args.who c.args.place.now.me.0.seen)
    = subst (λ (n : ℕ). own n mid ≡ own n c.args.place.now.me.0.seen) (sym c.requires.who) took.5 in
    let after : (c.pass.new.place.me.0.seen ≡ extended mid c.args.who (added more (g.D.Deed.adds c.args.deed.now c.deref_mut.result.now c.args.who)))
    = ap (λ v. v.seen) c.pass.ensures.passed.1 ∙ (ap (λ v. v.seen) c.book.ensures.booked.1
    ∙ (ap (λ (n : ℕ). extended mid n (added more (g.D.Deed.adds c.of-asked.result.value c.of-was.result.value c.args.who))) who
    ∙ (ap (λ d. extended mid c.args.who (added more (g.D.Deed.adds d c.of-was.result.value c.args.who))) asked
    ∙ ap (λ v. extended mid c.args.who (added more (g.D.Deed.adds c.args.deed.now v c.args.who))) was))) in
    tells _ _ _ _ _ _ _ _ _ _ _ _ _ _ _ (c.act-done.ensures.acted _ stood) stood based took.4 c.requires.started same after

pub returns-clause-started : goal.returns-clause-started
returns-clause-started g c =
    let took = c.take-value.ensures.taken in
    let mid = c.take-value.new.place.me.0.seen in
    let origin = c.args.place.now.me.0.origin in
    let after = ap (λ v. v.seen) c.pass.ensures.passed.1 ∙ ap (λ v. v.seen) c.book.ensures.booked.1 in
    subst (λ (list : List (LogEntry g.row.V-What.Denot)). BeginsAsMade g.V.Held.stands origin list) (sym after)
    (begins_on g.V.Held.stands origin _ c.args.place.now.me.0.seen (begins_extended mid c.args.place.now.me.0.seen _ _ took.4) c.requires.started)
