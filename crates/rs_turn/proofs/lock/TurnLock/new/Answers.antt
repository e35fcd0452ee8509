use Rattle.std.proofs.Common.{rules, ◌≡◌, [], ◌∷◌, Some, sym, ap, ◌∙◌, subst}
use Rattle.rs_turn.specs.Origins.{StandsFrom}
use Rattle.rs_turn.proofs.Opening.{opens}
use Rattle.rs_turn.proofs.lock.TurnLock.new.Goals as goal

pub new-requires-2 : goal.new-requires-2
new-requires-2 g c =
    let h = c.requires in
    let about : c.of-about.result.value ≡ c.args.value = search rules in
    let boxed : c.in_ok-value.value.value ≡ c.args.value = search rules in
    let slots : c.push.new.self.items ≡ Some c.in_ok-value.value ∷ [] = search rules in
    let basis = ap g.V.Held.basis (boxed ∙ sym about) in
    let kept = opens g.V.Held.stands (λ o b. StandsFrom g.V.Held.stands g.V.Held.basis o b.value) c.of-about.result.value c.in_ok-value.value h.0
    (subst (λ v. g.V.Held.stands v h.0) (sym about) h.1) (subst (λ v. g.V.Held.stands v h.0) (sym boxed) h.1, basis) h.2 in
    let len = c.len.ensures h.0 h.1 in
    rw (len, slots) kept
