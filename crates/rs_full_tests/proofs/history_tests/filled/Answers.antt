-- A lawful history has no more records than there may be.
use Rattle.std.proofs.Common.{◌≡◌, ◌≤◌, true, arith, sym, ◌∙◌}
use Rattle.std.specs.Prelude.{is_some}
use Rattle.rs_rules.specs.Histories.{len}
use Rattle.rs_rules.specs.Limits.{max_len}
use Rattle.rs_rules.specs.Tokens.{scopes_of}
use Rattle.rs_full_tests.proofs.history_tests.filled.Goals as goal

pub overflow_sub-pairs : goal.overflow_sub-pairs
overflow_sub-pairs g c =
    let stands = c.requires.stands in
    let length = c.len.ensures.len stands.0 stands.1 in
    let few : len stands.0 ≤ max_len = stands.1.lawful.few in
    omega (arith, length, few)

pub after_regrants-requires : goal.after_regrants-requires
after_regrants-requires g c =
    let stands = c.requires.stands in
    let h = stands.0 in
    let granted : is_some (scopes_of h c.owner-token.result) ≡ true = sym (c.granted.ensures.granted h stands.1) ∙ c.if-not-granted.false in
    let length = c.len.ensures.len h stands.1 in
    let few : len h ≤ max_len = stands.1.lawful.few in
    record { granted = (h, stands.1, granted, omega (arith, length, few)) }
