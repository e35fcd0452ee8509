use Rattle.std.proofs.Common.{◌+◌, ◌*◌, ◌≤◌, refl, arith}
use Rattle.rs_rules.specs.Limits.{max_len}
use Rattle.rs_rules.specs.Histories.{len, with_entries}
use Rattle.rs_user.specs.Regrants.{regrants}
use Rattle.rs_user.proofs.RegrantLemmas.{some_of, pairs, stands_on}
use Rattle.rs_user.proofs.state.UserState.after_regrants.Goals as goal

pub returns-clause-regranted : goal.returns-clause-regranted
returns-clause-regranted g c h scopes stands given =
    let state = c.args.self in
    let n = c.args.pairs in
    let known = c.requires.granted in
    let room : len h + 2 * n ≤ max_len = omega (arith, stands.shows.len, known.1.shows.len, known.3) in
    let on = pairs c.step_laws.ensures.contents c.step_laws.ensures.scopes c.lawful_laws.ensures.more n h c.args.token.now scopes stands.lawful given room in
    stands_on g.T.Tree.stands state _ h (with_entries h (regrants c.args.token.now scopes n)) (2 * n) stands on refl refl refl refl refl

pub returns-clause-stands : goal.returns-clause-stands
returns-clause-stands g c =
    let known = c.requires.granted in
    let scopes = some_of _ known.2 in
    (with_entries known.0 (regrants c.args.token.now scopes.0 c.args.pairs), returns-clause-regranted g c known.0 scopes.0 known.1 scopes.1)
