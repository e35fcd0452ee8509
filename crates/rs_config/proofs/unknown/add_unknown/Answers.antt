use Rattle.std.proofs.Common.{◌≡◌, ◌++◌, ◌∷◌, [], ◌∙◌, ap, cond, string_bytes, append_assoc, sym}
use Rattle.toml.specs.View.{members_view}
use Rattle.toml.proofs.Views.{Entry}
use Rattle.rs_config.specs.ConfigKeys.{is_known}
use Rattle.rs_config.specs.ConfigReadings.{unknown_in}
use Rattle.rs_config.proofs.ValueLemmas.{unknown_more}
use Rattle.rs_config.proofs.unknown.add_unknown.Goals as goal

pub loop-name-preserved : goal.loop-name-preserved
loop-name-preserved c =
    let l = c.loop-name in
    let done = l.invariant.0 in
    let e : Entry = (c.in-Some.name.now, c.in-Some._value.now) in
    let left = c.next.new.self in
    let known = c.args.known.now in
    let names = c.args.names.now.items in
    let more = cond (is_known known (string_bytes e.0)) [] (string_bytes e.0 ∷ []) in
    let added : c.add_if_unknown.new.names.items ≡ l.names.items ++ more = rw c.as_str.ensures.value at c.in_ok-add_if_unknown.ensures.added in (
      done ++ e ∷ [],
      l.invariant.1 ∙ (ap (λ es. done ++ es) c.in-Some.ensures.steps ∙ sym (append_assoc done (e ∷ []) left)),
      added ∙ (ap (λ so_far. so_far ++ more) l.invariant.2
          ∙ (append_assoc names (unknown_in known (members_view done)) more ∙ ap (λ rest. names ++ rest) (sym (unknown_more known done e)))),
    )
