use Rattle.std.proofs.Common.{◌≡◌, ℕ, List, [], ◌∷◌, ◌++◌, map, string_bytes, sym, ap, ◌∙◌, append_assoc, append-nil}
use Rattle.form_urlencoded.specs.Parse.{raw_pairs_left}
use Rattle.rs_form.specs.Fields.{decoded_fields, values_among, form_values}
use Rattle.rs_form.proofs.FieldLemmas.{values_next}
use Rattle.rs_form.proofs.reading.read_values.Goals as goal

pub loop-key-preserved : goal.loop-key-preserved
loop-key-preserved c =
    let name = c.args.name.now in
    let pair : List ℕ × List ℕ = (c.in-Some.key.now, c.in-Some.value.now) in
    let rest = raw_pairs_left c.next.new.self in
    let before = map string_bytes c.loop-key.values.items in
    ap (λ xs. xs ++ values_among name (decoded_fields rest)) c.in_ok-push_named.ensures
    ∙ append_assoc before (values_among name (decoded_fields (pair ∷ []))) (values_among name (decoded_fields rest))
    ∙ ap (λ xs. before ++ xs) (sym (values_next name pair rest))
    ∙ ap (λ pairs. before ++ values_among name (decoded_fields pairs)) (sym c.in-Some.ensures.steps)
    ∙ c.loop-key.invariant

pub returns : goal.returns
returns c = record {
  values = sym (append-nil _)
      ∙ ap (λ pairs. map string_bytes c.loop-key.values.items ++ values_among c.args.name.now (decoded_fields pairs)) (sym c.in-None.ensures.steps.0)
      ∙ c.loop-key.invariant;
}
