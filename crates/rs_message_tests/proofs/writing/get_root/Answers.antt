use Rattle.std.proofs.Common.{◌++◌, [], ◌∷◌, List, refl, ap, ◌∙◌}
use Rattle.std.specs.Prelude.{codes}
use Rattle.rs_request.specs.declared.field.Field.{Field}
use Rattle.rs_message_tests.proofs.WritingSamples.{named, get_root_is_writable}
use Rattle.rs_message_tests.proofs.writing.get_root.Goals as goal

pub returns : goal.returns
returns c =
    let fields = c.in_ok-put.ensures ∙ ap (λ (list : List Field). list ++ named (codes "Host") (codes "h") ∷ []) c.new-fields.ensures.empty in
    get_root_is_writable _ c.in_ok-method.ensures c.in_ok-target.ensures refl fields (c.of.ensures.bytes ∙ c.new.ensures.items) refl
