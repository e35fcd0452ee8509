use Rattle.std.proofs.Common.{◌≡◌, ◌++◌, [], ◌∷◌, List, refl, ap, ◌∙◌}
use Rattle.rs_request.specs.declared.field.Field.{Field}
use Rattle.rs_message_tests.proofs.WritingSamples.{origin, exposed, tag, cached, kind, sized, found_is_writable}
use Rattle.rs_message_tests.proofs.writing.found.Goals as goal

-- one more field
grown : (xs ys zs : List Field) (f : Field) → ys ≡ zs → xs ≡ ys ++ f ∷ [] → xs ≡ zs ++ f ∷ []
grown xs ys zs f same e = e ∙ ap (λ (list : List Field). list ++ f ∷ []) same

pub returns : goal.returns
returns c =
    let one = grown c.put.new.fields _ [] origin c.new-fields.ensures.empty c.in_ok-put.ensures in
    let two = grown c.put-2.new.fields _ (origin ∷ []) exposed one c.in_ok-put-2.ensures in
    let three = grown c.put-3.new.fields _ (origin ∷ exposed ∷ []) tag two c.in_ok-put-3.ensures in
    let four = grown c.put-4.new.fields _ (origin ∷ exposed ∷ tag ∷ []) cached three c.in_ok-put-4.ensures in
    let five = grown c.put-5.new.fields _ (origin ∷ exposed ∷ tag ∷ cached ∷ []) kind four c.in_ok-put-5.ensures in
    let six = grown c.put-6.new.fields _ (origin ∷ exposed ∷ tag ∷ cached ∷ kind ∷ []) sized five c.in_ok-put-6.ensures in
    found_is_writable _ refl six c.in_ok-body.ensures
