use Rattle.std.proofs.Common.{◌≡◌, ◌∷◌, ◌++◌, [], List, ℕ, ap, ◌∙◌, rules}
use Rattle.std.specs.Prelude.{codes}
use Rattle.std.proofs.lemmas.List.{append_assoc}
use Rattle.rs_request.specs.Writing.{fields_text}
use Rattle.rs_request.proofs.write.request_head.Goals as goal

-- the pieces, one after another
joined : (m t f a b c d e : List ℕ) → a ≡ m → b ≡ a ++ 32 ∷ [] → c ≡ b ++ t → d ≡ c ++ (codes " HTTP/1.1" ++ 13 ∷ 10 ∷ []) → e ≡ d ++ f
    → e ≡ m ++ (32 ∷ (t ++ (codes " HTTP/1.1" ++ (13 ∷ 10 ∷ f))))
joined m t f a b c d e p q r s u =
    u ∙ ap (λ x. x ++ f) (s ∙ ap (λ x. x ++ (codes " HTTP/1.1" ++ 13 ∷ 10 ∷ [])) (r ∙ ap (λ x. x ++ t) (q ∙ ap (λ x. x ++ 32 ∷ []) p)))
    ∙ regroup m t f
  where
    regroup : (m t f : List ℕ) → (((m ++ 32 ∷ []) ++ t) ++ (codes " HTTP/1.1" ++ 13 ∷ 10 ∷ [])) ++ f ≡ m ++ (32 ∷ (t ++ (codes " HTTP/1.1" ++ (13 ∷ 10 ∷ f))))
    regroup m t f =
        append_assoc ((m ++ 32 ∷ []) ++ t) (codes " HTTP/1.1" ++ 13 ∷ 10 ∷ []) f
        ∙ append_assoc (m ++ 32 ∷ []) t _ ∙ append_assoc m (32 ∷ []) _

pub returns : goal.returns
returns c =
    joined c.args.it.now.method c.args.it.now.target (fields_text c.args.it.now.fields) c.put.new.out.items c.put-2.new.out.items c.put-3.new.out.items c.put-4.new.out.items c.put_fields.new.out.items
    (search rules) c.in_ok-put-2.ensures (c.in_ok-put-3.ensures ∙ ap (λ x. c.put-2.new.out.items ++ x) c.as_slice-2.ensures.bytes) c.in_ok-put-4.ensures
    (c.in_ok-put_fields.ensures ∙ ap (λ fs. c.put-4.new.out.items ++ fields_text fs) c.as_slice-3.ensures.fields)
