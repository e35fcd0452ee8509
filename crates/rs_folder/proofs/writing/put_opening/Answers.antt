-- A token behind another.
use Rattle.std.proofs.Common.{◌≡◌, List, [], ◌∷◌, ◌++◌, codes, ap, ◌∙◌, append_assoc}
use Rattle.json.specs.Token.{Token, begin_object, key, string}
use Rattle.rs_folder.specs.Descriptions.{context}
use Rattle.rs_folder.proofs.writing.put_opening.Goals as goal

in_one : (ts : List Token) (a b c d e : Token) → ((((ts ++ a ∷ []) ++ b ∷ []) ++ c ∷ []) ++ d ∷ []) ++ e ∷ [] ≡ ts ++ a ∷ b ∷ c ∷ d ∷ e ∷ []
in_one ts a b c d e = simp append_assoc

pub returns-clause-tokens : goal.returns-clause-tokens
returns-clause-tokens c =
    let first = c.in_ok-begin_object.ensures.ok in
    let second = c.in_ok-key.ensures.ok ∙ ap (λ ts. ts ++ key (codes "@context") ∷ []) first in
    let third = c.in_ok-string.ensures.ok ∙ ap (λ ts. ts ++ string context ∷ []) second in
    let fourth = c.in_ok-key-2.ensures.ok ∙ ap (λ ts. ts ++ key (codes "items") ∷ []) third in
    c.in_ok-begin_object-2.ensures.ok ∙ ap (λ ts. ts ++ begin_object ∷ []) fourth
    ∙ in_one c.args.writer.now.tokens begin_object (key (codes "@context")) (string context) (key (codes "items")) begin_object
