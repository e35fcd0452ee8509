-- Texts.
use Rattle.std.proofs.Common.{◌≡◌, ◌++◌, [], ℕ, List, Option, Some, None, option_map, sym, ap, ◌∙◌, append-nil, append_assoc}
use Rattle.rs_talk.specs.Roots.{Root}
use Rattle.rs_cache.specs.declared.connection.Connection.{Connection}
use Rattle.rs_cache.specs.declared.summary.Summary.{Summary}
use Rattle.rs_client.specs.Texts.{summary_text}

-- the text of a root is that of the connection whose root it is
pub summary-is : (o : Option Connection) (root : Root) (counts : Summary) (text : List ℕ) → option_map (λ (c : Connection). c.root) o ≡ Some root
    → text ≡ summary_text root counts → option_map (λ (c : Connection). summary_text c.root counts) o ≡ Some text
summary-is None root counts text none is = absurd (cc)
summary-is (Some c) root counts text at is =
    let same : c.root ≡ root = cc in
    ap (λ r. Some (summary_text r counts)) same ∙ ap (λ t. Some t) (sym is)

pub nothing_more : (text : List ℕ) → text ≡ text ++ []
nothing_more text = sym (append-nil text)

-- a text to which eight pieces were appended, one after another
pub eight_more : (o a b c d e f g h : List ℕ)
    → (((((((o ++ a) ++ b) ++ c) ++ d) ++ e) ++ f) ++ g) ++ h ≡ o ++ (a ++ (b ++ (c ++ (d ++ (e ++ (f ++ (g ++ h)))))))
eight_more o a b c d e f g h =
    append_assoc ((((((o ++ a) ++ b) ++ c) ++ d) ++ e) ++ f) g h
    ∙ (append_assoc (((((o ++ a) ++ b) ++ c) ++ d) ++ e) f (g ++ h)
    ∙ (append_assoc ((((o ++ a) ++ b) ++ c) ++ d) e (f ++ (g ++ h))
    ∙ (append_assoc (((o ++ a) ++ b) ++ c) d (e ++ (f ++ (g ++ h)))
    ∙ (append_assoc ((o ++ a) ++ b) c (d ++ (e ++ (f ++ (g ++ h))))
    ∙ (append_assoc (o ++ a) b (c ++ (d ++ (e ++ (f ++ (g ++ h)))))
    ∙ append_assoc o a (b ++ (c ++ (d ++ (e ++ (f ++ (g ++ h)))))))))))

pub in_eight_steps : {n₁ n₂ n₃ n₄ n₅ n₆ n₇ n₈ : List ℕ} (o a b c d e f g h : List ℕ)
    → n₁ ≡ o ++ a → n₂ ≡ n₁ ++ b → n₃ ≡ n₂ ++ c → n₄ ≡ n₃ ++ d → n₅ ≡ n₄ ++ e → n₆ ≡ n₅ ++ f → n₇ ≡ n₆ ++ g → n₈ ≡ n₇ ++ h
    → n₈ ≡ o ++ (a ++ (b ++ (c ++ (d ++ (e ++ (f ++ (g ++ h)))))))
in_eight_steps {n₁} {n₂} {n₃} {n₄} {n₅} {n₆} {n₇} {n₈} o a b c d e f g h one two three four five six seven eight =
    let t₂ : n₂ ≡ (o ++ a) ++ b = two ∙ ap (λ t. t ++ b) one in
    let t₃ : n₃ ≡ ((o ++ a) ++ b) ++ c = three ∙ ap (λ t. t ++ c) t₂ in
    let t₄ : n₄ ≡ (((o ++ a) ++ b) ++ c) ++ d = four ∙ ap (λ t. t ++ d) t₃ in
    let t₅ : n₅ ≡ ((((o ++ a) ++ b) ++ c) ++ d) ++ e = five ∙ ap (λ t. t ++ e) t₄ in
    let t₆ : n₆ ≡ (((((o ++ a) ++ b) ++ c) ++ d) ++ e) ++ f = six ∙ ap (λ t. t ++ f) t₅ in
    let t₇ : n₇ ≡ ((((((o ++ a) ++ b) ++ c) ++ d) ++ e) ++ f) ++ g = seven ∙ ap (λ t. t ++ g) t₆ in
    (eight ∙ ap (λ t. t ++ h) t₇) ∙ eight_more o a b c d e f g h
