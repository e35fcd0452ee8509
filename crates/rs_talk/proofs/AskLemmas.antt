-- The lines of a request, put together.
use Rattle.std.proofs.Common.{◌≡◌, ℕ, List, [], ◌∷◌, ◌++◌, codes, sym, ap, ◌∙◌}
use Rattle.std.proofs.lemmas.List.{append-nil, append_assoc}
use Rattle.std.proofs.lemmas.List.Concat.{flat_map-append}
use Rattle.rs_request.specs.declared.field.Field.{Field}
use Rattle.rs_request.specs.Writing.{field_text, fields_text, request_head_text}
use Rattle.rs_talk.specs.declared.ask.Ask.{Ask}
use Rattle.rs_talk.specs.Asks.{ask_message, ask_method, ask_target, host_sent, token_sent, kinds_sent, conditions_sent, lengths_sent, close_sent, fields_sent}
use Rattle.rs_talk.specs.AskLines.{ask_start, lines_sent}
use Rattle.rs_talk.specs.Roots.{Root}

pub one_line : (f : Field) → lines_sent (f ∷ []) ≡ field_text f
one_line f = append-nil (field_text f)

-- the lines of fields that are put together
lines_append : (fs gs : List Field) → lines_sent (fs ++ gs) ≡ lines_sent fs ++ lines_sent gs
lines_append fs gs = flat_map-append field_text fs gs

-- the fields' text in its five parts
parts : (sender kinds conditions lengths close : List Field) → fields_text (sender ++ (kinds ++ (conditions ++ (lengths ++ close))))
    ≡ lines_sent sender ++ (lines_sent kinds ++ (lines_sent conditions ++ (lines_sent lengths ++ fields_text close)))
parts sender kinds conditions lengths close =
    let end = 13 ∷ 10 ∷ [] in
    let C = lines_append conditions (lengths ++ close) ∙ ap (λ (l : List ℕ). lines_sent conditions ++ l) (lines_append lengths close) in
    let K = lines_append kinds (conditions ++ (lengths ++ close)) ∙ ap (λ (l : List ℕ). lines_sent kinds ++ l) C in
    ap (λ (l : List ℕ). l ++ end) (lines_append sender (kinds ++ (conditions ++ (lengths ++ close))) ∙ ap (λ (l : List ℕ). lines_sent sender ++ l) K)
    ∙ append_assoc (lines_sent sender) (lines_sent kinds ++ (lines_sent conditions ++ (lines_sent lengths ++ lines_sent close))) end
    ∙ ap (λ (l : List ℕ). lines_sent sender ++ l) (append_assoc (lines_sent kinds) (lines_sent conditions ++ (lines_sent lengths ++ lines_sent close)) end
    ∙ ap (λ (l : List ℕ). lines_sent kinds ++ l) (append_assoc (lines_sent conditions) (lines_sent lengths ++ lines_sent close) end
    ∙ ap (λ (l : List ℕ). lines_sent conditions ++ l) (append_assoc (lines_sent lengths) (lines_sent close) end)))

-- the request line, and what follows
start_append : (root : Root) (ask : Ask) (rest : List ℕ)
    → ask_start root ask ++ rest ≡ ask_method ask ++ (32 ∷ (ask_target root ask ++ (codes " HTTP/1.1" ++ (13 ∷ 10 ∷ rest))))
start_append root ask rest =
    append_assoc (ask_method ask) (32 ∷ (ask_target root ask ++ codes " HTTP/1.1\r\n")) rest
    ∙ ap (λ (l : List ℕ). ask_method ask ++ (32 ∷ l)) (append_assoc (ask_target root ask) (codes " HTTP/1.1\r\n") rest)

-- the head that was put together is that of the request
pub head_is : (root : Root) (token : List ℕ) (ask : Ask)
    → ask_start root ask ++ (lines_sent (host_sent root ∷ token_sent token ∷ []) ++ (lines_sent (kinds_sent ask)
    ++ (lines_sent (conditions_sent ask) ++ (lines_sent (lengths_sent ask) ++ fields_text (close_sent ∷ [])))))
    ≡ request_head_text (ask_message root token ask)
head_is root token ask =
    ap (λ (l : List ℕ). ask_start root ask ++ l)
    (sym (parts (host_sent root ∷ token_sent token ∷ []) (kinds_sent ask) (conditions_sent ask) (lengths_sent ask) (close_sent ∷ [])))
    ∙ start_append root ask (fields_text (fields_sent root token ask))

-- ---- what was put, part by part

pub two_lines : (old one two : List ℕ) (f g : Field) → one ≡ old ++ lines_sent (f ∷ []) → two ≡ one ++ lines_sent (g ∷ [])
    → two ≡ old ++ lines_sent (f ∷ g ∷ [])
two_lines old one two f g a b =
    b ∙ ap (λ (l : List ℕ). l ++ lines_sent (g ∷ [])) (a ∙ ap (λ (l : List ℕ). old ++ l) (one_line f))
    ∙ append_assoc old (field_text f) (lines_sent (g ∷ []))

pub start_put : (root : Root) (ask : Ask) (old one two three four : List ℕ) → one ≡ old ++ ask_method ask → two ≡ one ++ codes " "
    → three ≡ two ++ ask_target root ask → four ≡ three ++ codes " HTTP/1.1\r\n" → four ≡ old ++ ask_start root ask
start_put root ask old one two three four a b c d =
    let end = codes " HTTP/1.1\r\n" in
    d ∙ ap (λ (l : List ℕ). l ++ end) (c ∙ ap (λ (l : List ℕ). l ++ ask_target root ask) (b ∙ ap (λ (l : List ℕ). l ++ codes " ") a))
    ∙ append_assoc ((old ++ ask_method ask) ++ codes " ") (ask_target root ask) end
    ∙ append_assoc (old ++ ask_method ask) (codes " ") (ask_target root ask ++ end)
    ∙ append_assoc old (ask_method ask) (32 ∷ (ask_target root ask ++ end))

pub six_parts : (none one two three four five six a b c d e f : List ℕ) → none ≡ [] → one ≡ none ++ a → two ≡ one ++ b → three ≡ two ++ c
    → four ≡ three ++ d → five ≡ four ++ e → six ≡ five ++ f → six ≡ a ++ (b ++ (c ++ (d ++ (e ++ f))))
six_parts none one two three four five six a b c d e f z p q r s t u =
    let two_is : two ≡ a ++ b = q ∙ ap (λ (l : List ℕ). l ++ b) (p ∙ ap (λ (l : List ℕ). l ++ a) z) in
    u ∙ ap (λ (l : List ℕ). l ++ f) (t ∙ ap (λ (l : List ℕ). l ++ e) (s ∙ ap (λ (l : List ℕ). l ++ d) (r ∙ ap (λ (l : List ℕ). l ++ c) two_is)))
    ∙ append_assoc (((a ++ b) ++ c) ++ d) e f
    ∙ append_assoc ((a ++ b) ++ c) d (e ++ f)
    ∙ append_assoc (a ++ b) c (d ++ (e ++ f))
    ∙ append_assoc a b (c ++ (d ++ (e ++ f)))
