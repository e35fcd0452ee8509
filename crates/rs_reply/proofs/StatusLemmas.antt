-- The head of a reply, line by line.
use Rattle.std.proofs.Common.{◌≡◌, ℕ, List, [], ◌∷◌, ◌++◌, codes, sym, ap, ◌∙◌}
use Rattle.std.proofs.lemmas.List.{append_assoc}
use Rattle.rs_reply.specs.declared.message.ReplyMessage.{ReplyMessage}
use Rattle.rs_request.specs.Writing.{fields_text}
use Rattle.rs_reply.specs.Writing.{status_digits, phrase_of, start_text, status_line, reply_head_text}

-- the status line, and what follows
pub status_line_append : (status : ℕ) (rest : List ℕ)
    → status_line status ++ rest ≡ codes "HTTP/1.1 " ++ (status_digits status ++ (32 ∷ (phrase_of status ++ (13 ∷ 10 ∷ rest))))
unfolding status_line
status_line_append status rest =
    append_assoc (start_text status) (phrase_of status ++ (13 ∷ 10 ∷ [])) rest
    ∙ append_assoc (codes "HTTP/1.1 ") (status_digits status ++ (32 ∷ [])) ((phrase_of status ++ (13 ∷ 10 ∷ [])) ++ rest)
    ∙ ap (λ (l : List ℕ). codes "HTTP/1.1 " ++ l) (append_assoc (status_digits status) (32 ∷ []) ((phrase_of status ++ (13 ∷ 10 ∷ [])) ++ rest))
    ∙ ap (λ (l : List ℕ). codes "HTTP/1.1 " ++ (status_digits status ++ (32 ∷ l))) (append_assoc (phrase_of status) (13 ∷ 10 ∷ []) rest)

-- the head is its status line, and its fields
pub reply_head_lines : (m : ReplyMessage) → status_line m.status ++ fields_text m.fields ≡ reply_head_text m
reply_head_lines m = status_line_append m.status (fields_text m.fields)
