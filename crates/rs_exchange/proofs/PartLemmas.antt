-- The lines of a reply, put together.
use Rattle.std.proofs.Common.{◌≡◌, ℕ, List, [], ◌∷◌, ◌++◌, length, codes, sym, ap, ◌∙◌, if◌then◌else◌}
use Rattle.std.proofs.lemmas.List.{append-nil, append_assoc}
use Rattle.std.proofs.lemmas.List.Concat.{flat_map-append}
use Rattle.rs_reply.proofs.Cited.{reply_head_lines}
use Rattle.rs_request.specs.declared.field.Field.{Field}
use Rattle.rs_request.specs.Writing.{field_text, fields_text}
use Rattle.rs_reply.specs.Writing.{start_text, status_digits, phrase_of, status_line, reply_head_text, reply_text}
use Rattle.rs_exchange.specs.declared.manner.Manner.{Manner}
use Rattle.rs_exchange.specs.Lines.{lines_of, first_lines, last_lines, head_lines}
use Rattle.rs_exchange.specs.Replies.{Outline, origin_fields, length_fields, close_fields, reply_by}

-- ---- lines, one after another

pub one_line : (f : Field) → lines_of (f ∷ []) ≡ field_text f
one_line f = append-nil (field_text f)

pub two_lines : (old one two : List ℕ) (f g : Field) → one ≡ old ++ lines_of (f ∷ []) → two ≡ one ++ lines_of (g ∷ []) → two ≡ old ++ lines_of (f ∷ g ∷ [])
two_lines old one two f g a b =
    b ∙ ap (λ (l : List ℕ). l ++ lines_of (g ∷ [])) (a ∙ ap (λ (l : List ℕ). old ++ l) (one_line f))
    ∙ append_assoc old (field_text f) (lines_of (g ∷ []))

pub three_lines : (old one two three : List ℕ) (f g h : Field) → one ≡ old ++ lines_of (f ∷ []) → two ≡ one ++ lines_of (g ∷ [])
    → three ≡ two ++ lines_of (h ∷ []) → three ≡ old ++ lines_of (f ∷ g ∷ h ∷ [])
three_lines old one two three f g h a b c =
    c ∙ ap (λ (l : List ℕ). l ++ lines_of (h ∷ [])) (a_b)
    ∙ append_assoc old (field_text f ++ field_text g) (lines_of (h ∷ []))
    ∙ ap (λ (l : List ℕ). old ++ l) (append_assoc (field_text f) (field_text g) (lines_of (h ∷ [])))
  where
    a_b : two ≡ old ++ (field_text f ++ field_text g)
    a_b = two_lines old one two f g a b ∙ ap (λ (l : List ℕ). old ++ (field_text f ++ l)) (one_line g)

-- ---- replies without a body

start_append : (status : ℕ) (rest : List ℕ) → start_text status ++ rest ≡ codes "HTTP/1.1 " ++ (status_digits status ++ (32 ∷ rest))
start_append status rest =
    append_assoc (codes "HTTP/1.1 ") (status_digits status ++ (32 ∷ [])) rest
    ∙ ap (λ (l : List ℕ). codes "HTTP/1.1 " ++ l) (append_assoc (status_digits status) (32 ∷ []) rest)

-- such a reply is its status with its phrase, and what follows
pub fixed_text : (status : ℕ) (fields : List Field)
    → start_text status ++ (phrase_of status ++ (13 ∷ 10 ∷ fields_text fields)) ≡ reply_text (record { status = status; fields = fields; body = [] })
fixed_text status fields =
    start_append status (phrase_of status ++ (13 ∷ 10 ∷ fields_text fields))
    ∙ sym (append-nil (reply_head_text (record { status = status; fields = fields; body = [] })))

-- ---- whole heads

-- the lines of fields that are put together
lines_append : (fs gs : List Field) → lines_of (fs ++ gs) ≡ lines_of fs ++ lines_of gs
lines_append fs gs = flat_map-append field_text fs gs

-- the fields' text in its four parts
parts : (origin own size close : List Field) → fields_text (origin ++ (own ++ (size ++ close)))
    ≡ (lines_of origin ++ lines_of own) ++ (lines_of size ++ (lines_of close ++ (13 ∷ 10 ∷ [])))
parts origin own size close =
    ap (λ (l : List ℕ). l ++ (13 ∷ 10 ∷ []))
    (lines_append origin (own ++ (size ++ close))
    ∙ ap (λ (l : List ℕ). lines_of origin ++ l) (lines_append own (size ++ close) ∙ ap (λ (l : List ℕ). lines_of own ++ l) (lines_append size close)))
    ∙ append_assoc (lines_of origin) (lines_of own ++ (lines_of size ++ lines_of close)) (13 ∷ 10 ∷ [])
    ∙ ap (λ (l : List ℕ). lines_of origin ++ l) (append_assoc (lines_of own) (lines_of size ++ lines_of close) (13 ∷ 10 ∷ [])
    ∙ ap (λ (l : List ℕ). lines_of own ++ l) (append_assoc (lines_of size) (lines_of close) (13 ∷ 10 ∷ [])))
    ∙ sym (append_assoc (lines_of origin) (lines_of own) (lines_of size ++ (lines_of close ++ (13 ∷ 10 ∷ []))))

-- the head that was put together is that of the reply
pub head_is : (manner : Manner) (it : Outline) → head_lines manner it ≡ reply_head_text (reply_by manner it)
unfolding first_lines last_lines
head_is manner it =
    let origin = origin_fields manner.shared in
    let size = length_fields it.status (length it.body) in
    let close = close_fields manner.closing in
    append_assoc (status_line it.status) (lines_of origin ++ lines_of it.fields) (lines_of size ++ (lines_of close ++ (13 ∷ 10 ∷ [])))
    ∙ ap (λ (l : List ℕ). status_line it.status ++ l) (sym (parts origin it.fields size close))
    ∙ reply_head_lines (reply_by manner it)

-- the head, and the body that is sent
pub whole_reply : (manner : Manner) (it : Outline) (head body : List ℕ) → head ≡ head_lines manner it
    → body ≡ (if manner.bodiless then [] else it.body) → head ++ body ≡ reply_text (reply_by manner it)
whole_reply manner it head body is_head is_body =
    ap (λ (l : List ℕ). l ++ body) (is_head ∙ head_is manner it)
    ∙ ap (λ (l : List ℕ). reply_head_text (reply_by manner it) ++ l) is_body
