-- How a text is cut into items.
use Rattle.std.proofs.Common.{◌≡◌, ℕ, ◌+◌, ◌<◌, ◌≤◌, Bool, true, false, not, ◌&&◌, suc, List, [], ◌∷◌, length, take, drop, arith, refl, sym, ap, ◌∙◌, ⊎_elim, add-one, ◌++◌, Some, None, Ok, position}
use Rattle.std.specs.Prelude.{◌==◌, if◌then◌else◌}
use Rattle.std.specs.List.{onto_first}
use Rattle.std.specs.Option.{option_map}
use Rattle.std.proofs.lemmas.Bool.{cases_Bool, cond-true, cond-false}
use Rattle.rs_path.specs.Tags.{is_tag}
use Rattle.rs_rules.specs.declared.entity_tag.EntityTag.{EntityTag}
use Rattle.rs_rules.specs.CondReadings.{is_blank, is_quote, cut_items, item_len, quoted_text, is_marked, unmarked, tag_or_place, item_from, cond_item_reading, with_item}

-- whether what follows a byte is in quotes
abbrev after : ℕ → Bool → Bool
after byte quoted = if is_quote byte then not quoted else quoted

one_more : (byte : ℕ) (bytes : List ℕ) (quoted : Bool) → (byte == 44 && not quoted) ≡ false → item_len quoted (byte ∷ bytes) ≡ suc (item_len (after byte quoted) bytes)
one_more byte bytes quoted inner = cond-false (byte == 44 && not quoted) _ _ inner ∙ add-one (item_len (after byte quoted) bytes)

-- a text is cut at the first comma that isn't in quotes
pub cut_at : (quoted : Bool) (text : List ℕ) → item_len quoted text < length text
    → cut_items quoted text ≡ take (item_len quoted text) text ∷ cut_items false (drop (item_len quoted text + 1) text)
cut_at quoted [] inside = absurd (omega arith)
cut_at quoted (byte ∷ bytes) inside =
    ⊎_elim
    (λ comma.
    let zero : item_len quoted (byte ∷ bytes) ≡ 0 = cond-true (byte == 44 && not quoted) _ _ comma in
    cond-true (byte == 44 && not quoted) _ _ comma
    ∙ sym (ap (λ k. take k (byte ∷ bytes) ∷ cut_items false (drop (k + 1) (byte ∷ bytes))) zero))
    (λ inner.
    let m = item_len (after byte quoted) bytes in
    let len = one_more byte bytes quoted inner in
    let within : m < length bytes = omega (arith, len, inside) in
    let next : suc m + 1 ≡ suc (m + 1) = omega arith in
    cond-false (byte == 44 && not quoted) _ _ inner
    ∙ ap (onto_first byte) (cut_at (after byte quoted) bytes within)
    ∙ ap (λ k. (byte ∷ take m bytes) ∷ cut_items false (drop k (byte ∷ bytes))) (sym next)
    ∙ sym (ap (λ k. take k (byte ∷ bytes) ∷ cut_items false (drop (k + 1) (byte ∷ bytes))) len))
    (cases_Bool (byte == 44 && not quoted))

-- a text without such a comma is one item
pub cut_whole : (quoted : Bool) (text : List ℕ) → length text ≤ item_len quoted text → cut_items quoted text ≡ text ∷ []
cut_whole quoted [] outside = refl
cut_whole quoted (byte ∷ bytes) outside =
    ⊎_elim
    (λ comma.
    let zero : item_len quoted (byte ∷ bytes) ≡ 0 = cond-true (byte == 44 && not quoted) _ _ comma in
    absurd (omega (arith, zero, outside)))
    (λ inner.
    let len = one_more byte bytes quoted inner in
    let past : length bytes ≤ item_len (after byte quoted) bytes = omega (arith, len, outside) in
    cond-false (byte == 44 && not quoted) _ _ inner ∙ ap (onto_first byte) (cut_whole (after byte quoted) bytes past))
    (cases_Bool (byte == 44 && not quoted))

-- ---- an item

-- an item with a tag is read as that tag
pub item_read : (item text : List ℕ) (start : ℕ) → Some start ≡ position (λ byte. not (is_blank byte)) item → Some text ≡ quoted_text (unmarked (drop start item))
    → cond_item_reading item ≡ Ok (Some (record { weak = is_marked (drop start item); tag = text }))
item_read item text start first told =
    ap (λ o. item_from o item) (sym first)
    ∙ ap (λ o. tag_or_place start (option_map (λ (t : List ℕ). record { weak = is_marked (drop start item); tag = t }) o)) (sym told)

-- a text that is read as a tag is one
pub read_some : (text tag : List ℕ) → Some tag ≡ (if is_tag text then Some text else None) → (tag ≡ text) × (is_tag text ≡ true)
read_some text tag told =
    ⊎_elim
    (λ tagged. let same : Some tag ≡ Some text = told ∙ cond-true (is_tag text) (Some text) None tagged in (cc, tagged))
    (λ other. let none : Some tag ≡ None = told ∙ cond-false (is_tag text) (Some text) None other in absurd (cc))
    (cases_Bool (is_tag text))

pub read_none : (text : List ℕ) → None ≡ (if is_tag text then Some text else None) → is_tag text ≡ false
read_none text told =
    ⊎_elim
    (λ tagged. let some : None ≡ Some text = told ∙ cond-true (is_tag text) (Some text) None tagged in absurd (cc))
    (λ other. other)
    (cases_Bool (is_tag text))

-- a tag is added to the list
pub added : (tags : List EntityTag) (tag : EntityTag) → is_tag tag.tag ≡ true → tags ++ tag ∷ [] ≡ with_item tags (Some tag)
added tags tag tagged = sym (cond-true (is_tag tag.tag) (tags ++ tag ∷ []) tags tagged)

-- a text that is no tag is not
pub left_out : (tags : List EntityTag) (tag : EntityTag) → is_tag tag.tag ≡ false → tags ≡ with_item tags (Some tag)
left_out tags tag other = sym (cond-false (is_tag tag.tag) (tags ++ tag ∷ []) tags other)
