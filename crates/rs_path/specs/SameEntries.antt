-- When entries are equal, field by field.
use Rattle.std.specs.Prelude.{Bool, nat_eq, List}
use Rattle.std.specs.Option.{option_eq}
use Rattle.std.specs.Ordering.{on, eq_of_both}
use Rattle.std.specs.Str.{bytes_eq}
use Rattle.std.specs.Cmp.{IsEquivalence, bool_eq_equiv}
use Rattle.std.specs.Cmp.Lexicographic.{pointwise, lists_equiv, options_equiv}
use Rattle.std.proofs.lemmas.Cmp.{nat_list_eq_equiv, nat_eq_equiv, on_equiv, and_equiv}
use mathlib.Core.Bool.{beq}
use Rattle.rs_path.specs.declared.entry.Entry.{Entry}

-- the same name, kind of item, tag, content type and length
abbrev pub same_entry : Entry → Entry → Bool
same_entry = eq_of_both (eq_of_both (eq_of_both (eq_of_both (on (λ (e : Entry). e.name) bytes_eq)
    (on (λ (e : Entry). e.folder) beq)) (on (λ (e : Entry). e.tag) bytes_eq))
    (on (λ (e : Entry). e.kind) (option_eq bytes_eq))) (on (λ (e : Entry). e.length) (option_eq nat_eq))

pub same_entry_equiv : IsEquivalence same_entry
same_entry_equiv =
    and_equiv (and_equiv (and_equiv (and_equiv (on_equiv (λ (e : Entry). e.name) nat_list_eq_equiv)
    (on_equiv (λ (e : Entry). e.folder) bool_eq_equiv)) (on_equiv (λ (e : Entry). e.tag) nat_list_eq_equiv))
    (on_equiv (λ (e : Entry). e.kind) (options_equiv nat_list_eq_equiv))) (on_equiv (λ (e : Entry). e.length) (options_equiv nat_eq_equiv))

-- the same entries in the same order
abbrev pub same_entries : List Entry → List Entry → Bool
same_entries = pointwise same_entry

pub same_entries_equiv : IsEquivalence same_entries
same_entries_equiv = lists_equiv same_entry_equiv
