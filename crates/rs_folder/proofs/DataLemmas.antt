-- The items of a folder as members of an object, in the order of their keys.
use Rattle.std.proofs.Common.{◌≡◌, true, List, [], ◌∷◌, ◌++◌, refl, ap, ◌∙◌}
use Rattle.std.specs.declared.cmp.Ordering.{Ordering}
use Rattle.std.specs.declared.cmp.Ordering.TheVariants.{Less, Equal, Greater}
use Rattle.std.specs.List.{list_all}
use Rattle.std.specs.Ordering.{nat_cmp, is_lt, ordering_reverse}
use Rattle.std.specs.Cmp.Lexicographic.{slice_cmp}
use Rattle.std.proofs.lemmas.Bool.{and_parts}
use Rattle.std.proofs.lemmas.Cmp.{nat_list_cmp_total}
use Rattle.serde_json.specs.Data.{member, put}
use Rattle.rs_path.specs.declared.entry.Entry.{Entry}
use Rattle.rs_path.specs.Items.{entry_key, comes_before, is_ascending}
use Rattle.rs_folder.proofs.FolderData.{entry_data, items_data}

pub is_less : (o : Ordering) → is_lt o ≡ true → o ≡ Less
is_less Less h = refl
is_less Equal h = absurd cc
is_less Greater h = absurd cc

before_middle : (first : Entry) (done : List Entry) (e : Entry) (more : List Entry) → list_all (comes_before first) (done ++ e ∷ more) ≡ true
    → comes_before first e ≡ true
before_middle first [] e more h = (and_parts (comes_before first e) (list_all (comes_before first) more) h).0
before_middle first (d ∷ done) e more h =
    before_middle first done e more (and_parts (comes_before first d) (list_all (comes_before first) (done ++ e ∷ more)) h).1

-- an item behind others goes last
pub put_behind : (done : List Entry) (e : Entry) (more : List Entry) → is_ascending (done ++ e ∷ more) ≡ true
    → put (entry_key e) (entry_data e) (items_data done) ≡ items_data (done ++ e ∷ [])
put_behind [] e more h = refl
put_behind (d ∷ done) e more h =
    let parts = and_parts (list_all (comes_before d) (done ++ e ∷ more)) (is_ascending (done ++ e ∷ more)) h in
    let less = is_less (slice_cmp nat_cmp (entry_key d) (entry_key e)) (before_middle d done e more parts.0) in
    let above : slice_cmp nat_cmp (entry_key e) (entry_key d) ≡ Greater =
    nat_list_cmp_total.antisymm (entry_key e) (entry_key d) ∙ ap ordering_reverse less in
    rw above (ap (member (entry_key d) (entry_data d)) (put_behind done e more parts.1))
