use Rattle.std.proofs.Common.{◌≡◌, not, [], ◌∷◌, ◌++◌, Some, is_some, position, sym, ap, ◌∙◌}
use Rattle.std.proofs.lemmas.List.Quantifiers.{position-Some}
use Rattle.rs_path.specs.Paths.{Path, same_path}
use Rattle.rs_rules.proofs.Cited.{same_from}
use Rattle.rs_plain.specs.declared.write.Write.{Write}
use Rattle.rs_plain.specs.PlainTrees.{other_writes}
use Rattle.rs_plain.proofs.ListLemmas.{filter_without, has_place}
use Rattle.rs_plain.proofs.writes.renumber.Goals as goal

-- src/writes.rt:41:9
pub unwrap-index-requires : goal.unwrap-index-requires
unwrap-index-requires c =
    let at = λ (w : Write). same_path c.args.path.now w.path in
    ap is_some (c.place_of.ensures.place ∙ ap (position at) c.as_slice.ensures.value ∙ has_place at c.args.writes.now.items c.requires.written)

-- src/writes.rt:35:1
pub returns-clause-items : goal.returns-clause-items
returns-clause-items c =
    let path = c.args.path.now in
    let at = λ (w : Write). same_path path w.path in
    let writes = c.args.writes.now.items in
    let i = c.unwrap-index.result in
    let w = c.remove-write.result in
    let place : position at writes ≡ Some i =
    sym (ap (position at) c.as_slice.ensures.value) ∙ sym c.place_of.ensures.place ∙ c.unwrap-index.ensures in
    let found = position-Some at writes i w place in
    let same : w.path ≡ path = sym (same_from path w.path (ap (λ (v : Write). same_path path v.path) c.remove-write.ensures.value ∙ found.1)) in
    c.add.ensures.items
    ∙ ap (λ l. l ++ record { path = w.path; number = c.args.number } ∷ [])
    (c.forget.ensures.items ∙ ap (other_writes path) c.remove-write.ensures.items
    ∙ filter_without (λ (v : Write). not (same_path path v.path)) writes i w found.0 (ap not found.1))
    ∙ ap (λ (p : Path). other_writes path writes ++ record { path = p; number = c.args.number } ∷ []) same
