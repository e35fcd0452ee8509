use Rattle.std.proofs.Common.{◌≡◌, false, List, sym, ap, ◌∙◌}
use Rattle.rs_plain.specs.declared.write.Write.{Write}
use Rattle.rs_plain.specs.PlainTrees.{is_written}
use Rattle.rs_plain.proofs.WriteLemmas.{unwritten_docs, unwritten_writes}
use Rattle.rs_plain.proofs.plain_tree.clear.Goals as goal

pub returns-then-not-is_written-clause-docs : goal.returns-then-not-is_written-clause-docs
returns-then-not-is_written-clause-docs c =
    let path = c.args.here.now in
    let writes = c.args.writes.now.items in
    let never : is_written writes path ≡ false =
    ap (λ (ws : List Write). is_written ws path) (sym c.as_slice.ensures.value) ∙ sym c.is_written.ensures.written ∙ c.if-not-is_written.true in
    sym (unwritten_docs path c.args.docs.now.items writes c.requires.written never)

pub returns-then-not-is_written-clause-writes : goal.returns-then-not-is_written-clause-writes
returns-then-not-is_written-clause-writes c =
    let path = c.args.here.now in
    let writes = c.args.writes.now.items in
    let never : is_written writes path ≡ false =
    ap (λ (ws : List Write). is_written ws path) (sym c.as_slice.ensures.value) ∙ sym c.is_written.ensures.written ∙ c.if-not-is_written.true in
    sym (unwritten_writes path writes never)
