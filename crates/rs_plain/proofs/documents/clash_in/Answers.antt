use Rattle.std.proofs.Common.{◌≡◌, ℕ, true, false, cond, List, length, take, Some, None, sym, ap, ◌∙◌}
use Rattle.std.specs.Option.{option_or}
use Rattle.rs_path.specs.Paths.{Path, folder_at}
use Rattle.rs_rules.specs.declared.placed.Placed.{Placed}
use Rattle.rs_rules.specs.Documents.{has_below}
use Rattle.rs_rules.specs.Clashes.{clash_in, first_document, has_document}
use Rattle.rs_plain.proofs.DocumentLemmas.{has_document_any}
use Rattle.rs_plain.proofs.FrontLemmas.{front_here, front_past}
use Rattle.rs_plain.proofs.documents.clash_in.Goals as goal

clash_hit : (docs : List Placed) (path : Path) (k : ℕ) → first_document docs path.names ≡ Some k → Some k ≡ clash_in docs path
clash_hit docs path k is = sym (ap (λ o. option_or o (cond (has_below (folder_at path.names) docs) (Some (length path.names)) None)) is)

-- src/documents.rt:71:13
pub returns-then-has_document : goal.returns-then-has_document
returns-then-has_document c =
    let docs = c.args.docs.now in
    let names = c.names-names.result.now in
    let hit : has_document docs (take c.loop-depth.depth names) ≡ true =
    has_document_any docs (take c.loop-depth.depth names) ∙ sym c.has_document.ensures.document ∙ c.if-has_document.true in
    record {
      clash = clash_hit docs c.args.path.now c.loop-depth.depth
          (ap (first_document docs) (sym c.names-names.ensures.names) ∙ c.loop-depth.invariant
          ∙ front_here (has_document docs) names c.loop-depth.depth c.loop-depth-test.true hit);
    }

-- src/documents.rt:69:5
pub loop-depth-preserved : goal.loop-depth-preserved
loop-depth-preserved c =
    let docs = c.args.docs.now in
    let names = c.names-names.result.now in
    let clear : has_document docs (take c.loop-depth.depth names) ≡ false =
    has_document_any docs (take c.loop-depth.depth names) ∙ sym c.has_document.ensures.document ∙ c.if-has_document.false in
    c.loop-depth.invariant ∙ front_past (has_document docs) names c.loop-depth.depth c.loop-depth-test.true clear
