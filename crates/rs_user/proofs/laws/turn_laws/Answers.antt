use Rattle.std.proofs.Common.{◌+◌, true, false, not, Some, sym, ap, ◌∙◌, subst}
use Rattle.std.specs.Prelude.{is_some}
use Rattle.std.proofs.lemmas.Bool.{and_parts}
use Rattle.rs_record.specs.declared.records.Record.TheVariants.{Put as PutRecord, Remove as RemoveRecord}
use Rattle.rs_rules.specs.Histories.{len, with_entries}
use Rattle.rs_rules.specs.Documents.{docs}
use Rattle.rs_rules.specs.Answers.{entry_of}
use Rattle.rs_rules.specs.Laws.{IsVersionStep}
use Rattle.rs_user.proofs.MayLemmas.{document_there, not_true}
use Rattle.rs_user.proofs.PreparationLemmas.{taken_row}
use Rattle.rs_user.proofs.laws.turn_laws.Goals as goal

pub returns : goal.returns
returns c = record {
  put = λ h quota who r path kind body writer short adds.
      let may = c.taken_laws.ensures.may h quota r (PutRecord path kind body writer) short adds in
      subst (λ o. IsVersionStep h (with_entries h (entry_of who o)) (len h + 1) path true) (sym adds)
      (c.version_law.ensures.put h who path kind body writer (not_true path.folder (and_parts (not path.folder) _ may).0));
  remove = λ h quota who r path writer lawful short adds.
      let may = c.taken_laws.ensures.may h quota r (RemoveRecord path writer) short adds in
      subst (λ o. IsVersionStep h (with_entries h (entry_of who o)) (len h + 1) path false) (sym adds)
      (c.version_law.ensures.remove h who path writer
      (document_there path (docs h) (c.lawful_laws.ensures.documents h lawful) (and_parts _ _ may).0));
  reach_put = c.taken_laws.ensures.reach_put;
  reach_remove = c.taken_laws.ensures.reach_remove;
  row = λ h quota r what lawful short adds.
      taken_row h r what (c.taken_laws.ensures.only h quota r what adds) (c.taken_laws.ensures.may h quota r what short adds)
      (c.lawful_laws.ensures.documents h lawful)
      (λ path kind body writer is. ap is_some (c.taken_laws.ensures.reach_put h quota r path kind body writer (adds ∙ ap Some is)).shown)
      (λ path writer is. ap is_some (c.taken_laws.ensures.reach_remove h quota r path writer (adds ∙ ap Some is)).shown);
}
