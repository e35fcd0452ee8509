use Rattle.rs_form.proofs.FieldLemmas.{form_back}
use Rattle.rs_form.proofs.laws.form_laws.Goals as goal

pub returns : goal.returns
returns c = record { back = form_back }
