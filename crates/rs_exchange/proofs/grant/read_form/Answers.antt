use Rattle.rs_exchange.proofs.GrantLemmas.{forms_refused}
use Rattle.rs_exchange.proofs.grant.read_form.Goals as goal

pub returns-in-Err : goal.returns-in-Err
returns-in-Err c = record { asked = forms_refused c.args.account.now c.args.user c.in-Err.fault _ c.in-Err.ensures.read c.refuse.result c.refuse.ensures.refused }
