use Rattle.std.proofs.Common.{List, map, string_bytes, subst}
use Rattle.rs_cli.specs.declared.forms.Form.{Form}
use Rattle.rs_cli.specs.Commands.{FindsAmong}
use Rattle.rs_cli.proofs.FormLemmas.{among_all}
use Rattle.rs_cli.proofs.reading.find_form.Goals as goal

pub returns : goal.returns
returns c = record {
  found = among_all c.find_among.result _
      (subst (λ (fs : List Form). FindsAmong fs 0 c.find_among.result (map string_bytes c.args.words.now)) c.forms.ensures.forms c.find_among.ensures.found);
}
