use Rattle.std.proofs.Common.{◌≡◌, ◌∙◌, ap, ap₂, true, codes}
use Rattle.clap.specs.Words.{App, app_of, new_app, with_rule}
use Rattle.clap.specs.Simple.{app_of_fields, on_top}
use Rattle.rs_config.proofs.words.serve_command.Goals as goal

pub returns : goal.returns
returns c =
    let named = ap app_of_fields c.no_binary_name-named.ensures ∙ ap (on_top (λ s. record s { no_binary_name = true })) c.new.ensures.app in
    let with_config = c.in_ok-with_config.ensures.shape c.config_arg.ensures.local ∙ ap₂ with_rule named c.config_arg.ensures.rule in
    record {
      app = c.in_ok-with_workers.ensures.shape c.workers_arg.ensures.local ∙ ap₂ with_rule with_config c.workers_arg.ensures.rule;
      memory = tt;
    }
