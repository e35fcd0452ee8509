use Rattle.std.proofs.Common.{◌∙◌, ap, subst, map, string_bytes}
use Rattle.std.proofs.lemmas.Result.{IfErr-weaker, IfOk-weaker}
use Rattle.clap.specs.Words.{App, FailsBy, fault_of, is_simple, is_simple_and_free, matches_of, takes}
use Rattle.rs_config.proofs.ServeLemmas.{serve_is_simple, serve_is_free, serve_texts}
use Rattle.rs_config.proofs.words.parse.Goals as goal

pub returns : goal.returns
returns c =
    let same = c.in_ok-command.ensures.app in
    let parsed = c.try_get_matches_from in
    let ws = map string_bytes c.args.words.now in
    record {
      matches = IfOk-weaker parsed.result _ _ (λ m h. (h (ap is_simple same ∙ serve_is_simple)).0 ∙ ap (λ (a : App). matches_of a ws) same) parsed.ensures.matches;
      texts = IfOk-weaker parsed.result _ _ (λ m h. serve_texts c.in_ok-command.command m same h) parsed.ensures.parsed;
      passes = IfErr-weaker parsed.result _ _ (λ e h taken. h (ap (λ (a : App). takes a ws) same ∙ taken)) parsed.ensures.passes;
      kinds = subst (λ (a : App). FailsBy (fault_of a ws) parsed.result) same (parsed.ensures.kinds (ap is_simple_and_free same ∙ serve_is_free));
    }
