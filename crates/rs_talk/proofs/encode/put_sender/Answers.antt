use Rattle.std.proofs.Common.{ℕ, List, [], ◌∷◌, ◌++◌, codes, ap, ◌∙◌}
use Rattle.rs_talk.specs.AskLines.{lines_sent}
use Rattle.rs_talk.specs.Asks.{host_sent, token_sent}
use Rattle.rs_talk.proofs.AskLemmas.{two_lines}
use Rattle.rs_talk.proofs.encode.put_sender.Goals as goal

pub returns : goal.returns
returns c = record {
  put =
      two_lines c.args.out.now.items c.put_line.new.out.items c.put_token.new.out.items (host_sent c.args.root.now) (token_sent c.args.token.now)
      (c.in_ok-put_line.ensures.put ∙ ap (λ (text : List ℕ). c.args.out.now.items ++ lines_sent (record { name = codes "Host"; value = text } ∷ [])) c.host.ensures.authority)
      c.in_ok-put_token.ensures.put;
}
