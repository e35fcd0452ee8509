use Rattle.std.proofs.Common.{◌≡◌, ℕ, List, [], ◌∷◌, ◌++◌, subst}
use Rattle.std.specs.Prelude.{OnOk}
use Rattle.rs_talk.specs.Asks.{kind_sent}
use Rattle.rs_talk.specs.AskLines.{lines_sent}
use Rattle.rs_talk.proofs.encode.put_type.Goals as goal

pub returns : goal.returns
returns c = record {
  put = subst (λ (text : List ℕ). OnOk c.put_line.result (c.put_line.new.out.items ≡ c.args.out.now.items ++ lines_sent (kind_sent text ∷ [])))
      c.as_slice.ensures.bytes c.put_line.ensures.put;
}
