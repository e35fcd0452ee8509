-- The length is known.
use Rattle.std.proofs.Common.{ℕ, ◌++◌, Option, sym, ap, ◌∙◌}
use Rattle.rs_folder.specs.FolderTokens.{length_tokens}
use Rattle.rs_folder.proofs.describing.put_length.Goals as goal

pub returns-in_ok-put_number-in-Some-clause-tokens : goal.returns-in_ok-put_number-in-Some-clause-tokens
returns-in_ok-put_number-in-Some-clause-tokens c =
    c.in_ok-put_number-in-Some.ensures.tokens ∙ ap (λ (length : Option ℕ). c.args.writer.now.tokens ++ length_tokens length) (sym c.in-Some.is)
