-- The content type is known.
use Rattle.std.proofs.Common.{ℕ, List, ◌++◌, Option, Some, sym, ap, ◌∙◌}
use Rattle.rs_folder.specs.FolderTokens.{kind_tokens}
use Rattle.rs_folder.proofs.describing.put_kind.Goals as goal

pub returns-in_ok-put_text-in-Some-clause-tokens : goal.returns-in_ok-put_text-in-Some-clause-tokens
returns-in_ok-put_text-in-Some-clause-tokens c =
    c.in_ok-put_text-in-Some.ensures.tokens
    ∙ ap (λ (kind : Option (List ℕ)). c.args.writer.now.tokens ++ kind_tokens kind) (ap Some c.as_slice.ensures.bytes ∙ sym c.in-Some.is)
