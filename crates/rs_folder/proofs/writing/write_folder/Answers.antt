-- The tokens are printed as the description.
use Rattle.std.proofs.Common.{◌≡◌, ℕ, List, ◌++◌, ap, ap₂, ◌∙◌, rules}
use Rattle.json.specs.Token.{Token}
use Rattle.json.specs.Print.{print}
use Rattle.rs_path.specs.declared.entry.Entry.{Entry}
use Rattle.rs_folder.specs.FolderTokens.{folder_tokens}
use Rattle.rs_folder.proofs.TokenLemmas.{folder_tokens-text}
use Rattle.rs_folder.proofs.RoundTrips.{folder_back}
use Rattle.rs_folder.proofs.writing.write_folder.Goals as goal

pub returns-in-Ok-clause-ok : goal.returns-in-Ok-clause-ok
returns-in-Ok-clause-ok c =
    let written = c.put_folder.new.writer in
    let before : written.before ≡ c.args.out.now.items = search rules in
    let tokens : written.tokens ≡ folder_tokens c.args.items.now =
    c.in-Ok.ensures.tokens ∙ ap₂ (λ (ts : List Token) (items : List Entry). ts ++ folder_tokens items) c.new-writer.ensures.tokens c.as_slice.ensures.items in
    c.into_inner.ensures.items ∙ ap₂ (λ (bytes : List ℕ) (ts : List Token). bytes ++ print ts) before tokens
    ∙ ap (λ (text : List ℕ). c.args.out.now.items ++ text) (folder_tokens-text c.args.items.now)

pub returns-in-Ok-clause-back : goal.returns-in-Ok-clause-back
returns-in-Ok-clause-back c = folder_back c.args.items.now c.as_slice.ensures.ascending c.as_slice.ensures.plain c.as_slice.ensures.parts

pub returns-in-Err-clause-back : goal.returns-in-Err-clause-back
returns-in-Err-clause-back c = folder_back c.args.items.now c.as_slice.ensures.ascending c.as_slice.ensures.plain c.as_slice.ensures.parts
