use Rattle.std.proofs.Common.{◌≡◌, true, [], ◌∷◌, map, string_bytes, Global, codes, subst, Some, ◌∙◌}
use Rattle.rs_cli.specs.declared.forms.Form.{Form}
use Rattle.rs_cli.specs.declared.forms.Place.TheVariants.{User, Token, Scopes, Number}
use Rattle.rs_cli.specs.Forms.{literally, takes, tests_of}
use Rattle.rs_cli.specs.Scans.{fits}
use Rattle.rs_cli.proofs.CommandLemmas.{fits_at, user_at, token_at, quota_at, secret_at, is_pipe_at, is_connect_at, is_put_at}
use Rattle.rs_cli.proofs.reading.command_of.Goals as goal

pub number_at-quota-requires : goal.number_at-quota-requires
number_at-quota-requires c = record {
  number = fits_at (literally (codes "pipe") ∷ takes User ∷ takes Token ∷ takes Scopes ∷ []) (takes Number) [] (map (string_bytes {Z = Global}) c.args.words.now)
      (subst (λ (f : Form). fits (tests_of f) (map (string_bytes {Z = Global}) c.args.words.now) ≡ true) c.in-PipeUnder.is c.requires.fits);
}

-- the words `pipe USER TOKEN SCOPES QUOTA BASE SALT SECRET`

pub number_at-quota-requires-in-PipeAt : goal.number_at-quota-requires-in-PipeAt
number_at-quota-requires-in-PipeAt c = record {
  number = quota_at (map (string_bytes {Z = Global}) c.args.words.now)
      (subst (λ (f : Form). fits (tests_of f) (map (string_bytes {Z = Global}) c.args.words.now) ≡ true) c.in-PipeAt.is c.requires.fits);
}

pub secret_at-secret-requires : goal.secret_at-secret-requires
secret_at-secret-requires c = record {
  secret = secret_at (map (string_bytes {Z = Global}) c.args.words.now)
      (subst (λ (f : Form). fits (tests_of f) (map (string_bytes {Z = Global}) c.args.words.now) ≡ true) c.in-PipeAt.is c.requires.fits);
}

pub serving_at-requires-clause-user : goal.serving_at-requires-clause-user
serving_at-requires-clause-user c = user_at (map (string_bytes {Z = Global}) c.args.words.now)
    (subst (λ (f : Form). fits (tests_of f) (map (string_bytes {Z = Global}) c.args.words.now) ≡ true) c.in-PipeAt.is c.requires.fits)

pub serving_at-requires-clause-token : goal.serving_at-requires-clause-token
serving_at-requires-clause-token c = token_at (map (string_bytes {Z = Global}) c.args.words.now)
    (subst (λ (f : Form). fits (tests_of f) (map (string_bytes {Z = Global}) c.args.words.now) ≡ true) c.in-PipeAt.is c.requires.fits)

pub returns-in_ok-serving-in-PipeAt : goal.returns-in_ok-serving-in-PipeAt
returns-in_ok-serving-in-PipeAt c =
    let words = map (string_bytes {Z = Global}) c.args.words.now in
    let served = c.in_ok-serving-in-PipeAt.ensures in
    record {
      asked = is_pipe_at words _ _ _ _ c.number_at-quota-in-PipeAt.result c.secret_at-secret.result
          (subst (λ (f : Form). fits (tests_of f) words ≡ true) c.in-PipeAt.is c.requires.fits)
          served.user served.token served.scopes c.number_at-quota-in-PipeAt.ensures.number c.secret_at-secret.ensures.secret
          (served.setting ∙ (λ i. record {
            quota = c.number_at-quota-in-PipeAt.result;
            base = c.word_at-base.ensures.word i;
            salt = (c.as_bytes-salt.ensures.value ∙ c.word_at.ensures.word) i;
            secret = Some c.secret_at-secret.result;
          }));
    }

-- the words `connect ROOT TOKEN SCOPES` and `put PATH TYPE`

pub returns-in_ok-scopes-in-Connect : goal.returns-in_ok-scopes-in-Connect
returns-in_ok-scopes-in-Connect c =
    let words = map (string_bytes {Z = Global}) c.args.words.now in
    record {
      asked = is_connect_at words _ _ _ (subst (λ (f : Form). fits (tests_of f) words ≡ true) c.in-Connect.is c.requires.fits)
          c.in_ok-root-in-Connect.ensures.root c.in_ok-token-in-Connect.ensures.bearer c.in_ok-token-in-Connect.ensures.test c.in_ok-scopes-in-Connect.ensures.scopes;
    }

pub returns-in_ok-kind-in-Put : goal.returns-in_ok-kind-in-Put
returns-in_ok-kind-in-Put c =
    let words = map (string_bytes {Z = Global}) c.args.words.now in
    record {
      asked = is_put_at words _ _ (subst (λ (f : Form). fits (tests_of f) words ≡ true) c.in-Put.is c.requires.fits)
          c.in_ok-document-in-Put.ensures.path c.in_ok-document-in-Put.document.document c.in_ok-kind-in-Put.ensures.kind c.in_ok-kind-in-Put.ensures.test;
    }
