-- The words for an error (RFC 6749, section 4.2.2.1).
use Rattle.std.specs.Prelude.{ℕ, List, codes}
use Rattle.rs_grant.specs.declared.grant_word.GrantWord.{GrantWord}
use Rattle.rs_grant.specs.declared.grant_word.GrantWord.TheVariants.{InvalidRequest, UnsupportedResponseType, InvalidScope, AccessDenied, ServerError}

abbrev pub word_text : GrantWord → List ℕ
word_text InvalidRequest = codes "invalid_request"
word_text UnsupportedResponseType = codes "unsupported_response_type"
word_text InvalidScope = codes "invalid_scope"
word_text AccessDenied = codes "access_denied"
word_text ServerError = codes "server_error"
