-- The request of a user's history that an ask is (RFC 9110, section 13; RFC 6750, section 2.1).
use Rattle.std.specs.Prelude.{◌≡◌, ℕ, Bool, true, false, ◌&&◌, List, [], ◌∷◌, Option, Some, None, Ok}
use Rattle.rs_path.specs.Items.{holds_of}
use Rattle.rs_path.specs.Kinds.{is_kind}
use Rattle.rs_path.specs.Paths.{is_path}
use Rattle.rs_path.specs.Readings.{target_reading}
use Rattle.rs_path.specs.Tags.{is_tag}
use Rattle.rs_path.specs.Targets.{target_text}
use Rattle.rs_scope.specs.declared.method.Method.TheVariants as methods
use Rattle.rs_scope.specs.Tokens.{token_reading}
use Rattle.rs_record.specs.declared.records.Record.{Record}
use Rattle.rs_rules.specs.declared.call.Call.{Call}
use Rattle.rs_rules.specs.declared.cond.Cond.{Cond}
use Rattle.rs_rules.specs.declared.cond.Cond.TheVariants.{Missing, Any, Tags}
use Rattle.rs_rules.specs.declared.pass.Pass.{Pass}
use Rattle.rs_rules.specs.declared.pass.Pass.TheVariants.{Strange, Known}
use Rattle.rs_rules.specs.declared.request.Request.{Request}
use Rattle.rs_rules.specs.declared.request.Request.TheVariants.{Store}
use Rattle.rs_rules.specs.Answers.{brought}
use Rattle.rs_talk.specs.declared.ask.Ask.{Ask}
use Rattle.rs_talk.specs.declared.ask.Ask.TheVariants.{Folder, Document, Put, Remove}
use Rattle.rs_talk.specs.AnswerReadings.{unknown_kind}
use Rattle.rs_talk.specs.Asks.{ask_path, is_ask}
use Rattle.rs_talk.specs.Bearers.{is_bearer}
use Rattle.rs_talk.specs.Roots.{Root, IsRoot}

-- ---- what asks are made of

-- each part is what its type promises
abbrev pub has_ask_parts : Ask → Bool
has_ask_parts (Folder path known) = is_path path && holds_of is_tag known
has_ask_parts (Document path known) = is_path path && holds_of is_tag known
has_ask_parts (Put path base kind body) = is_path path && (holds_of is_tag base && is_kind kind)
has_ask_parts (Remove path base) = is_path path && is_tag base

-- an ask below a root, with a token, as a program makes it: of a folder where a folder is asked for, else of a document; a
-- path is read back from what it is in a target
pub record IsAsking (root : Root) (token : List ℕ) (ask : Ask) : Type 0 where
  pub account : IsRoot root
  pub bearer : is_bearer token ≡ true
  pub path : is_ask ask ≡ true
  pub parts : has_ask_parts ask ≡ true
  pub back : target_reading (target_text (ask_path ask)) ≡ Ok (ask_path ask)

-- ---- the request

-- what a server reads of the token: none of its own, where it has another form
abbrev pub pass_read : Option (List ℕ) → Pass
pass_read None = Strange
pass_read (Some token) = Known token

abbrev pub bearer_pass : List ℕ → Pass
bearer_pass token = pass_read (token_reading token)

-- the one strong tag
abbrev pub only_tag : List ℕ → Cond
only_tag tag = Tags (record { weak = false; tag = tag } ∷ [])

-- this tag, where there is one
abbrev pub tag_if_any : Option (List ℕ) → Cond
tag_if_any None = Missing
tag_if_any (Some tag) = only_tag tag

-- nothing may be there, where there is no base
abbrev pub none_without : Option (List ℕ) → Cond
none_without None = Any
none_without (Some tag) = Missing

-- the request on a folder or a document
abbrev pub call_asked : List ℕ → Ask → Call
call_asked token (Folder path known) = record { method = methods.Get; path = path; pass = bearer_pass token; if_match = Missing; if_none = tag_if_any known; kind = unknown_kind; body = [] }
call_asked token (Document path known) = record { method = methods.Get; path = path; pass = bearer_pass token; if_match = Missing; if_none = tag_if_any known; kind = unknown_kind; body = [] }
call_asked token (Put path base kind body) = record { method = methods.Put; path = path; pass = bearer_pass token; if_match = tag_if_any base; if_none = none_without base; kind = kind; body = body }
call_asked token (Remove path base) = record { method = methods.Delete; path = path; pass = bearer_pass token; if_match = only_tag base; if_none = Missing; kind = unknown_kind; body = [] }

abbrev pub request_asked : List ℕ → Ask → Request
request_asked token ask = Store (call_asked token ask)

-- the record that it brings, if it brings one
abbrev pub record_asked : List ℕ → Ask → Option Record
record_asked token ask = brought (request_asked token ask)
