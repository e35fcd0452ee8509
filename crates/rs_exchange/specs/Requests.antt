-- From a message to what it asks: the refusals in their order, or the request.
use Rattle.std.specs.Prelude.{ℕ, Bool, true, false, List, Option, Some, None, codes}
use Rattle.std.specs.Result.{result_ok}
use Rattle.rs_path.specs.Paths.{Path}
use Rattle.rs_path.specs.Readings.{target_reading}
use Rattle.rs_scope.specs.declared.method.Method.{Method}
use Rattle.rs_rules.specs.declared.cond.Cond.{Cond}
use Rattle.rs_rules.specs.declared.request.Request.TheVariants.{Store}
use Rattle.rs_request.specs.declared.field.Field.{Field}
use Rattle.rs_request.specs.declared.message.RequestMessage.{RequestMessage}
use Rattle.rs_exchange.specs.declared.account.Config.{Config}
use Rattle.rs_exchange.specs.declared.answer.Answer.TheVariants.{Preflight}
use Rattle.rs_exchange.specs.declared.asked.Asked.{Asked}
use Rattle.rs_exchange.specs.declared.asked.Asked.TheVariants.{Desk, Now}
use Rattle.rs_exchange.specs.declared.refusal.Methods.TheVariants as methods
use Rattle.rs_exchange.specs.declared.refusal.Refusal.TheVariants.{NotFound, NotAllowed, BadPath, BadCondition, BadKind, PartOnly}
use Rattle.rs_exchange.specs.declared.verb.Verb.{Verb}
use Rattle.rs_exchange.specs.declared.verb.Verb.TheVariants.{Data, Options, Post, Other}
use Rattle.rs_exchange.specs.Conditions.{cond_of}
use Rattle.rs_exchange.specs.ContentTypes.{kind_of, is_part}
use Rattle.rs_exchange.specs.Discoveries.{asked_discovery}
use Rattle.rs_exchange.specs.Fields.{values_of}
use Rattle.rs_exchange.specs.Grants.{asked_grant}
use Rattle.rs_exchange.specs.Passes.{pass_of}
use Rattle.rs_exchange.specs.Refusals.{refused}
use Rattle.rs_exchange.specs.Targets.{Target, Server, Storage, Discovery, Grant, Nothing, RequestLine, request_line_of}

-- the conditions, then the content type, then whether the whole is brought, and the request where they are right
abbrev pub asked_by : List Field → List ℕ → ℕ → Method → Path → Option Cond → Option Cond → Option (List ℕ) → Bool → Asked
asked_by fields body user method path None unmatched kind part = refused BadCondition
asked_by fields body user method path (Some matched) None kind part = refused BadCondition
asked_by fields body user method path (Some matched) (Some unmatched) None part = refused BadKind
asked_by fields body user method path (Some matched) (Some unmatched) (Some kind) true = refused PartOnly
asked_by fields body user method path (Some matched) (Some unmatched) (Some kind) false = Desk user (Store (record {
  method = method;
  path = path;
  pass = pass_of (values_of (codes "authorization") fields);
  if_match = matched;
  if_none = unmatched;
  kind = kind;
  body = body;
}))

-- what these fields and this body ask with this method of this path
abbrev pub asked_call : List Field → List ℕ → ℕ → Method → Path → Asked
asked_call fields body user method path = asked_by fields body user method path
    (cond_of (values_of (codes "if-match") fields))
    (cond_of (values_of (codes "if-none-match") fields))
    (kind_of method (values_of (codes "content-type") fields))
    (is_part method (values_of (codes "content-range") fields))

-- the same, where the text is a path
abbrev pub asked_path : List Field → List ℕ → ℕ → Method → Option Path → Asked
asked_path fields body user method None = refused BadPath
asked_path fields body user method (Some path) = asked_call fields body user method path

-- OPTIONS of a path
abbrev pub asked_options : Option Path → Asked
asked_options None = refused BadPath
asked_options (Some path) = Now Preflight

-- what is asked of a storage: the method, then the path, then the rest
abbrev pub asked_storage : List Field → List ℕ → ℕ → Option Path → Verb → Asked
asked_storage fields body user path (Data method) = asked_path fields body user method path
asked_storage fields body user path Options = asked_options path
asked_storage fields body user path Post = refused (NotAllowed methods.Storage)
asked_storage fields body user path Other = refused (NotAllowed methods.Storage)

-- what is asked of the server as a whole, which is a target of OPTIONS alone
abbrev pub asked_server : Verb → Asked
asked_server (Data method) = refused NotFound
asked_server Options = Now Preflight
asked_server Post = refused NotFound
asked_server Other = refused NotFound

-- what is asked of a target
abbrev pub asked_there : Config → List Field → List ℕ → Verb → Target → Asked
asked_there config fields body verb Server = asked_server verb
asked_there config fields body verb (Storage user text) = asked_storage fields body user (result_ok (target_reading text)) verb
asked_there config fields body verb (Discovery query) = asked_discovery config fields verb query
asked_there config fields body verb (Grant user query) = asked_grant config.accounts user fields verb query body
asked_there config fields body verb Nothing = refused NotFound

-- what a request line with these fields and this body asks
abbrev pub asked_line : Config → List Field → List ℕ → RequestLine → Asked
asked_line config fields body line = asked_there config fields body line.verb line.target

-- what the message asks of a server that is set up so
abbrev pub asked_of : Config → RequestMessage → Asked
asked_of config m = asked_line config m.fields m.body (request_line_of config.accounts m.method m.target)
