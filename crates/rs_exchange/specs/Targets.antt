-- What the target of a request is (RFC 9112, section 3.2), and which methods it takes. Which targets there are is own.
use Rattle.std.specs.Prelude.{ℕ, Bool, not, ◌&&◌, ◌||◌, ◌==◌, ◌+◌, nat_le, List, [], length, take, drop, Option, Some, None, position, codes, if◌then◌else◌}
use Rattle.std.specs.Option.{option_map_or}
use Rattle.std.specs.Str.{bytes_eq}
use Rattle.rs_scope.specs.declared.method.Method.TheVariants.{Get, Head, Put, Delete}
use Rattle.rs_request.specs.Names.{same_name}
use Rattle.rs_exchange.specs.declared.account.Account.{Account}
use Rattle.rs_exchange.specs.declared.refusal.Methods.{Methods}
use Rattle.rs_exchange.specs.declared.refusal.Methods.TheVariants as methods
use Rattle.rs_exchange.specs.declared.request_line.RequestLine.{RequestLine as LineRead}
use Rattle.rs_exchange.specs.declared.target.Target.{Target as TargetRead}
use Rattle.rs_exchange.specs.declared.target.Target.TheVariants as read
use Rattle.rs_exchange.specs.declared.verb.Verb.{Verb}
use Rattle.rs_exchange.specs.declared.verb.Verb.TheVariants.{Data, Options, Post, Other}
use Rattle.rs_exchange.specs.Accounts.{account_of}

-- ---- the text of a target

-- what follows the name, where the text begins with it in any case
abbrev pub after_name : List ℕ → List ℕ → Option (List ℕ)
after_name name text =
    if nat_le (length name) (length text) && same_name (take (length name) text) name then Some (drop (length name) text) else None

-- the other, where there is none
abbrev pub or_else : Option (List ℕ) → Option (List ℕ) → Option (List ℕ)
or_else None other = other
or_else (Some text) other = Some text

-- what follows `http://` or `https://`, in any case (RFC 3986, section 3.1)
abbrev pub after_scheme : List ℕ → Option (List ℕ)
after_scheme target = or_else (after_name (codes "http://") target) (after_name (codes "https://") target)

-- `/`, `?` or `#`, which end an authority (RFC 3986, section 3.2)
abbrev pub is_authority_end : ℕ → Bool
is_authority_end byte = byte == 47 || byte == 63 || byte == 35

-- what follows an authority
abbrev pub from_path : List ℕ → List ℕ
from_path text = option_map_or (λ end. drop end text) (position is_authority_end text) []

-- the target in origin form: an absolute one loses its scheme and its authority (RFC 9112, section 3.2.2)
abbrev pub without_origin : List ℕ → List ℕ
without_origin target = option_map_or from_path (after_scheme target) target

-- what stands before the first `?`
abbrev pub before_query : List ℕ → List ℕ
before_query text = option_map_or (λ end. take end text) (position (λ byte. byte == 63) text) text

-- what stands behind it, or nothing
abbrev pub behind_query : List ℕ → List ℕ
behind_query text = option_map_or (λ end. drop (end + 1) text) (position (λ byte. byte == 63) text) []

-- the target without its origin and without its query
unfoldable pub path_part : List ℕ → List ℕ
path_part target = before_query (without_origin target)

-- its query
unfoldable pub query_part : List ℕ → List ℕ
query_part target = behind_query (without_origin target)

-- ---- what a target is

-- the server as a whole; a text that is to be a path in the storage of a user; where users are found, with a query; where a
-- user grants access, with a query; or nothing that is here
pub data Target : Type 0 where
  Server : Target
  Storage : ℕ → List ℕ → Target
  Discovery : List ℕ → Target
  Grant : ℕ → List ℕ → Target
  Nothing : Target

-- what the code's target is
abbrev pub target_seen : TargetRead → Target
target_seen read.Server = Server
target_seen (read.Storage user path) = Storage user path.now
target_seen (read.Discovery query) = Discovery query.now
target_seen (read.Grant user query) = Grant user query.now
target_seen read.Nothing = Nothing

-- what follows the prefix, where the text has it
abbrev pub after_prefix : List ℕ → List ℕ → Option (List ℕ)
after_prefix prefix text = if bytes_eq (take (length prefix) text) prefix then Some (drop (length prefix) text) else None

-- the storage of the user, where there is one, and this text in it
abbrev pub storage_target : Option ℕ → List ℕ → Target
storage_target None path = Nothing
storage_target (Some user) path = Storage user path

-- the grants of the user, where there is one
abbrev pub grant_target : List ℕ → Option ℕ → Target
grant_target query None = Nothing
grant_target query (Some user) = Grant user query

-- what follows `/storage/`: the user's name up to a slash, and then a path
abbrev pub storage_of : List Account → List ℕ → Target
storage_of accounts text =
    option_map_or (λ slash. storage_target (account_of accounts (take slash text)) (drop slash text)) (position (λ byte. byte == 47) text) Nothing

-- what follows `/oauth/`: the user's name
abbrev pub grant_of : List Account → List ℕ → List ℕ → Target
grant_of accounts name query = grant_target query (account_of accounts name)

abbrev pub below_oauth : List Account → List ℕ → List ℕ → Target
below_oauth accounts text query = option_map_or (λ name. grant_of accounts name query) (after_prefix (codes "/oauth/") text) Nothing

-- what the text of a target is with this query
unfoldable pub target_of : List Account → List ℕ → List ℕ → Target
target_of accounts text query = if bytes_eq text (codes "*") then Server
    else (if bytes_eq text (codes "/.well-known/webfinger") then Discovery query
    else option_map_or (storage_of accounts) (after_prefix (codes "/storage/") text) (below_oauth accounts text query))

-- ---- methods

-- the method with this name (RFC 9110, section 9.1)
unfoldable pub verb_of : List ℕ → Verb
verb_of text = if bytes_eq text (codes "GET") then Data Get
    else (if bytes_eq text (codes "HEAD") then Data Head
    else (if bytes_eq text (codes "PUT") then Data Put
    else (if bytes_eq text (codes "DELETE") then Data Delete
    else (if bytes_eq text (codes "OPTIONS") then Options
    else (if bytes_eq text (codes "POST") then Post else Other)))))

-- the methods of a kind of target, as an Allow line has them (RFC 9110, section 10.2.1)
unfoldable pub method_list : Methods → List ℕ
method_list methods.Storage = codes "GET, HEAD, PUT, DELETE, OPTIONS"
method_list methods.Discovery = codes "GET, HEAD, OPTIONS"
method_list methods.Grant = codes "GET, HEAD, POST"

-- pages of any origin may read the reply: the target isn't one of grants, whichever user it names
abbrev pub is_shared : List ℕ → Bool
is_shared text = not (bytes_eq (take (length (codes "/oauth/")) text) (codes "/oauth/"))

-- ---- request lines

-- the method and the target of a message, and whether pages of any origin may read the reply
pub record RequestLine : Type 0 where
  pub verb : Verb
  pub target : Target
  pub shared : Bool

-- what a method and a target are, to a server of these users
abbrev pub request_line_of : List Account → List ℕ → List ℕ → RequestLine
request_line_of accounts method target = let text = path_part target in
    record { verb = verb_of method; target = target_of accounts text (query_part target); shared = is_shared text }

-- what the code's request line is
abbrev pub line_seen : LineRead → RequestLine
line_seen line = record { verb = line.verb; target = target_seen line.target; shared = line.shared }
