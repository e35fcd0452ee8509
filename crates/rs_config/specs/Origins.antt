-- Addresses of servers: origins, as `url` prints them (URL Standard, section 4.5; RFC 6454, section 6.2).
use Rattle.std.specs.Prelude.{ℕ, Bool, false, ◌&&◌, List, Some, None, Ok, Err, unwrap_or, codes}
use Rattle.std.specs.Str.{bytes_eq}
use Rattle.url.specs.Parts.{Parts}
use Rattle.url.specs.Parser.{Parsed, parse_url}
use Rattle.url.specs.Origin.{is_http, origin_of, ascii_serialization}
use Rattle.rs_exchange.specs.Targets.{after_prefix, or_else}

-- what was parsed is of `http` or `https`, and its origin has this text
abbrev pub has_origin : Parsed Parts → List ℕ → Bool
has_origin (Err fault) word = false
has_origin (Ok url) word = is_http url.scheme && bytes_eq (ascii_serialization (origin_of url)) word

-- an origin, as `url` prints it
abbrev pub is_origin : List ℕ → Bool
is_origin word = has_origin (parse_url None word) word

-- its host, with its port where that isn't the scheme's own: what stands behind the scheme
abbrev pub host_of : List ℕ → List ℕ
host_of origin = unwrap_or (or_else (after_prefix (codes "http://") origin) (after_prefix (codes "https://") origin)) origin
