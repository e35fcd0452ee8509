-- Requests and histories that examples speak of.
use Rattle.std.specs.Prelude.{ℕ, true, false, List, [], ◌∷◌, codes}
use Rattle.rs_path.specs.Paths.{Path, folder_at, document_at}
use Rattle.rs_scope.specs.declared.method.Method.{Method}
use Rattle.rs_scope.specs.declared.method.Method.TheVariants.{Get, Put, Delete}
use Rattle.rs_scope.specs.declared.scope.Reach.TheVariants.{Module, Star}
use Rattle.rs_scope.specs.declared.scope.Scope.{Scope}
use Rattle.rs_record.specs.declared.records.Record.TheVariants.{Grant as GrantRecord}
use Rattle.rs_rules.specs.declared.cond.Cond.{Cond}
use Rattle.rs_rules.specs.declared.cond.Cond.TheVariants.{Missing as Unconditional}
use Rattle.rs_rules.specs.declared.entity_tag.EntityTag.{EntityTag}
use Rattle.rs_rules.specs.declared.pass.Pass.{Pass}
use Rattle.rs_rules.specs.declared.pass.Pass.TheVariants.{Known}
use Rattle.rs_rules.specs.declared.reply.Reply.{Reply}
use Rattle.rs_rules.specs.declared.request.Request.{Request}
use Rattle.rs_rules.specs.declared.request.Request.TheVariants.{Store}
use Rattle.rs_rules.specs.Histories.{History, empty_base, with_entries}
use Rattle.rs_rules.specs.Answers.{answer, taken, entry_of}

-- ---- requests

abbrev pub token : List ℕ
token = 0 ∷ 1 ∷ 2 ∷ 3 ∷ 4 ∷ 5 ∷ 6 ∷ 7 ∷ 8 ∷ 9 ∷ 10 ∷ 11 ∷ 12 ∷ 13 ∷ 14 ∷ 15 ∷ []

abbrev pub plain : List ℕ
plain = codes "text/plain"

abbrev pub doc : List (List ℕ) → Path
doc names = document_at names

abbrev pub ask : Method → Path → Pass → Cond → Cond → List ℕ → Request
ask method path pass if_match if_none body =
    Store (record { method = method; path = path; pass = pass; if_match = if_match; if_none = if_none; kind = plain; body = body })

abbrev pub get : Path → Request
get path = ask Get path (Known token) Unconditional Unconditional []

abbrev pub put : Path → List ℕ → Request
put path body = ask Put path (Known token) Unconditional Unconditional body

abbrev pub delete : Path → Request
delete path = ask Delete path (Known token) Unconditional Unconditional []

-- with a condition
abbrev pub get_match : Path → Cond → Request
get_match path cond = ask Get path (Known token) cond Unconditional []

abbrev pub get_none : Path → Cond → Request
get_none path cond = ask Get path (Known token) Unconditional cond []

abbrev pub put_match : Path → Cond → List ℕ → Request
put_match path cond body = ask Put path (Known token) cond Unconditional body

abbrev pub put_none : Path → Cond → List ℕ → Request
put_none path cond body = ask Put path (Known token) Unconditional cond body

abbrev pub strong : List ℕ → EntityTag
strong text = record { weak = false; tag = text }

abbrev pub weak : List ℕ → EntityTag
weak text = record { weak = true; tag = text }

-- ---- histories

-- the replies to requests, one after another, over a history under a quota
abbrev pub replies : History → ℕ → List Request → List Reply
replies h quota [] = []
replies h quota (r ∷ rs) = answer h quota r ∷ replies (with_entries h (entry_of 1 (taken h quota r))) quota rs

-- the token is granted these scopes by entry 1
abbrev pub granted : List Scope → History
granted scopes = record { base = empty_base; entries = record { who = 0; what = GrantRecord token scopes } ∷ [] }

abbrev pub all : History
all = granted (record { reach = Star; write = true } ∷ [])

abbrev pub notes_read : History
notes_read = granted (record { reach = Module (codes "notes"); write = false } ∷ [])

abbrev pub ample : ℕ
ample = 1073741824

abbrev pub x : Path
x = doc (codes "x" ∷ [])

abbrev pub notes_x : Path
notes_x = doc (codes "notes" ∷ codes "x" ∷ [])

abbrev pub root : Path
root = folder_at []

abbrev pub notes : Path
notes = folder_at (codes "notes" ∷ [])

abbrev pub hello : List ℕ
hello = codes "hello"
