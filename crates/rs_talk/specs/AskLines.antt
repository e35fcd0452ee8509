-- The lines of an ask's request, part by part.
use Rattle.std.specs.Prelude.{ℕ, List, ◌∷◌, ◌++◌, codes}
use Rattle.std.specs.List.{flat_map}
use Rattle.rs_request.specs.declared.field.Field.{Field}
use Rattle.rs_request.specs.Writing.{field_text}
use Rattle.rs_talk.specs.declared.ask.Ask.{Ask}
use Rattle.rs_talk.specs.Asks.{ask_method, ask_target}
use Rattle.rs_talk.specs.Roots.{Root}

-- the request line: method SP target SP "HTTP/1.1" CR LF
abbrev pub ask_start : Root → Ask → List ℕ
ask_start root ask = ask_method ask ++ (32 ∷ (ask_target root ask ++ codes " HTTP/1.1\r\n"))

-- the lines of these fields
abbrev pub lines_sent : List Field → List ℕ
lines_sent fields = flat_map field_text fields
