-- What of a request is made before its turn, whatever the state will be then.
use Rattle.std.specs.Prelude.{◌≡◌, ℕ, Bool, true, not, ◌&&◌, List, Option, Some, None, IfSome, Ok, is_some, option_map, if◌then◌else◌}
use Rattle.std.specs.Option.{option_and_then}
use Rattle.rs_record.specs.declared.records.Record.{Record}
use Rattle.rs_record.specs.declared.records.Record.TheVariants.{Put, Remove, Grant, Revoke}
use Rattle.rs_record.specs.Rows.{spelling}
use Rattle.rs_record.specs.RowReadings.{record_reading}
use Rattle.rs_rules.specs.declared.request.Request.{Request}
use Rattle.rs_rules.specs.Answers.{brought}

-- what is written or removed is a document, and by a token; other writes are refused on every history
abbrev pub is_worth_a_row : Record → Bool
is_worth_a_row (Put path kind body writer) = not path.folder && is_some writer
is_worth_a_row (Remove path writer) = not path.folder && is_some writer
is_worth_a_row (Grant token scopes) = true
is_worth_a_row (Revoke token) = true

-- the record that a request brings, where it is worth a row
abbrev pub record_to_keep : Request → Option Record
record_to_keep r = option_and_then (λ what. if is_worth_a_row what then Some what else None) (brought r)

-- the row that is made for a request
abbrev pub row_to_keep : Request → Option (List ℕ)
row_to_keep r = option_map spelling (record_to_keep r)

-- the row of a record, which is read back as it
pub record IsRowOf (row : List ℕ) (what : Record) : Type 0 where
  pub spelled : row ≡ spelling what
  pub back : record_reading (spelling what) ≡ Ok what

-- this is what is made for the request: its row, which is read back as the record
pub record IsMadeFor (made : Option (List ℕ)) (r : Request) : Type 0 where
  pub row : made ≡ row_to_keep r
  pub back : IfSome (record_to_keep r) (λ what. record_reading (spelling what) ≡ Ok what)
