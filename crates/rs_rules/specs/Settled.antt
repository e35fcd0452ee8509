-- A history whose old entries were given up: what they left is its base (own).
use Rattle.std.specs.Prelude.{ℕ, ◌-◌, List, drop}
use Rattle.rs_path.specs.declared.log_entry.LogEntry.{LogEntry}
use Rattle.rs_record.specs.declared.records.Record.{Record}
use Rattle.rs_rules.specs.Histories.{Base, History, len, up_to}
use Rattle.rs_rules.specs.Documents.{docs}
use Rattle.rs_rules.specs.Versions.{folder_version}
use Rattle.rs_rules.specs.Tokens.{scopes_of}

-- the base that a history leaves
abbrev pub base_after : History → Base
base_after h = record { cut = len h; docs = docs h; versions = λ folder. folder_version h folder; tokens = λ token. scopes_of h token }

-- the history of these entries, over what another one leaves
abbrev pub settled : History → List (LogEntry Record) → History
settled h es = record { base = base_after h; entries = es }

-- the history without its entries up to n, over what they leave
abbrev pub settle : History → ℕ → History
settle h n = settled (up_to n h) (drop (n - h.base.cut) h.entries)
