-- What the server's history shows of a document, at one of its points, as a client keeps it. A point is a front of the
-- history.
use Rattle.std.specs.Prelude.{◌≡◌, ℕ, ◌+◌, ◌-◌, ◌^◌, ◌<◌, ◌≤◌, nat_lt, List, Option, Some, None, slice_get, decimal, option_map, if◌then◌else◌}
use Rattle.rs_path.specs.Paths.{Path}
use Rattle.rs_path.specs.declared.log_entry.LogEntry.{LogEntry}
use Rattle.rs_record.specs.declared.records.Record.{Record}
use Rattle.rs_record.specs.declared.records.Record.TheVariants.{Put, Remove}
use Rattle.rs_rules.specs.declared.doc.Doc.{Doc}
use Rattle.rs_rules.specs.Documents.{doc_at}
use Rattle.rs_rules.specs.Histories.{History, len, IsFront}
use Rattle.rs_talk.specs.declared.base.Base.{Base}
use Rattle.rs_cache.specs.Places.{tag_of}

-- a document of the server as a client keeps it: its tag is its version in decimal
abbrev pub base_of : Doc → Base
base_of doc = record { tag = decimal doc.version; kind = doc.kind; body = doc.body }

-- what the history shows at the path
abbrev pub shown_at : History → Path → Option Base
shown_at h path = option_map base_of (doc_at h path)

-- the record with this number, where the history still has it
abbrev pub record_at : History → ℕ → Option Record
record_at h n = if nat_lt h.base.cut n
    then option_map (λ (e : LogEntry Record). e.what) (slice_get h.entries (n - (h.base.cut + 1))) else None

-- the record with this number puts just this there
abbrev pub PutsAt : History → ℕ → Path → List ℕ → List ℕ → Type 0
PutsAt h n path kind body = (writer : Option (List ℕ)) × (record_at h n ≡ Some (Put path kind body writer))

-- the record with this number removes what was there
abbrev pub RemovesAt : History → ℕ → Path → Type 0
RemovesAt h n path = (writer : Option (List ℕ)) × (record_at h n ≡ Some (Remove path writer))

-- the number isn't before that of the base, where there is one; a tag's decimal text is one number's below 2 to the 64th
abbrev pub IsFrom : Option Base → ℕ → Type 0
IsFrom base n = (m : ℕ) → m < 2 ^ 64 → tag_of base ≡ Some (decimal m) → m ≤ n

-- the number is behind that of the base
abbrev pub IsBeyond : Option Base → ℕ → Type 0
IsBeyond base n = (m : ℕ) → m < 2 ^ 64 → tag_of base ≡ Some (decimal m) → m < n

-- the document is that of a record of the history, behind an earlier base
pub record IsEntered (before : Option Base) (path : Path) (base : Base) (h : History) : Type 0 where
  pub number : ℕ
  pub tag : base.tag ≡ decimal number
  pub put : PutsAt h number path base.kind base.body
  pub beyond : IsBeyond before number

-- a record of the history removed the document, behind an earlier base
pub record IsTakenAway (before : Option Base) (path : Path) (h : History) : Type 0 where
  pub number : ℕ
  pub removed : RemovesAt h number path
  pub beyond : IsBeyond before number

-- the history showed just this at a point that isn't before an earlier base
pub record IsShownIn (before : Option Base) (path : Path) (remote : Option Base) (h : History) : Type 0 where
  pub past : History
  pub front : IsFront past h
  pub from : IsFrom before (len past)
  pub shown : shown_at past path ≡ remote
