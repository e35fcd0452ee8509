-- What the laws of histories say.
use Rattle.std.specs.Prelude.{◌≡◌, ◌≢◌, ℕ, ◌+◌, Bool, true, false, List, [], ◌∷◌, Option, Some, if◌then◌else◌, ◌&&◌, None}
use Rattle.std.specs.List.{list_all}
use Rattle.std.specs.Ordering.{is_lt}
use Rattle.rs_path.specs.declared.child.Child.{Child}
use Rattle.rs_path.specs.Paths.{Path}
use Rattle.rs_path.specs.Below.{is_below}
use Rattle.rs_path.specs.Children.{child_cmp, same_child}
use Rattle.rs_path.specs.declared.log_entry.LogEntry.{LogEntry}
use Rattle.rs_scope.specs.declared.method.Method.{Method}
use Rattle.rs_record.specs.declared.records.Record.{Record}
use Rattle.rs_rules.specs.Histories.{History}
use Rattle.rs_rules.specs.Documents.{docs, doc_at}
use Rattle.rs_rules.specs.Versions.{writes_below, is_there, ver}
use Rattle.rs_rules.specs.Tokens.{scopes_of}
use Rattle.rs_rules.specs.Lawful.{scopes_reach}

-- what a write with number n of the document at the path does to versions: a Put gives n to the document; each folder above
-- that is left with documents, and `/`, has n; an emptied folder above, and the path of a Remove, has 0; all else is as before
pub record IsVersionStep (h now : History) (n : ℕ) (path : Path) (put : Bool) : Type 0 where
  pub document : ver now path ≡ (if put then n else 0)
  pub left : (q : Path) → is_below q path ≡ true → is_there q (docs now) ≡ true → ver now q ≡ n
  pub gone : (q : Path) → is_below q path ≡ true → is_there q (docs now) ≡ false → ver now q ≡ 0
  pub others : (q : Path) → is_below q path ≡ false → q ≢ path → ver now q ≡ ver h q

-- below the folder, both histories have the same documents and the same versions
pub record SameBelow (folder : Path) (h now : History) : Type 0 where
  pub documents : (q : Path) → is_below folder q ≡ true → doc_at now q ≡ doc_at h q
  pub versions : (q : Path) → is_below folder q ≡ true → ver now q ≡ ver h q

-- the numbers of the entries that write below the folder, from n + 1 on
abbrev pub numbers_below : Path → ℕ → List (LogEntry Record) → List ℕ
numbers_below folder n [] = []
numbers_below folder n (e ∷ es) =
    if writes_below folder e.what then (n + 1) ∷ numbers_below folder (n + 1) es else numbers_below folder (n + 1) es

-- the writer of a record is a token that is granted, with scopes that reach the method and the path
pub record HasReach (h : History) (writer : Option (List ℕ)) (method : Method) (path : Path) : Type 0 where
  pub token : List ℕ
  pub shown : writer ≡ Some token
  pub reaches : scopes_reach (scopes_of h token) method path ≡ true

-- each child is smaller than those after it
abbrev pub is_sorted : List Child → Bool
is_sorted [] = true
is_sorted (child ∷ rest) = list_all (λ other. is_lt (child_cmp child other)) rest && is_sorted rest

-- this is the child that leads on
abbrev pub is_child : Child → Option Child → Bool
is_child child None = false
is_child child (Some other) = same_child child other
