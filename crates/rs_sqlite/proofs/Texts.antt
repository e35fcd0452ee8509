-- What the texts of the statements are compiled to.
use Rattle.std.proofs.Common.{◌≡◌, List, [], ◌∷◌, codes, ℕ, negsuc, pos, false, None, Some, Ok, refl}
use Rattle.sqlite.specs.declared.types.Value.TheVariants.{Null, Int}
use Rattle.sqlite.specs.Term.{Term, lit, col, op2}
use Rattle.sqlite.specs.Query.{Query, inner, end}
use Rattle.sqlite_sql.specs.Group.{Grouping}
use Rattle.sqlite_sql.specs.declared.ops.BinaryOp.TheVariants.{Compare, Coalesce}
use Rattle.sqlite_sql.specs.declared.ops.CompareOp.TheVariants.{Eq, Ge}
use Rattle.sqlite_sql.specs.declared.aggregate.AggregateOp.TheVariants.{Count, Min, Max}
use Rattle.sqlite.specs.Collation.TheVariants.{Binary}
use Rattle.sqlite.specs.Source.TheVariants.{Values}
use Rattle.sqlite.specs.Command.TheVariants.{Insert, Select, CreateTable, Nothing}
use Rattle.sqlite.specs.Compile.{table_defined_by}
use Rattle.sqlite_tied.specs.Compute.{everything}
use Rattle.sqlite.specs.Listing.{understood, reads_listing}
use Rattle.sqlite.proofs.Callers.{IsPlain, command_of, statement_of}
use Rattle.rs_sqlite.specs.RowRuns.{run_text}
use Rattle.rs_sqlite.specs.Tables.{kept_table, kept_schema, empty_schema}

abbrev pub create_text : List ℕ
create_text = codes "CREATE TABLE IF NOT EXISTS kept(n INTEGER PRIMARY KEY, bytes BLOB NOT NULL)"

abbrev pub insert_text : List ℕ
insert_text = codes "INSERT INTO kept(n, bytes) VALUES (?1, ?2)"

abbrev pub fetch_text : List ℕ
fetch_text = codes "SELECT bytes FROM kept WHERE n = ?1"

abbrev pub count_text : List ℕ
count_text = codes "SELECT count(bytes), coalesce(min(n), 1), coalesce(max(n), 0) FROM kept"

abbrev pub insert_terms : List Term
insert_terms = col 0 0 ∷ lit Null ∷ col 0 1 ∷ []

abbrev pub fetch_query : Query
fetch_query = record {
  from = inner 0 end;
  filter = op2 (Compare Eq Binary) (col 1 0) (col 0 0) ∷ [];
  group = None;
  project = col 1 2 ∷ [];
  distinct = false;
  collations = [];
  order = [];
  limit = lit (Int (negsuc 0));
  offset = lit (Int (pos 0));
}

abbrev pub run_query : Query
run_query = record {
  from = inner 0 end;
  filter = op2 (Compare Ge Binary) (col 1 0) (col 0 0) ∷ [];
  group = None;
  project = col 1 2 ∷ [];
  distinct = false;
  collations = [];
  order = (col 1 0, record { collation = Binary; descending = false }) ∷ [];
  limit = lit (Int (negsuc 0));
  offset = lit (Int (pos 0));
}

abbrev pub count_grouping : Grouping
count_grouping = record {
  keys = [];
  collations = [];
  aggregates = record { op = Count; distinct = false; collation = Binary; argument = col 1 2 } ∷ record { op = Min; distinct = false; collation = Binary; argument = col 1 0 } ∷ record { op = Max; distinct = false; collation = Binary; argument = col 1 0 } ∷ [];
  having = [];
}

abbrev pub count_query : Query
count_query = record {
  from = inner 0 end;
  filter = [];
  group = Some count_grouping;
  project = col 1 0 ∷ op2 Coalesce (col 1 1) (lit (Int (pos 1))) ∷ op2 Coalesce (col 1 2) (lit (Int (pos 0))) ∷ [];
  distinct = false;
  collations = [];
  order = [];
  limit = lit (Int (negsuc 0));
  offset = lit (Int (pos 0));
}

pub create_is : (command_of (understood empty_schema create_text) ≡ CreateTable) × (table_defined_by (statement_of create_text (understood empty_schema create_text)) ≡ Ok kept_table)
unfolding understood everything
create_is = (refl, refl)

pub create_again_is : command_of (understood kept_schema create_text) ≡ Nothing
unfolding understood everything
create_again_is = refl

pub insert_is : command_of (understood kept_schema insert_text) ≡ Insert 0 (Values insert_terms 3)
unfolding understood everything
insert_is = refl

pub fetch_is : command_of (understood kept_schema fetch_text) ≡ Select (record { lets = []; body = fetch_query }) (codes "bytes" ∷ [])
unfolding understood everything
fetch_is = refl

pub run_is : command_of (understood kept_schema run_text) ≡ Select (record { lets = []; body = run_query }) (codes "bytes" ∷ [])
unfolding understood everything
run_is = refl

pub count_is : command_of (understood kept_schema count_text) ≡ Select (record { lets = []; body = count_query }) (codes "count(bytes)" ∷ codes "coalesce(min(n), 1)" ∷ codes "coalesce(max(n), 0)" ∷ [])
unfolding understood everything
count_is = refl

pub unlisted : (reads_listing kept_schema fetch_text ≡ false) × (reads_listing kept_schema count_text ≡ false)
unfolding understood everything
unlisted = (refl, refl)

pub run_unlisted : reads_listing kept_schema run_text ≡ false
unfolding understood everything
run_unlisted = refl

pub create_plain : IsPlain (understood empty_schema create_text)
unfolding understood everything
create_plain = (refl, refl)

pub create_again_plain : IsPlain (understood kept_schema create_text)
unfolding understood everything
create_again_plain = (refl, refl)

pub insert_plain : IsPlain (understood kept_schema insert_text)
unfolding understood everything
insert_plain = (refl, refl)

pub fetch_plain : IsPlain (understood kept_schema fetch_text)
unfolding understood everything
fetch_plain = (refl, refl)

pub run_plain : IsPlain (understood kept_schema run_text)
unfolding understood everything
run_plain = (refl, refl)

pub count_plain : IsPlain (understood kept_schema count_text)
unfolding understood everything
count_plain = (refl, refl)
