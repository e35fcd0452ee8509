-- What the types of an item's parts promise, part by part.
use Rattle.std.proofs.Common.{◌≡◌, true}
use Rattle.std.proofs.lemmas.Bool.{and_parts}
use Rattle.rs_path.specs.declared.entry.Entry.{Entry}
use Rattle.rs_path.specs.Names.{is_name}
use Rattle.rs_path.specs.Kinds.{is_kind}
use Rattle.rs_path.specs.Tags.{is_tag}
use Rattle.rs_path.specs.Items.{holds_of, is_u64, is_entry}

pub record HasParts (e : Entry) : Type 0 where
  pub name : is_name e.name ≡ true
  pub tag : is_tag e.tag ≡ true
  pub kind : holds_of is_kind e.kind ≡ true
  pub length : holds_of is_u64 e.length ≡ true

pub HasParts-from : (e : Entry) → is_entry e ≡ true → HasParts e
HasParts-from e is =
    let a = and_parts _ (holds_of is_u64 e.length) is in
    let b = and_parts _ (holds_of is_kind e.kind) a.0 in
    let c = and_parts (is_name e.name) (is_tag e.tag) b.0 in
    record { name = c.0; tag = c.1; kind = b.1; length = a.1 }
