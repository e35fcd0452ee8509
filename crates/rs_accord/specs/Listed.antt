-- Replies whose items are those of a folder.
use Rattle.std.specs.Prelude.{◌≡◌, ⊤, true, List}
use Rattle.std.specs.List.{list_all}
use Rattle.rs_path.specs.declared.entry.Entry.{Entry}
use Rattle.rs_path.specs.Items.{is_entry, is_item, is_ascending}
use Rattle.rs_rules.specs.declared.reply.Reply.{Reply}
use Rattle.rs_rules.specs.declared.reply.Reply.TheVariants.{Folder}

-- items are in the order of their keys, and each is what its type promises
pub record AreItems (items : List Entry) : Type 0 where
  pub ascending : is_ascending items ≡ true
  pub plain : list_all is_item items ≡ true
  pub parts : list_all is_entry items ≡ true

-- a folder that a reply shows has such items
abbrev pub IsListed : Reply → Type 0
IsListed (Folder version items) = AreItems items
IsListed reply = ⊤
