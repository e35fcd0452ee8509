-- How bytes are read as a discovery answer: the first link to a storage, or none (RFC 7033, section 4.4).
use Rattle.std.specs.Prelude.{◌≡◌, ℕ, Bool, false, List, Option, Some, None, option_and_then, Result, Ok, Err, codes, if◌then◌else◌}
use Rattle.std.specs.Str.{bytes_eq, is_utf8}
use Rattle.serde_json.specs.Data.{Data, Items, no_items, item}
use Rattle.serde_json.specs.Read.{read}
use Rattle.serde_json.specs.Find.{get, as_str, as_array}
use Rattle.rs_finger.specs.Jrds.{storage_rel, dialog_key}
use Rattle.rs_finger.specs.declared.links.Links.{Links}
use Rattle.rs_finger.specs.declared.finger_fault.FingerFault.{FingerFault}
use Rattle.rs_finger.specs.declared.finger_fault.FingerFault.TheVariants.{NoResource, BadResource, Unknown, NoLink, NoMemory}

-- the text at a key of an object
abbrev pub string_at : List ℕ → Data → Option (List ℕ)
string_at key value = option_and_then as_str (get key value)

abbrev pub is_storage_rel : Option (List ℕ) → Bool
is_storage_rel None = false
is_storage_rel (Some rel) = bytes_eq rel storage_rel

-- the link has the `rel` of a storage
abbrev pub has_rel : Data → Bool
has_rel link = is_storage_rel (string_at (codes "rel") link)

abbrev pub links_with : List ℕ → List ℕ → Links
links_with root dialog = record { root = root; dialog = dialog }

-- two addresses, where both are there
abbrev pub both_links : Option (List ℕ) → Option (List ℕ) → Option Links
both_links None dialog = None
both_links (Some root) None = None
both_links (Some root) (Some dialog) = Some (links_with root dialog)

-- the addresses of a link to a storage: a text `href`, and a text property for the dialog
abbrev pub link_reading : Data → Option Links
link_reading link = if has_rel link then both_links (string_at (codes "href") link)
    (option_and_then (string_at dialog_key) (get (codes "properties") link)) else None

abbrev pub link_or : Option Links → Result Links FingerFault → Result Links FingerFault
link_or None others = others
link_or (Some links) others = Ok links

-- the first of these that is a link to a storage
abbrev pub first_link : Items → Result Links FingerFault
first_link no_items = Err NoLink
first_link (item link links) = link_or (link_reading link) (first_link links)

abbrev pub links_reading : Option Items → Result Links FingerFault
links_reading None = Err NoLink
links_reading (Some links) = first_link links

-- the links of a value of JSON: those of an array `links`
abbrev pub value_links : Option Data → Result Links FingerFault
value_links None = Err NoLink
value_links (Some value) = links_reading (option_and_then as_array (get (codes "links") value))

-- the links of bytes, which are JSON as `serde_json` reads it
abbrev pub jrd_reading : List ℕ → Result Links FingerFault
jrd_reading bytes = if is_utf8 bytes then value_links (read bytes) else Err NoLink

-- the call read this, or memory ran out
abbrev pub ReadsJrd : Result Links FingerFault → Result Links FingerFault → Type 0
ReadsJrd (Ok links) wanted = wanted ≡ Ok links
ReadsJrd (Err NoResource) wanted = ⊥
ReadsJrd (Err BadResource) wanted = ⊥
ReadsJrd (Err Unknown) wanted = ⊥
ReadsJrd (Err NoLink) wanted = wanted ≡ Err NoLink
ReadsJrd (Err NoMemory) wanted = Unit {0}
