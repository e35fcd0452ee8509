-- The discovery answer for an account: what `serde_json` prints of this value (RFC 7033, section 4.4;
-- draft-dejong-remotestorage, section 10).
use Rattle.std.specs.Prelude.{ℕ, Bool, true, false, List, ◌∷◌, ◌++◌, codes}
use Rattle.serde_json.specs.Data.{Data, string, array, object, no_items, item, no_members, member}
use Rattle.serde_json.specs.Written.{compact_text}

-- the `rel` of a storage
abbrev pub storage_rel : List ℕ
storage_rel = codes "http://tools.ietf.org/id/draft-dejong-remotestorage"

-- the property that has the address of the grant
abbrev pub dialog_key : List ℕ
dialog_key = codes "http://tools.ietf.org/html/rfc6749#section-4.2"

-- `acct:USER@HOST`
abbrev pub account_uri : List ℕ → List ℕ → List ℕ
account_uri user host = codes "acct:" ++ (user ++ 64 ∷ host)

-- `BASE/storage/USER`
abbrev pub root_address : List ℕ → List ℕ → List ℕ
root_address base user = base ++ (codes "/storage/" ++ user)

-- `BASE/oauth/USER`
abbrev pub dialog_address : List ℕ → List ℕ → List ℕ
dialog_address base user = base ++ (codes "/oauth/" ++ user)

-- the draft's version and the address of the grant
abbrev pub properties_data : List ℕ → List ℕ → Data
properties_data base user = object
    (member (codes "http://remotestorage.io/spec/version") (string (codes "draft-dejong-remotestorage-13"))
    (member dialog_key (string (dialog_address base user)) no_members))

-- the link of a user's storage
abbrev pub link_data : List ℕ → List ℕ → Data
link_data base user = object (member (codes "href") (string (root_address base user))
    (member (codes "properties") (properties_data base user)
    (member (codes "rel") (string storage_rel) no_members)))

-- the link, where it is asked for
abbrev pub links_data : Bool → List ℕ → List ℕ → Data
links_data true base user = array (item (link_data base user) no_items)
links_data false base user = array no_items

abbrev pub jrd_data : Bool → List ℕ → List ℕ → List ℕ → Data
jrd_data linked base user host = object (member (codes "links") (links_data linked base user)
    (member (codes "subject") (string (account_uri user host)) no_members))

abbrev pub jrd_text : Bool → List ℕ → List ℕ → List ℕ → List ℕ
jrd_text linked base user host = compact_text (jrd_data linked base user host)
