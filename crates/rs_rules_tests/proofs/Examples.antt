-- What a user sees, over one history and a request at a time: computed from the definitions alone.
use Rattle.std.proofs.Common.{◌≡◌, ℕ, true, false, List, [], ◌∷◌, Some, None, refl}
use Rattle.std.specs.Prelude.{codes}
use Rattle.std.specs.Fmt.{digits}
use Rattle.rs_path.specs.Paths.{Path, folder_at}
use Rattle.rs_scope.specs.declared.method.Method.TheVariants.{Get, Head, Delete}
use Rattle.rs_scope.specs.declared.scope.Reach.TheVariants.{Star}
use Rattle.rs_rules.specs.declared.cond.Cond.TheVariants.{Missing as Unconditional, Any, Tags}
use Rattle.rs_rules.specs.declared.pass.Pass.TheVariants.{Missing, Strange, Known}
use Rattle.rs_rules.specs.declared.reply.Reply.TheVariants.{Found, Folder, Stored, Removed, Same, NoToken, BadToken, Forbidden, FolderWrite, Clash, Absent, Unmet, OverQuota, Granted, TokenTaken, Revoked, NotGranted}
use Rattle.rs_rules.specs.declared.request.Request.TheVariants.{Grant, Revoke}
use Rattle.rs_rules_tests.proofs.Samples.{token, plain, doc, ask, get, put, delete, get_match, get_none, put_match, put_none, strong, weak, replies, all, notes_read, ample, x, notes_x, root, notes, hello}

-- ---- what is seen

-- a document is created, read, and not created again
first_put_and_get : replies all ample (put_none notes_x Any hello ∷ get notes_x ∷ put_none notes_x Any hello ∷ [])
    ≡ Stored 2 true ∷ Found 2 plain hello ∷ Unmet ∷ []
first_put_and_get = refl

-- an empty `/`, and a folder with a document
listings : replies all ample (get root ∷ put notes_x hello ∷ get notes ∷ ask Head notes (Known token) Unconditional Unconditional [] ∷ get root ∷ [])
    ≡ Folder 0 []
    ∷ Stored 2 true
    ∷ Folder 2 (record { name = codes "x"; folder = false; tag = codes "2"; kind = Some plain; length = Some 5 } ∷ [])
    ∷ Folder 2 (record { name = codes "x"; folder = false; tag = codes "2"; kind = Some plain; length = Some 5 } ∷ [])
    ∷ Folder 2 (record { name = codes "notes"; folder = true; tag = codes "2"; kind = None; length = None } ∷ []) ∷ []
unfolding digits
listings = refl

abbrev abcd : Path
abcd = doc (codes "a" ∷ codes "b" ∷ codes "c" ∷ codes "d" ∷ [])

-- emptied folders vanish, and `/` keeps the number of the removal
emptied_folders : replies all ample (put abcd hello ∷ delete abcd ∷ get (folder_at (codes "a" ∷ codes "b" ∷ [])) ∷ get root ∷ [])
    ≡ Stored 2 true ∷ Removed 2 ∷ Folder 0 [] ∷ Folder 3 [] ∷ []
emptied_folders = refl

abbrev notes_a : Path
notes_a = doc (codes "notes" ∷ codes "a" ∷ [])

abbrev notes_a_b : Path
notes_a_b = doc (codes "notes" ∷ codes "a" ∷ codes "b" ∷ [])

-- a document clashes with a document above it and with a folder at its names, before any condition
clashes : replies all ample (put notes_a hello ∷ put_match notes_a_b (Tags (strong (codes "9") ∷ [])) hello ∷ put (doc (codes "notes" ∷ [])) hello
    ∷ get (folder_at (codes "notes" ∷ codes "a" ∷ [])) ∷ put notes hello ∷ [])
    ≡ Stored 2 true ∷ Clash notes_a ∷ Clash notes ∷ Folder 0 [] ∷ FolderWrite ∷ []
clashes = refl

-- a document that isn't there is absent to a Delete before any condition; a Put needs one for If-Match
absent_and_unmet : replies all ample (ask Delete x (Known token) (Tags (strong (codes "9") ∷ [])) Unconditional []
    ∷ put_match x (Tags (strong (codes "9") ∷ [])) hello ∷ put_match x Any hello ∷ [])
    ≡ Absent ∷ Unmet ∷ Unmet ∷ []
absent_and_unmet = refl

-- whole names of modules are compared
scopes : replies notes_read ample (get notes ∷ get (folder_at (codes "notes2" ∷ [])) ∷ put notes_x hello
    ∷ get (folder_at (codes "public" ∷ codes "notes" ∷ [])) ∷ get (folder_at (codes "public" ∷ [])) ∷ get root ∷ get (doc (codes "notes" ∷ [])) ∷ [])
    ≡ Folder 0 [] ∷ Forbidden ∷ Forbidden ∷ Folder 0 [] ∷ Forbidden ∷ Forbidden ∷ Forbidden ∷ []
scopes = refl

abbrev public_x : Path
public_x = doc (codes "public" ∷ codes "notes" ∷ codes "x" ∷ [])

-- a public document is read without a token, and nothing else is
public_documents : replies all ample (put public_x hello ∷ ask Get public_x Missing Unconditional Unconditional []
    ∷ ask Get (folder_at (codes "public" ∷ codes "notes" ∷ [])) Missing Unconditional Unconditional []
    ∷ ask Delete public_x Missing Unconditional Unconditional [] ∷ ask Get root Strange Unconditional Unconditional [] ∷ [])
    ≡ Stored 2 true ∷ Found 2 plain hello ∷ NoToken ∷ NoToken ∷ BadToken ∷ []
public_documents = refl

-- If-None-Match compares weakly, If-Match strongly
entity_tags : replies all ample (put x hello ∷ get_none x (Tags (strong (codes "1") ∷ weak (codes "2") ∷ [])) ∷ get_none x Any
    ∷ get_none x (Tags (strong (codes "1") ∷ [])) ∷ get_match x (Tags (strong (codes "1") ∷ []))
    ∷ put_match x (Tags (weak (codes "2") ∷ [])) hello ∷ put_match x (Tags (strong (codes "1") ∷ strong (codes "2") ∷ [])) hello
    ∷ put_none x (Tags (strong (codes "3") ∷ [])) hello ∷ [])
    ≡ Stored 2 true ∷ Same 2 ∷ Same 2 ∷ Found 2 plain hello ∷ Unmet ∷ Unmet ∷ Stored 3 false ∷ Unmet ∷ []
unfolding digits
entity_tags = refl

abbrev ten : List ℕ
ten = codes "0123456789"

abbrev y : Path
y = doc (codes "y" ∷ [])

-- a body counts in place of the one that it replaces
quota : replies all 10 (put x ten ∷ put y (codes "0") ∷ put x (codes "0123456789a") ∷ put x ten ∷ [])
    ≡ Stored 2 true ∷ OverQuota 10 ∷ OverQuota 10 ∷ Stored 3 false ∷ []
quota = refl

-- a token is granted once, revoked, and may be granted again
grants : replies all ample (Grant token [] ∷ Revoke token ∷ get root ∷ Revoke token ∷ Grant token (record { reach = Star; write = false } ∷ []) ∷ put x hello ∷ [])
    ≡ TokenTaken ∷ Revoked ∷ BadToken ∷ NotGranted ∷ Granted ∷ Forbidden ∷ []
grants = refl
