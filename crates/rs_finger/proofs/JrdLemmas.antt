-- What is written is read back.
use Rattle.std.proofs.Common.{◌≡◌, ℕ, ◌≤◌, Bool, true, false, cond, List, [], ◌∷◌, ◌++◌, Option, Some, option_and_then, Ok, Err, codes, IsUtf8, refl, sym, ap, ◌∙◌, arith, append-nil}
use Rattle.std.proofs.lemmas.Str.{IsUtf8-append, is_utf8-from_IsUtf8}
use Rattle.json.specs.Json as json
use Rattle.json.specs.Lex.{tokens}
use Rattle.json.specs.Print.{print, quoted}
use Rattle.json.specs.Token.{Token}
use Rattle.json.specs.Tree as tree
use Rattle.json.proofs.Printed.Tokens.{tokens-print}
use Rattle.json.proofs.Printed.Trees.{value-json_tokens, ArePrintable-json_tokens}
use Rattle.json.proofs.Printed.Utf8.{IsUtf8-are_ascii, IsUtf8-quoted}
use Rattle.serde_json.specs.Data.{Data}
use Rattle.serde_json.specs.Read.{read, of_json, max_depth}
use Rattle.serde_json.specs.Written.{outline, has_float, compact_text}
use Rattle.serde_json.proofs.Texts.{print-outline}
use Rattle.rs_finger.specs.Jrds.{storage_rel, dialog_key, account_uri, root_address, dialog_address, properties_data, link_data, links_data, jrd_data, jrd_text}
use Rattle.rs_finger.specs.JrdReadings.{links_with, value_links, jrd_reading}
use Rattle.rs_finger.specs.declared.finger_fault.FingerFault.TheVariants.{NoLink}

-- ---- the text is read as its value

jrd_numbers : (linked : Bool) (base user host : List ℕ) → tree.HasNumbers (outline (jrd_data linked base user host))
jrd_numbers true base user host = (((tt, ((tt, (tt, tt)), (tt, tt))), tt), (tt, tt))
jrd_numbers false base user host = (tt, (tt, tt))

jrd_depth : (linked : Bool) (base user host : List ℕ) → tree.depth (outline (jrd_data linked base user host)) ≤ max_depth
jrd_depth true base user host = omega arith
jrd_depth false base user host = omega arith

jrd_value : (linked : Bool) (base user host : List ℕ) → of_json (outline (jrd_data linked base user host)) ≡ Some (jrd_data linked base user host)
jrd_value true base user host = refl
jrd_value false base user host = refl

pub jrd_whole : (linked : Bool) (base user host : List ℕ) → has_float (jrd_data linked base user host) ≡ false
jrd_whole true base user host = refl
jrd_whole false base user host = refl

abbrev whole : Option (json.Json × List Token) → Option Data
whole o = option_and_then of_json (option_and_then (λ p. json.if_last p.0 p.1) o)

read-jrd_text : (linked : Bool) (base user host : List ℕ) → read (jrd_text linked base user host) ≡ Some (jrd_data linked base user host)
read-jrd_text linked base user host =
    let j = outline (jrd_data linked base user host) in
    let text : jrd_text linked base user host ≡ print (tree.json_tokens j) = sym (print-outline (jrd_data linked base user host)) in
    let same : tokens (jrd_text linked base user host) ≡ tree.json_tokens j ++ [] =
    ap tokens text ∙ tokens-print (tree.json_tokens j) (ArePrintable-json_tokens j (jrd_numbers linked base user host)) ∙ sym (append-nil (tree.json_tokens j)) in
    ap whole (ap (json.value max_depth) same ∙ value-json_tokens j max_depth [] (jrd_depth linked base user host)) ∙ jrd_value linked base user host

-- ---- the text is UTF-8

comma : (xs : List ℕ) → IsUtf8 xs → IsUtf8 (44 ∷ xs)
comma xs text = IsUtf8-append (44 ∷ []) xs (IsUtf8-are_ascii (44 ∷ []) refl) text

brace : (xs : List ℕ) → IsUtf8 xs → IsUtf8 (123 ∷ xs)
brace xs text = IsUtf8-append (123 ∷ []) xs (IsUtf8-are_ascii (123 ∷ []) refl) text

-- a member with what follows it
abbrev member_of : List ℕ → List ℕ → List ℕ → List ℕ
member_of key value rest = quoted key ++ 58 ∷ (value ++ rest)

member_utf8 : (key value rest : List ℕ) → IsUtf8 key → IsUtf8 value → IsUtf8 rest → IsUtf8 (member_of key value rest)
member_utf8 key value rest k v r =
    IsUtf8-append (quoted key) (58 ∷ (value ++ rest)) (IsUtf8-quoted key k)
    (IsUtf8-append (58 ∷ []) (value ++ rest) (IsUtf8-are_ascii (58 ∷ []) refl) (IsUtf8-append value rest v r))

closed : IsUtf8 (125 ∷ [])
closed = IsUtf8-are_ascii (125 ∷ []) refl

address_utf8 : (base middle user : List ℕ) → IsUtf8 base → IsUtf8 middle → IsUtf8 user → IsUtf8 (base ++ (middle ++ user))
address_utf8 base middle user b m u = IsUtf8-append base (middle ++ user) b (IsUtf8-append middle user m u)

properties_utf8 : (base user : List ℕ) → IsUtf8 base → IsUtf8 user → IsUtf8 (compact_text (properties_data base user))
properties_utf8 base user b u =
    let key = codes "http://remotestorage.io/spec/version" in
    let version = codes "draft-dejong-remotestorage-13" in
    let address = dialog_address base user in
    let last = member_of dialog_key (quoted address) (125 ∷ []) in
    let dialog = IsUtf8-quoted address (address_utf8 base (codes "/oauth/") user b (IsUtf8-are_ascii (codes "/oauth/") refl) u) in
    let label = IsUtf8-quoted version (IsUtf8-are_ascii version refl) in
    brace (member_of key (quoted version) (44 ∷ last))
    (member_utf8 key (quoted version) (44 ∷ last) (IsUtf8-are_ascii key refl) label
    (comma last (member_utf8 dialog_key (quoted address) (125 ∷ []) (IsUtf8-are_ascii dialog_key refl) dialog closed)))

link_utf8 : (base user : List ℕ) → IsUtf8 base → IsUtf8 user → IsUtf8 (compact_text (link_data base user))
link_utf8 base user b u =
    let address = root_address base user in
    let properties = compact_text (properties_data base user) in
    let third = member_of (codes "rel") (quoted storage_rel) (125 ∷ []) in
    let second = member_of (codes "properties") properties (44 ∷ third) in
    let root = IsUtf8-quoted address (address_utf8 base (codes "/storage/") user b (IsUtf8-are_ascii (codes "/storage/") refl) u) in
    let rel = IsUtf8-quoted storage_rel (IsUtf8-are_ascii storage_rel refl) in
    let third_utf8 = member_utf8 (codes "rel") (quoted storage_rel) (125 ∷ []) (IsUtf8-are_ascii (codes "rel") refl) rel closed in
    let second_utf8 = member_utf8 (codes "properties") properties (44 ∷ third) (IsUtf8-are_ascii (codes "properties") refl) (properties_utf8 base user b u) (comma third third_utf8) in
    brace (member_of (codes "href") (quoted address) (44 ∷ second))
    (member_utf8 (codes "href") (quoted address) (44 ∷ second) (IsUtf8-are_ascii (codes "href") refl) root (comma second second_utf8))

links_utf8 : (linked : Bool) (base user : List ℕ) → IsUtf8 base → IsUtf8 user → IsUtf8 (compact_text (links_data linked base user))
links_utf8 true base user b u =
    let link = compact_text (link_data base user) in
    IsUtf8-append (91 ∷ []) (link ++ 93 ∷ []) (IsUtf8-are_ascii (91 ∷ []) refl)
    (IsUtf8-append link (93 ∷ []) (link_utf8 base user b u) (IsUtf8-are_ascii (93 ∷ []) refl))
links_utf8 false base user b u = IsUtf8-are_ascii (91 ∷ 93 ∷ []) refl

uri_utf8 : (user host : List ℕ) → IsUtf8 user → IsUtf8 host → IsUtf8 (account_uri user host)
uri_utf8 user host u h =
    IsUtf8-append (codes "acct:") (user ++ 64 ∷ host) (IsUtf8-are_ascii (codes "acct:") refl)
    (IsUtf8-append user (64 ∷ host) u (IsUtf8-append (64 ∷ []) host (IsUtf8-are_ascii (64 ∷ []) refl) h))

jrd_utf8 : (linked : Bool) (base user host : List ℕ) → IsUtf8 base → IsUtf8 user → IsUtf8 host → IsUtf8 (jrd_text linked base user host)
jrd_utf8 linked base user host b u h =
    let links = compact_text (links_data linked base user) in
    let uri = account_uri user host in
    let last = member_of (codes "subject") (quoted uri) (125 ∷ []) in
    let subject = IsUtf8-quoted uri (uri_utf8 user host u h) in
    let last_utf8 = member_utf8 (codes "subject") (quoted uri) (125 ∷ []) (IsUtf8-are_ascii (codes "subject") refl) subject closed in
    brace (member_of (codes "links") links (44 ∷ last))
    (member_utf8 (codes "links") links (44 ∷ last) (IsUtf8-are_ascii (codes "links") refl) (links_utf8 linked base user b u) (comma last last_utf8))

-- ---- and so it is read back

reading : (linked : Bool) (base user host : List ℕ) → IsUtf8 base → IsUtf8 user → IsUtf8 host
    → jrd_reading (jrd_text linked base user host) ≡ value_links (Some (jrd_data linked base user host))
reading linked base user host b u h =
    ap (λ (text : Bool). cond text (value_links (read (jrd_text linked base user host))) (Err NoLink))
    (is_utf8-from_IsUtf8 (jrd_text linked base user host) (jrd_utf8 linked base user host b u h))
    ∙ ap value_links (read-jrd_text linked base user host)

pub jrd_back : (base user host : List ℕ) → IsUtf8 base → IsUtf8 user → IsUtf8 host → jrd_reading (jrd_text true base user host) ≡ Ok (links_with (root_address base user) (dialog_address base user))
jrd_back base user host b u h = reading true base user host b u h

pub jrd_none : (base user host : List ℕ) → IsUtf8 base → IsUtf8 user → IsUtf8 host → jrd_reading (jrd_text false base user host) ≡ Err NoLink
jrd_none base user host b u h = reading false base user host b u h
