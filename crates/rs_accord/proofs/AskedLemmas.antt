-- What a client asks, read by a server.
use Rattle.std.proofs.Common.{◌≡◌, ℕ, zero, suc, ◌+◌, ◌==◌, ◌≤◌, ◌^◌, Bool, true, false, not, ◌&&◌, ◌||◌, if◌then◌else◌, List, [], ◌∷◌, ◌++◌, length, map, drop, take, codes, position, Option, Some, None, option_map, Result, Ok, nat_le, nat_lt, refl, sym, ap, ◌∙◌, arith}
use Rattle.std.specs.List.{list_all, onto_first, position_or_len}
use Rattle.std.specs.Option.{option_map_or}
use Rattle.std.specs.Result.{result_ok}
use Rattle.std.proofs.lemmas.Bool.{cond-true, cond-false, false≢true, and_from, and_parts, lt-ltb}
use Rattle.std.proofs.lemmas.Bool.Decides.{nat_tests}
use Rattle.std.proofs.lemmas.List.{append-nil, append_assoc, length-append}
use Rattle.std.proofs.lemmas.List.Folds.{list_all-append}
use Rattle.std.proofs.Math.Seq.{take-append_seam, drop-append_seam}
use Rattle.rs_path.specs.Items.{holds_of}
use Rattle.rs_path.specs.Kinds.{is_kind}
use Rattle.rs_path.specs.Paths.{Path, is_nil, is_path, text_of}
use Rattle.rs_path.specs.declared.path_fault.PathFault.{PathFault}
use Rattle.rs_path.specs.Tags.{is_tag, has_no_quote}
use Rattle.rs_path.specs.Targets.{is_target_byte, escaped, target_text}
use Rattle.rs_path.specs.Users.{is_user, is_user_byte}
use Rattle.rs_scope.specs.Tokens.{token_reading}
use Rattle.rs_scope.specs.declared.method.Method.{Method}
use Rattle.rs_scope.specs.declared.method.Method.TheVariants as methods
use Rattle.rs_rules.specs.declared.cond.Cond.{Cond}
use Rattle.rs_rules.specs.declared.cond.Cond.TheVariants.{Missing, Any}
use Rattle.rs_rules.specs.declared.entity_tag.EntityTag.{EntityTag}
use Rattle.rs_rules.specs.declared.pass.Pass.{Pass}
use Rattle.rs_rules.specs.declared.request.Request.TheVariants.{Store}
use Rattle.rs_rules.specs.CondReadings.{is_blank, is_quote, is_tag_byte, cut_items, closed_at, entity_tag, cond_item_reading, item_from, tag_or_place, after_item, list_reading, listed, cond_reading}
use Rattle.rs_request.specs.declared.field.Field.{Field}
use Rattle.rs_request.specs.Names.{same_name}
use Rattle.rs_exchange.specs.declared.account.Account.{Account}
use Rattle.rs_exchange.specs.declared.account.Config.{Config}
use Rattle.rs_exchange.specs.declared.asked.Asked.TheVariants.{Desk}
use Rattle.rs_exchange.specs.Accounts.{account_of}
use Rattle.rs_exchange.specs.Conditions.{cond_of, cond_of_text}
use Rattle.rs_exchange.specs.ContentTypes.{kind_of, kind_of_text, octet_stream, is_part}
use Rattle.rs_exchange.specs.Fields.{values_of}
use Rattle.rs_exchange.specs.Passes.{pass_of_token, after_spaces, pass_of_text, pass_of_scheme, pass_of}
use Rattle.rs_exchange.specs.Requests.{asked_by, asked_call, asked_storage, asked_line, asked_of}
use Rattle.rs_exchange.specs.Targets.{Target, Storage, Nothing, or_else, after_name, after_scheme, from_path, before_query, path_part, query_part, storage_target, storage_of, target_of, verb_of, is_shared, RequestLine, request_line_of}
use Rattle.rs_talk.specs.declared.ask.Ask.{Ask}
use Rattle.rs_talk.specs.declared.ask.Ask.TheVariants as asks
use Rattle.rs_talk.specs.AskRequests.{IsAsking, bearer_pass, pass_read, only_tag, request_asked, has_ask_parts}
use Rattle.rs_talk.specs.Asks.{strong_text, ask_path, ask_method, ask_body, ask_target, fields_sent, ask_message}
use Rattle.rs_talk.specs.Bearers.{is_bearer, is_bearer_byte, is_bearer_front, is_padding, is_padded_from, is_b64token}
use Rattle.rs_talk.specs.Roots.{Root}

-- ---- places in texts

-- what passes one test passes another
passes : (p q : ℕ → Bool) → ((b : ℕ) → p b ≡ true → q b ≡ true) → (xs : List ℕ) → list_all p xs ≡ true → list_all q xs ≡ true
passes p q each [] all = refl
passes p q each (x ∷ xs) all =
    let parts = and_parts (p x) (list_all p xs) all in
    and_from _ _ (each x parts.0) (passes p q each xs parts.1)

prefix_at : (p : ℕ → Bool) (front : List ℕ) (b : ℕ) (rest : List ℕ) → list_all (λ x. not (p x)) front ≡ true → p b ≡ true
    → position_or_len p (front ++ b ∷ rest) ≡ length front
prefix_at p [] b rest none is = cond-false (not (p b)) (1 + position_or_len p rest) 0 (ap not is)
prefix_at p (x ∷ front) b rest none is =
    let parts = and_parts (not (p x)) (list_all (λ x. not (p x)) front) none in
    let first : position_or_len p (x ∷ (front ++ b ∷ rest)) ≡ 1 + position_or_len p (front ++ b ∷ rest) =
    cond-true (not (p x)) (1 + position_or_len p (front ++ b ∷ rest)) 0 parts.0 in
    let later = prefix_at p front b rest parts.1 is in
    omega (arith, first, later)

prefix_all : (p : ℕ → Bool) (xs : List ℕ) → list_all (λ x. not (p x)) xs ≡ true → position_or_len p xs ≡ length xs
prefix_all p [] none = refl
prefix_all p (x ∷ xs) none =
    let parts = and_parts (not (p x)) (list_all (λ x. not (p x)) xs) none in
    let first : position_or_len p (x ∷ xs) ≡ 1 + position_or_len p xs = cond-true (not (p x)) (1 + position_or_len p xs) 0 parts.0 in
    let later = prefix_all p xs parts.1 in
    omega (arith, first, later)

-- the first byte that passes stands behind those that don't
position_at : (p : ℕ → Bool) (front : List ℕ) (b : ℕ) (rest : List ℕ) → list_all (λ x. not (p x)) front ≡ true → p b ≡ true
    → position p (front ++ b ∷ rest) ≡ Some (length front)
position_at p front b rest none is =
    let text = front ++ b ∷ rest in
    let first = prefix_at p front b rest none is in
    let within : nat_lt (position_or_len p text) (length text) ≡ true = lt-ltb _ _ (omega (arith, first, length-append front (b ∷ rest))) in
    cond-true (nat_lt (position_or_len p text) (length text)) (Some (position_or_len p text)) None within ∙ ap Some first

position_none : (p : ℕ → Bool) (xs : List ℕ) → list_all (λ x. not (p x)) xs ≡ true → position p xs ≡ None
position_none p xs none =
    let all = prefix_all p xs none in
    let past : nat_lt (position_or_len p xs) (length xs) ≡ false = grind (arith, nat_tests, all) in
    cond-false (nat_lt (position_or_len p xs) (length xs)) (Some (position_or_len p xs)) None past

-- ---- conditions

and_right : (a : Bool) → (a && false) ≡ false
and_right true = refl
and_right false = refl

tag_byte : (b : ℕ) → (nat_le 0x21 b && nat_le b 0x7E && not (b == 0x22)) ≡ true → is_tag_byte b ≡ true
tag_byte b is = grind (arith, nat_tests)

no_quote_byte : (b : ℕ) → (nat_le 0x21 b && nat_le b 0x7E && not (b == 0x22)) ≡ true → not (is_quote b) ≡ true
no_quote_byte b is = grind (arith, nat_tests)

not_back : (b : Bool) → not b ≡ true → b ≡ false
not_back true is = sym is
not_back false is = refl

cut_quoted : (tag : List ℕ) → has_no_quote tag ≡ true → cut_items true (tag ++ 34 ∷ []) ≡ (tag ++ 34 ∷ []) ∷ []
cut_quoted [] clean = refl
cut_quoted (b ∷ tag) clean =
    let parts = and_parts (nat_le 0x21 b && nat_le b 0x7E && not (b == 0x22)) (has_no_quote tag) clean in
    cond-false (b == 44 && false) ([] ∷ cut_items false (tag ++ 34 ∷ [])) (onto_first b (cut_items (if is_quote b then false else true) (tag ++ 34 ∷ []))) (and_right (b == 44))
    ∙ ap (λ (quoted : Bool). onto_first b (cut_items quoted (tag ++ 34 ∷ []))) (cond-false (is_quote b) false true (not_back (is_quote b) (no_quote_byte b parts.0)))
    ∙ ap (onto_first b) (cut_quoted tag parts.1)

-- a tag in its quotes is one item
one_item : (tag : List ℕ) → has_no_quote tag ≡ true → cut_items false (strong_text tag) ≡ strong_text tag ∷ []
one_item tag clean = ap (onto_first 34) (cut_quoted tag clean)

drop_past : (tag : List ℕ) → drop (length tag + 1) (tag ++ 34 ∷ []) ≡ []
drop_past [] = refl
drop_past (b ∷ tag) =
    let more : length (b ∷ tag) + 1 ≡ suc (length tag + 1) = omega arith in
    ap (λ (n : ℕ). drop n (b ∷ (tag ++ 34 ∷ []))) more ∙ drop_past tag

closed : (tag : List ℕ) → has_no_quote tag ≡ true → closed_at (position is_quote (tag ++ 34 ∷ [])) (tag ++ 34 ∷ []) ≡ Some tag
closed tag clean =
    let rest = tag ++ 34 ∷ [] in
    let n = length tag in
    let front = take-append_seam tag (34 ∷ []) in
    let plain = passes (λ b. nat_le 0x21 b && nat_le b 0x7E && not (b == 0x22)) is_tag_byte tag_byte tag clean in
    let unquoted = passes (λ b. nat_le 0x21 b && nat_le b 0x7E && not (b == 0x22)) (λ b. not (is_quote b)) no_quote_byte tag clean in
    ap (λ (o : Option ℕ). closed_at o rest) (position_at is_quote tag 34 [] unquoted refl)
    ∙ cond-true (list_all is_tag_byte (take n rest) && list_all is_blank (drop (n + 1) rest)) (Some (take n rest)) None
    (and_from _ _ (ap (list_all is_tag_byte) front ∙ plain) (ap (list_all is_blank) (drop_past tag)))
    ∙ ap Some front

entity : (tag : List ℕ) → is_tag tag ≡ true → has_no_quote tag ≡ true → entity_tag (strong_text tag) ≡ Some (record { weak = false; tag = tag })
entity [] is clean = absurd (false≢true is)
entity (b ∷ tag) is clean =
    ap (option_map (λ (text : List ℕ). let t : EntityTag = record { weak = false; tag = text } in t)) (closed (b ∷ tag) clean)

tag_clean : (tag : List ℕ) → is_tag tag ≡ true → has_no_quote tag ≡ true
tag_clean tag is = (and_parts _ (has_no_quote tag) is).1

item_is : (tag : List ℕ) → is_tag tag ≡ true → cond_item_reading (strong_text tag) ≡ Ok (Some (record { weak = false; tag = tag }))
item_is tag is =
    ap (λ (o : Option ℕ). item_from o (strong_text tag)) (position_at (λ byte. not (is_blank byte)) [] 34 (tag ++ 34 ∷ []) refl refl)
    ∙ ap (tag_or_place 0) (entity tag is (tag_clean tag is))

cond_is : (tag : List ℕ) → is_tag tag ≡ true → cond_reading (strong_text tag) ≡ Ok (only_tag tag)
cond_is tag is =
    let text = strong_text tag in
    let t : EntityTag = record { weak = false; tag = tag } in
    ap (λ (items : List (List ℕ)). listed (list_reading 0 false [] items)) (one_item tag (tag_clean tag is))
    ∙ ap (λ (r : Result (Option EntityTag) ℕ). listed (after_item r 0 false [] (λ now tags. list_reading (0 + length text + 1) now tags []))) (item_is tag is)
    ∙ ap (λ (tags : List EntityTag). listed (Ok tags)) (cond-true (is_tag tag) (t ∷ []) [] is)

-- a condition with one tag
tag_cond : (tag : List ℕ) → is_tag tag ≡ true → cond_of (strong_text tag ∷ []) ≡ Some (only_tag tag)
tag_cond tag is =
    let text = strong_text tag in
    let few : length tag ≤ 255 = grind (arith, nat_tests, is) in
    let short : nat_le (2 ^ 32) (length text) ≡ false = grind (arith, nat_tests, few, length-append tag (34 ∷ [])) in
    ap cond_of_text (append-nil text)
    ∙ cond-false (nat_le (2 ^ 32) (length text)) None (result_ok (cond_reading text)) short
    ∙ ap result_ok (cond_is tag is)

-- ---- the token

bearer_byte : (b : ℕ) → is_bearer_byte b ≡ true → not (b == 32) ≡ true
bearer_byte b is = grind (arith, nat_tests)

first_byte : (b : ℕ) (rest : List ℕ) → is_bearer_front (b ∷ rest) ≡ true → not (b == 32) ≡ true
first_byte b rest is =
    let all = (and_parts (nat_lt 0 (length (b ∷ rest))) (list_all is_bearer_byte (b ∷ rest)) is).1 in
    bearer_byte b (and_parts (is_bearer_byte b) (list_all is_bearer_byte rest) all).0

by_place : (b : ℕ) (rest : List ℕ) (o : Option ℕ) → is_padded_from o (b ∷ rest) ≡ true → not (b == 32) ≡ true
by_place b rest None is = first_byte b rest is
by_place b rest (Some zero) is = absurd (false≢true is)
by_place b rest (Some (suc n)) is = first_byte b (take n rest) (and_parts (is_bearer_front (b ∷ take n rest)) (list_all is_padding (drop n rest)) is).0

spaced : (token : List ℕ) → is_bearer token ≡ true → after_spaces (32 ∷ token) ≡ token
spaced [] is = absurd (false≢true is)
spaced (b ∷ token) is =
    let first = by_place b token (position is_padding (b ∷ token)) (and_parts (nat_le (length (b ∷ token)) 1024) (is_b64token (b ∷ token)) is).1 in
    ap (λ (o : Option ℕ). option_map_or (λ at. drop at (32 ∷ b ∷ token)) o []) (position_at (λ byte. not (byte == 32)) (32 ∷ []) b token refl first)

pass_same : (o : Option (List ℕ)) → pass_of_token o ≡ pass_read o
pass_same None = refl
pass_same (Some token) = refl

pass_is : (token : List ℕ) → is_bearer token ≡ true → pass_of ((codes "Bearer " ++ token) ∷ []) ≡ bearer_pass token
unfolding same_name
pass_is token is =
    let value = codes "Bearer " ++ token in
    ap (λ (o : Option ℕ). option_map_or (λ space. pass_of_scheme (take space value) (drop space value)) o (pass_of_scheme value []))
    (position_at (λ byte. byte == 32) (codes "Bearer") 32 token refl refl)
    ∙ ap pass_of_text (spaced token is)
    ∙ pass_same (token_reading token)

-- ---- the target

user_byte : (b : ℕ) → is_user_byte b ≡ true → (not (b == 63) ≡ true) × (not (b == 47) ≡ true)
user_byte b is = (grind (arith, nat_tests), grind (arith, nat_tests))

target_byte : (b : ℕ) → is_target_byte b ≡ true → not (b == 63) ≡ true
target_byte b is = grind (arith, nat_tests)

text_first : (names : List (List ℕ)) (folder : Bool) → (folder || not (is_nil names)) ≡ true
    → (rest : List ℕ) × (text_of (map escaped names) folder ≡ 47 ∷ rest)
text_first [] true some = ([], refl)
text_first [] false some = absurd (false≢true some)
text_first (name ∷ names) folder some = (_, refl)

target_first : (p : Path) → is_path p ≡ true → (rest : List ℕ) × (target_text p ≡ 47 ∷ rest)
target_first p is = text_first p.names p.folder (and_parts _ (p.folder || not (is_nil p.names)) is).1

no_scheme : (text : List ℕ) → after_scheme (codes "/storage/" ++ text) ≡ None
unfolding same_name
no_scheme text =
    let target = codes "/storage/" ++ text in
    ap (λ (o : Option (List ℕ)). or_else o (after_name (codes "https://") target))
    (cond-false (nat_le 7 (length target) && false) (Some (drop 7 target)) None (and_right (nat_le 7 (length target))))
    ∙ cond-false (nat_le 8 (length target) && false) (Some (drop 8 target)) None (and_right (nat_le 8 (length target)))

-- the path part of the target of an ask is that target
path_is : (text : List ℕ) → list_all (λ b. not (b == 63)) (codes "/storage/" ++ text) ≡ true → path_part (codes "/storage/" ++ text) ≡ codes "/storage/" ++ text
unfolding path_part
path_is text none =
    let target = codes "/storage/" ++ text in
    ap (λ (o : Option (List ℕ)). before_query (option_map_or from_path o target)) (no_scheme text)
    ∙ ap (λ (o : Option ℕ). option_map_or (λ end. take end target) o target) (position_none (λ byte. byte == 63) target none)

-- what stands behind the user's name
storage_is : (accounts : List Account) (user : ℕ) (name rest : List ℕ) → list_all (λ b. not (b == 47)) name ≡ true → account_of accounts name ≡ Some user
    → storage_of accounts (name ++ 47 ∷ rest) ≡ Storage user (47 ∷ rest)
storage_is accounts user name rest whole is =
    let text = name ++ 47 ∷ rest in
    ap (λ (o : Option ℕ). option_map_or (λ slash. storage_target (account_of accounts (take slash text)) (drop slash text)) o Nothing)
    (position_at (λ byte. byte == 47) name 47 rest whole refl)
    ∙ ap (λ (n : List ℕ). storage_target (account_of accounts n) (drop (length name) text)) (take-append_seam name (47 ∷ rest))
    ∙ ap (λ (t : List ℕ). storage_target (account_of accounts name) t) (drop-append_seam name (47 ∷ rest))
    ∙ ap (λ (o : Option ℕ). storage_target o (47 ∷ rest)) is

target_is : (accounts : List Account) (user : ℕ) (name rest query : List ℕ) → list_all (λ b. not (b == 47)) name ≡ true → account_of accounts name ≡ Some user
    → target_of accounts (codes "/storage/" ++ (name ++ 47 ∷ rest)) query ≡ Storage user (47 ∷ rest)
unfolding target_of
target_is accounts user name rest query whole is = storage_is accounts user name rest whole is

-- ---- the request

by_all : (fields : List Field) (body : List ℕ) (user : ℕ) (method : Method) (path : Path) (m u : Cond) (k : List ℕ) (pass : Pass)
    → cond_of (values_of (codes "if-match") fields) ≡ Some m → cond_of (values_of (codes "if-none-match") fields) ≡ Some u
    → kind_of method (values_of (codes "content-type") fields) ≡ Some k → is_part method (values_of (codes "content-range") fields) ≡ false
    → pass_of (values_of (codes "authorization") fields) ≡ pass
    → asked_call fields body user method path
    ≡ Desk user (Store (record { method = method; path = path; pass = pass; if_match = m; if_none = u; kind = k; body = body }))
by_all fields body user method path m u k pass is_m is_u is_k whole is_pass =
    let U = cond_of (values_of (codes "if-none-match") fields) in
    let K = kind_of method (values_of (codes "content-type") fields) in
    let P = is_part method (values_of (codes "content-range") fields) in
    ap (λ (x : Option Cond). asked_by fields body user method path x U K P) is_m
    ∙ ap (λ (x : Option Cond). asked_by fields body user method path (Some m) x K P) is_u
    ∙ ap (λ (x : Option (List ℕ)). asked_by fields body user method path (Some m) (Some u) x P) is_k
    ∙ ap (λ (x : Bool). asked_by fields body user method path (Some m) (Some u) (Some k) x) whole
    ∙ ap (λ (x : Pass). Desk user (Store (record { method = method; path = path; pass = x; if_match = m; if_none = u; kind = k; body = body }))) is_pass

kind_is : (kind : List ℕ) → is_kind kind ≡ true → kind_of_text kind ≡ Some kind
kind_is kind is =
    let some : (length kind == 0) ≡ false = grind (arith, nat_tests, is) in
    cond-false (length kind == 0) (Some octet_stream) (if is_kind kind then Some kind else None) some ∙ cond-true (is_kind kind) (Some kind) None is

folder_asked : (root : Root) (token : List ℕ) (path : Path) (known : Option (List ℕ)) (user : ℕ) → is_bearer token ≡ true → holds_of is_tag known ≡ true
    → asked_call (fields_sent root token (asks.Folder path known)) [] user methods.Get path ≡ Desk user (request_asked token (asks.Folder path known))
unfolding same_name
folder_asked root token path None user bearer is =
    by_all (fields_sent root token (asks.Folder path None)) [] user methods.Get path Missing Missing octet_stream (bearer_pass token) refl refl refl refl (pass_is token bearer)
folder_asked root token path (Some tag) user bearer is =
    by_all (fields_sent root token (asks.Folder path (Some tag))) [] user methods.Get path Missing (only_tag tag) octet_stream (bearer_pass token) refl (tag_cond tag is) refl refl (pass_is token bearer)

document_asked : (root : Root) (token : List ℕ) (path : Path) (known : Option (List ℕ)) (user : ℕ) → is_bearer token ≡ true → holds_of is_tag known ≡ true
    → asked_call (fields_sent root token (asks.Document path known)) [] user methods.Get path ≡ Desk user (request_asked token (asks.Document path known))
unfolding same_name
document_asked root token path None user bearer is =
    by_all (fields_sent root token (asks.Document path None)) [] user methods.Get path Missing Missing octet_stream (bearer_pass token) refl refl refl refl (pass_is token bearer)
document_asked root token path (Some tag) user bearer is =
    by_all (fields_sent root token (asks.Document path (Some tag))) [] user methods.Get path Missing (only_tag tag) octet_stream (bearer_pass token) refl (tag_cond tag is) refl refl (pass_is token bearer)

put_asked : (root : Root) (token : List ℕ) (path : Path) (base : Option (List ℕ)) (kind body : List ℕ) (user : ℕ) → is_bearer token ≡ true
    → holds_of is_tag base ≡ true → is_kind kind ≡ true
    → asked_call (fields_sent root token (asks.Put path base kind body)) body user methods.Put path ≡ Desk user (request_asked token (asks.Put path base kind body))
unfolding same_name
put_asked root token path None kind body user bearer is is_k =
    by_all (fields_sent root token (asks.Put path None kind body)) body user methods.Put path Missing Any kind (bearer_pass token) refl refl (kind_is kind is_k) refl (pass_is token bearer)
put_asked root token path (Some tag) kind body user bearer is is_k =
    by_all (fields_sent root token (asks.Put path (Some tag) kind body)) body user methods.Put path (only_tag tag) Missing kind (bearer_pass token) (tag_cond tag is) refl (kind_is kind is_k) refl (pass_is token bearer)

remove_asked : (root : Root) (token : List ℕ) (path : Path) (base : List ℕ) (user : ℕ) → is_bearer token ≡ true → is_tag base ≡ true
    → asked_call (fields_sent root token (asks.Remove path base)) [] user methods.Delete path ≡ Desk user (request_asked token (asks.Remove path base))
unfolding same_name
remove_asked root token path base user bearer is =
    by_all (fields_sent root token (asks.Remove path base)) [] user methods.Delete path (only_tag base) Missing octet_stream (bearer_pass token) (tag_cond base is) refl refl refl (pass_is token bearer)

-- what is asked of the path of the ask
call_asked_is : (root : Root) (token : List ℕ) (ask : Ask) (user : ℕ) → is_bearer token ≡ true → has_ask_parts ask ≡ true
    → asked_storage (fields_sent root token ask) (ask_body ask) user (Some (ask_path ask)) (verb_of (ask_method ask)) ≡ Desk user (request_asked token ask)
unfolding verb_of
call_asked_is root token (asks.Folder path known) user bearer parts =
    folder_asked root token path known user bearer (and_parts (is_path path) (holds_of is_tag known) parts).1
call_asked_is root token (asks.Document path known) user bearer parts =
    document_asked root token path known user bearer (and_parts (is_path path) (holds_of is_tag known) parts).1
call_asked_is root token (asks.Put path base kind body) user bearer parts =
    let rest = and_parts (holds_of is_tag base) (is_kind kind) (and_parts (is_path path) _ parts).1 in
    put_asked root token path base kind body user bearer rest.0 rest.1
call_asked_is root token (asks.Remove path base) user bearer parts =
    remove_asked root token path base user bearer (and_parts (is_path path) (is_tag base) parts).1

path_valid : (ask : Ask) → has_ask_parts ask ≡ true → is_path (ask_path ask) ≡ true
path_valid (asks.Folder path known) parts = (and_parts (is_path path) (holds_of is_tag known) parts).0
path_valid (asks.Document path known) parts = (and_parts (is_path path) (holds_of is_tag known) parts).0
path_valid (asks.Put path base kind body) parts = (and_parts (is_path path) _ parts).0
path_valid (asks.Remove path base) parts = (and_parts (is_path path) (is_tag base) parts).0

-- the request line of an ask
line_is : (accounts : List Account) (user : ℕ) (name method target : List ℕ) (p : Path) → is_path p ≡ true → list_all is_target_byte (target_text p) ≡ true
    → is_user name ≡ true → account_of accounts name ≡ Some user → target ≡ codes "/storage/" ++ (name ++ target_text p)
    → request_line_of accounts method target
    ≡ record { verb = verb_of method; target = Storage user (target_text p); shared = is_shared (path_part target) }
line_is accounts user name method target p is bytes named account same =
    let first = target_first p is in
    let user_bytes = (and_parts _ (list_all is_user_byte name) named).1 in
    let asked = passes is_user_byte (λ b. not (b == 63)) (λ b u. (user_byte b u).0) name user_bytes in
    let whole = passes is_user_byte (λ b. not (b == 47)) (λ b u. (user_byte b u).1) name user_bytes in
    let path_bytes = passes is_target_byte (λ b. not (b == 63)) target_byte (target_text p) bytes in
    let none = list_all-append (λ b. not (b == 63)) (codes "/storage/") (name ++ target_text p)
    ∙ list_all-append (λ b. not (b == 63)) name (target_text p) ∙ and_from _ _ asked path_bytes in
    let part = ap path_part same ∙ path_is (name ++ target_text p) none in
    let there : target_of accounts (path_part target) (query_part target) ≡ Storage user (target_text p) =
    ap (λ (t : List ℕ). target_of accounts t (query_part target)) (part ∙ ap (λ (t : List ℕ). codes "/storage/" ++ (name ++ t)) first.1)
    ∙ target_is accounts user name first.0 (query_part target) whole account
    ∙ ap (Storage user) (sym first.1) in
    ap (λ (t : Target). let line : RequestLine = record { verb = verb_of method; target = t; shared = is_shared (path_part target) } in line) there

pub asked_is : ((p : Path) → is_path p ≡ true → list_all is_target_byte (target_text p) ≡ true)
    → (config : Config) (user : ℕ) (name : List ℕ) (root : Root) (token : List ℕ) (ask : Ask)
    → IsAsking root token ask → is_user name ≡ true → root.path ≡ codes "/storage/" ++ name → account_of config.accounts name ≡ Some user
    → asked_of config (ask_message root token ask) ≡ Desk user (request_asked token ask)
asked_is bytes config user name root token ask asking named below account =
    let m = ask_message root token ask in
    let valid = path_valid ask asking.parts in
    let target : ask_target root ask ≡ codes "/storage/" ++ (name ++ target_text (ask_path ask)) =
    ap (λ (front : List ℕ). front ++ target_text (ask_path ask)) below ∙ append_assoc (codes "/storage/") name (target_text (ask_path ask)) in
    ap (λ (line : RequestLine). asked_line config m.fields m.body line)
    (line_is config.accounts user name m.method m.target (ask_path ask) valid (bytes (ask_path ask) valid) named account target)
    ∙ ap (λ (read : Result Path PathFault). asked_storage m.fields m.body user (result_ok read) (verb_of m.method)) asking.back
    ∙ call_asked_is root token ask user asking.bearer asking.parts
