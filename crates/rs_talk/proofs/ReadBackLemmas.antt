-- The text of a root is read as that root.
use Rattle.std.proofs.Common.{reverse, ◌≡◌, ℕ, ◌-◌, ◌<◌, ◌≤◌, Bool, true, false, not, ◌&&◌, ◌||◌, ◌==◌, nat_le, nat_lt, List, [], ◌∷◌, ◌++◌, length, get_or, take, drop, codes, bytes_eq, Option, Some, None, is_none, Ok, Err, All, arith, refl, sym, ap, ◌∙◌, subst, inl, ⊎_elim, append_assoc, length-append, take_all, take_at, drop_at}
use Rattle.std.specs.List.{prefix_len}
use Rattle.std.specs.Str.{is_utf8, IsAscii}
use Rattle.std.proofs.lemmas.Bool.{cond-true, cond-false, cases_Bool, and_right, and_from, or_parts, false≢true}
use Rattle.std.proofs.lemmas.Bool.Decides.{nat_tests}
use Rattle.std.proofs.lemmas.List.{get_or-reverse, length-reverse, get_or_append_left}
use Rattle.std.proofs.lemmas.List.Elements.{All-nil, All-cons, All-head, All-tail, All-append, All-weaker}
use Rattle.std.proofs.lemmas.Slice.Eq.{bytes_eq-Decides}
use Rattle.std.proofs.lemmas.Str.{IsUtf8-from_ascii, is_utf8-from_IsUtf8}
use Rattle.std.proofs.lemmas.Str.Ascii.{IsAscii-from_all, All-from_ascii}
use Rattle.url.specs.declared.scheme.SchemeType.{SchemeType}
use Rattle.url.specs.declared.scheme.SchemeType.TheVariants.{SpecialNotFile}
use Rattle.url.specs.declared.slicing.Position.TheVariants.{BeforeUsername, AfterPort, AfterPath}
use Rattle.url.specs.Input.{is_empty, is_c0_control_or_space, is_tab_or_new_line, trim_c0_control_and_space, strip_tabs_and_new_lines, split_once}
use Rattle.url.specs.Scheme.{IsScheme, default_port, scheme_type, is_special, is_slash}
use Rattle.url.specs.Path.{parse_path_start, IsSegment, join_segments, IsSegmentList}
use Rattle.url.specs.Parts.{Parts, kind_of, has_authority, host_or_empty, serialize, text_before, text_between, IsValidHead, IsValid}
use Rattle.url.specs.Parser.{and_then, parse_authority, with_path, with_tail, before_tail, skip_slashes, after_double_slash, parse_body, parse_parts, split_scheme, parse_by_scheme, parse_url}
use Rattle.url.proofs.InputLemmas.{IsNot, Passes, StopsAt, split_once_none, prefix_len_at, filter_all, All_from_list_all, is_empty-nil}
use Rattle.url.specs.Host.{IsHostOf}
use Rattle.url.proofs.PathLemmas.{no_segments, root_only}
use Rattle.url.proofs.SetterLemmas.{own_host}
use Rattle.url.proofs.RoundTrip.{body_text, split_own_scheme, host_nonempty}
use Rattle.url.proofs.TextLemmas.{is_authority_byte, authority_bytes}
use Rattle.url.proofs.Theorems.{parse_url-serialize_special}
use Rattle.url.proofs.ValidLemmas.{hierarchical, base_from_authority, IsAscii-serialize}
use Rattle.rs_path.specs.Paths.{is_nil}
use Rattle.rs_talk.specs.Roots.{Root, root_text, bared, without_slashes, is_root_address, root_in, root_of, root_reading, IsRoot}
use Rattle.rs_talk.specs.declared.root_fault.RootFault.TheVariants.{BadUrl}
use Rattle.rs_talk.proofs.RootLemmas.{without_slashes-short}

-- ---- paths without the slashes at their end

bared-other : (byte : ℕ) (rest : List ℕ) → (byte == 47) ≡ false → bared byte rest ≡ byte ∷ rest
bared-other byte rest other = cond-false (is_nil rest && byte == 47) [] (byte ∷ rest) (and_right (is_nil rest) (byte == 47) other)

-- bytes of which none is a slash stay
without_slashes-append : (front rest : List ℕ) → All (λ b. (b == 47) ≡ false) front → without_slashes (front ++ rest) ≡ front ++ without_slashes rest
without_slashes-append [] rest none = refl
without_slashes-append (byte ∷ front) rest none =
    ap (bared byte) (without_slashes-append front rest (All-tail (λ b. (b == 47) ≡ false) byte front none))
    ∙ bared-other byte (front ++ without_slashes rest) (All-head (λ b. (b == 47) ≡ false) byte front none)

bared_twice : (byte : ℕ) (rest : List ℕ) → without_slashes rest ≡ rest → without_slashes (bared byte rest) ≡ bared byte rest
bared_twice byte [] same =
    ⊎_elim
    (λ slash. let gone : bared byte [] ≡ [] = cond-true (byte == 47) [] (byte ∷ []) slash in ap without_slashes gone ∙ sym gone)
    (λ other. ap without_slashes (cond-false (byte == 47) [] (byte ∷ []) other))
    (cases_Bool (byte == 47))
bared_twice byte (first ∷ rest) same = ap (bared byte) same

without_slashes-twice : (text : List ℕ) → without_slashes (without_slashes text) ≡ without_slashes text
without_slashes-twice [] = refl
without_slashes-twice (byte ∷ bytes) = bared_twice byte (without_slashes bytes) (without_slashes-twice bytes)

-- ---- segments

one_more : (kind : SchemeType) (s w : List ℕ) → IsSegment kind s → IsSegmentList kind w → IsSegmentList kind (47 ∷ (s ++ w))
one_more kind s w segment list = record {
  segments = s ∷ list.segments;
  joined = ap (λ t. 47 ∷ (s ++ t)) list.joined;
  each = All-cons (IsSegment kind) s list.segments segment list.each;
}

bared_list : (kind : SchemeType) (s w : List ℕ) → IsSegment kind s → IsSegmentList kind w → IsSegmentList kind (bared 47 (s ++ w))
bared_list kind [] [] segment list = no_segments kind
bared_list kind [] (b ∷ w) segment list = one_more kind [] (b ∷ w) segment list
bared_list kind (b ∷ s) w segment list = one_more kind (b ∷ s) w segment list

no_slash : (kind : SchemeType) (s : List ℕ) → IsSegment kind s → All (λ b. (b == 47) ≡ false) s
no_slash kind s segment =
    All-weaker (λ b. is_slash kind b ≡ false) (λ b. (b == 47) ≡ false) (λ b none. (or_parts (b == 47) (b == 92 && is_special kind) none).0) s segment.whole

joined_bare : (kind : SchemeType) (segments : List (List ℕ)) → All (IsSegment kind) segments → IsSegmentList kind (without_slashes (join_segments segments))
joined_bare kind [] each = no_segments kind
joined_bare kind (s ∷ segments) each =
    let segment = All-head (IsSegment kind) s segments each in
    let rest = joined_bare kind segments (All-tail (IsSegment kind) s segments each) in
    subst (IsSegmentList kind) (sym (ap (bared 47) (without_slashes-append s (join_segments segments) (no_slash kind s segment))))
    (bared_list kind s (without_slashes (join_segments segments)) segment rest)

bare_path : (kind : SchemeType) (path : List ℕ) → IsSegmentList kind path → IsSegmentList kind (without_slashes path)
bare_path kind path list =
    subst (λ p. IsSegmentList kind (without_slashes p)) (sym list.joined) (joined_bare kind list.segments list.each)

-- ---- an address of a root

-- what makes it one
record IsHttp (url : Parts) : Type 0 where
  scheme : url.scheme ≡ codes "http"
  authority : has_authority url ≡ true
  username : url.username ≡ []
  password : url.password ≡ []
  query : url.query ≡ None
  fragment : url.fragment ≡ None
  short : nat_le (length (serialize url)) 1024 ≡ true

http_kind : scheme_type (codes "http") ≡ SpecialNotFile
unfolding scheme_type default_port
http_kind = refl

kind_http : (url : Parts) → url.scheme ≡ codes "http" → kind_of url ≡ SpecialNotFile
kind_http url scheme = ap scheme_type scheme ∙ http_kind

-- with another path that fits
head_at : (url : Parts) (path : List ℕ) → IsValidHead url → IsValidHead (with_path url path)
head_at url path valid = record {
  scheme = valid.scheme;
  username = valid.username;
  password = valid.password;
  host = valid.host;
  port = valid.port;
  bare = valid.bare;
}

valid_at : (url : Parts) (path : List ℕ) → IsValid url → IsSegmentList (kind_of url) path → 0 < length path → IsValid (with_path url path)
valid_at url path valid list some = record {
  head = head_at url path valid.head;
  path = inl (list, λ special. some);
  query = valid.query;
  fragment = valid.fragment;
}

-- its text
text_at : (url : Parts) (path : List ℕ) → IsHttp url
    → serialize (with_path url path) ≡ codes "http://" ++ (text_between url BeforeUsername AfterPort ++ path)
text_at url path http =
    let at = with_path url path in
    let ended : serialize at ≡ text_before at AfterPath = rw (http.query, http.fragment) in
    ended ∙ body_text at http.authority
    ∙ ap (λ s. s ++ 58 ∷ 47 ∷ 47 ∷ (text_between url BeforeUsername AfterPort ++ path)) http.scheme

-- it is read as that address
read_at : (url : Parts) (path : List ℕ) → IsHttp url → IsValid url → IsSegmentList (kind_of url) path → 0 < length path
    → parse_url None (codes "http://" ++ (text_between url BeforeUsername AfterPort ++ path)) ≡ Ok (with_path url path)
read_at url path http valid list some =
    ap (parse_url None) (sym (text_at url path http))
    ∙ parse_url-serialize_special (with_path url path) None (valid_at url path valid list some) (kind_http url http.scheme)

-- ---- an address without a path

-- above a space, and neither `#` nor `?`
abbrev is_plain : ℕ → Bool
is_plain b = nat_lt 32 b && not (b == 35 || b == 63)

abbrev IsPlain : ℕ → Type 0
IsPlain b = is_plain b ≡ true

-- nothing at the front passes
none_passes : (test : ℕ → Bool) (xs : List ℕ) → (0 < length xs → test (get_or xs 0 0) ≡ false) → prefix_len test xs ≡ 0
none_passes test [] first = refl
none_passes test (x ∷ xs) first = cond-false _ _ _ (first (omega arith))

not_trimmed : (b : ℕ) → IsPlain b → is_c0_control_or_space b ≡ false
not_trimmed b plain = grind (arith, nat_tests)

untrimmed_plain : (xs : List ℕ) → All IsPlain xs → trim_c0_control_and_space xs ≡ xs
unfolding trim_c0_control_and_space
untrimmed_plain xs plain =
    let start = none_passes is_c0_control_or_space xs (λ inside. not_trimmed (get_or xs 0 0) (plain 0 0 inside)) in
    let len = length-reverse xs in
    let end = none_passes is_c0_control_or_space (reverse xs)
    (λ inside. rw (get_or-reverse xs 0 0 (omega arith)) (not_trimmed _ (plain (length xs - 1 - 0) 0 (omega arith)))) in
    rw (start, end) (take_all _ xs (omega arith))

unstripped_plain : (xs : List ℕ) → All IsPlain xs → strip_tabs_and_new_lines xs ≡ xs
unfolding strip_tabs_and_new_lines
unstripped_plain xs plain =
    filter_all _ xs (All-weaker IsPlain (Passes (λ b. not (is_tab_or_new_line b))) (λ b passes. grind (arith, nat_tests)) xs plain)

-- what is read of a plain text behind `http://`
read_plain : (rest : List ℕ) → IsScheme (codes "http") → All IsPlain (codes "http://" ++ rest)
    → parse_url None (codes "http://" ++ rest) ≡ parse_parts (codes "http") None (47 ∷ 47 ∷ rest) None None
unfolding parse_url
read_plain rest is plain =
    let text = codes "http://" ++ rest in
    let clean = ap strip_tabs_and_new_lines (untrimmed_plain text plain) ∙ unstripped_plain text plain in
    let hash = ap (split_once 35) clean ∙ split_once_none 35 text (All-weaker IsPlain (IsNot 35) (λ b passes e. grind (arith, nat_tests)) text plain) in
    let question = ap (λ r. split_once 63 r.0) hash ∙ split_once_none 63 text (All-weaker IsPlain (IsNot 63) (λ b passes e. grind (arith, nat_tests)) text plain) in
    let scheme = ap (λ r. split_scheme r.0) question ∙ split_own_scheme (codes "http") (47 ∷ 47 ∷ rest) is in
    (λ i. parse_by_scheme (scheme i) None (question i).0 (question i).1 (hash i).1)

-- no path is read as the path `/`
same_start : parse_path_start SpecialNotFile [] [] ≡ parse_path_start SpecialNotFile [] (47 ∷ [])
unfolding parse_path_start
same_start = refl

no_slash_first : (auth path : List ℕ) → 0 < length auth → All (Passes is_authority_byte) auth → StopsAt (λ b. b == 47 || b == 92) (auth ++ path)
no_slash_first [] path some bytes = absurd (omega arith)
no_slash_first (b ∷ auth) path some bytes = let passes = All-head (Passes is_authority_byte) b auth bytes in grind (arith, nat_tests)

-- what follows the slashes, up to where the path begins
after_slashes_at : (auth path : List ℕ) → 0 < length auth → All (Passes is_authority_byte) auth → StopsAt (λ b. not (is_slash SpecialNotFile b)) path
    → after_double_slash (codes "http") (skip_slashes (47 ∷ 47 ∷ (auth ++ path)))
    ≡ and_then (parse_authority (codes "http") auth) (λ head. Ok (with_path head (parse_path_start SpecialNotFile [] path)))
unfolding after_double_slash scheme_type default_port
after_slashes_at auth path some bytes stops =
    let text = auth ++ path in
    let test = λ (b : ℕ). b == 47 || b == 92 in
    let slashes = prefix_len_at test (47 ∷ 47 ∷ []) text (All-cons (Passes test) 47 (47 ∷ []) refl (All-cons (Passes test) 47 [] refl (All-nil (Passes test))))
    (no_slash_first auth path some bytes) in
    let same = λ (b : ℕ). not (is_slash SpecialNotFile b) in
    let whole = All-weaker (Passes is_authority_byte) (Passes same) (λ b passes. grind (arith, nat_tests)) auth bytes in
    let len = prefix_len_at same auth path whole stops in
    let front = ap (λ n. take n text) len ∙ take_at auth path _ refl in
    let back = ap (λ n. drop n text) len ∙ drop_at auth path _ refl in
    ap (λ n. after_double_slash (codes "http") (drop n (47 ∷ 47 ∷ text))) slashes
    ∙ (λ i. and_then (parse_authority (codes "http") (front i)) (λ head. Ok (with_path head (parse_path_start SpecialNotFile [] (back i)))))

-- an authority without a path is read as with the path `/`
same_read : (auth : List ℕ) → 0 < length auth → All (Passes is_authority_byte) auth
    → parse_parts (codes "http") None (47 ∷ 47 ∷ (auth ++ [])) None None ≡ parse_parts (codes "http") None (47 ∷ 47 ∷ (auth ++ 47 ∷ [])) None None
unfolding parse_parts parse_body scheme_type default_port
same_read auth some bytes =
    ap (λ r. and_then r (λ url. Ok (with_tail (before_tail url None None) None None)))
    (after_slashes_at auth [] some bytes tt
    ∙ ap (λ path. and_then (parse_authority (codes "http") auth) (λ head. Ok (with_path head path))) same_start
    ∙ sym (after_slashes_at auth (47 ∷ []) some bytes refl))

plain_text_at : (url : Parts) (path : List ℕ) → IsValid url → All IsPlain path → All IsPlain (codes "http://" ++ (text_between url BeforeUsername AfterPort ++ path))
plain_text_at url path valid plain =
    let auth = text_between url BeforeUsername AfterPort in
    let bytes = All-weaker (Passes is_authority_byte) IsPlain (λ b passes. grind (arith, nat_tests)) auth (authority_bytes url valid.head) in
    All-append IsPlain (codes "http://") (auth ++ path) (All_from_list_all is_plain (codes "http://") refl) (All-append IsPlain auth path bytes plain)

long_authority : (url : Parts) → IsHttp url → IsValid url → 0 < length (text_between url BeforeUsername AfterPort)
long_authority url http valid =
    let host = host_or_empty url in
    let is_host = subst (λ k. IsHostOf k host) (kind_http url http.scheme) (own_host url valid.head http.authority) in
    let some = host_nonempty host is_host in
    simp length-append (omega arith)

read_bare : (url : Parts) → IsHttp url → IsValid url
    → parse_url None (codes "http://" ++ (text_between url BeforeUsername AfterPort ++ [])) ≡ Ok (with_path url (47 ∷ []))
read_bare url http valid =
    let auth = text_between url BeforeUsername AfterPort in
    let is = subst IsScheme http.scheme valid.head.scheme in
    read_plain (auth ++ []) is (plain_text_at url [] valid (All-nil IsPlain))
    ∙ same_read auth (long_authority url http valid) (authority_bytes url valid.head)
    ∙ sym (read_plain (auth ++ 47 ∷ []) is (plain_text_at url (47 ∷ []) valid (All-cons IsPlain 47 [] refl (All-nil IsPlain))))
    ∙ read_at url (47 ∷ []) http valid (root_only (kind_of url)) (omega arith)

-- ---- roots

-- a path, or `/` where there is none
abbrev or_slash : List ℕ → List ℕ
or_slash [] = 47 ∷ []
or_slash (b ∷ path) = b ∷ path

read_by : (url : Parts) (bare : List ℕ) → IsHttp url → IsValid url → IsSegmentList (kind_of url) bare
    → parse_url None (codes "http://" ++ (text_between url BeforeUsername AfterPort ++ bare)) ≡ Ok (with_path url (or_slash bare))
read_by url [] http valid list = read_bare url http valid
read_by url (b ∷ path) http valid list = read_at url (b ∷ path) http valid list (omega arith)

bare_again : (bare : List ℕ) → without_slashes bare ≡ bare → without_slashes (or_slash bare) ≡ bare
bare_again [] same = refl
bare_again (b ∷ path) same = same

or_slash_short : (bare path : List ℕ) → length bare ≤ length path → 0 < length path → length (or_slash bare) ≤ length path
or_slash_short [] path within some = omega (arith, some)
or_slash_short (b ∷ bare) path within some = within

-- the parts of a conjunction
seven : (a b c d e f g : Bool) → (a && (b && (c && (d && (e && (f && g)))))) ≡ true
    → (a ≡ true) × (b ≡ true) × (c ≡ true) × (d ≡ true) × (e ≡ true) × (f ≡ true) × (g ≡ true)
seven false b c d e f g all = absurd (false≢true all)
seven true false c d e f g all = absurd (false≢true all)
seven true true false d e f g all = absurd (false≢true all)
seven true true true false e f g all = absurd (false≢true all)
seven true true true true false f g all = absurd (false≢true all)
seven true true true true true false g all = absurd (false≢true all)
seven true true true true true true g all = (refl, refl, refl, refl, refl, refl, all)

none_is : {X : Type 0} (o : Option X) → is_none o ≡ true → o ≡ None
none_is None none = refl
none_is (Some x) none = absurd (false≢true none)

http_of : (url : Parts) → is_root_address url ≡ true → IsHttp url
http_of url is =
    let facts = seven (bytes_eq url.scheme (codes "http")) (has_authority url) (is_empty url.username) (is_empty url.password)
    (is_none url.query) (is_none url.fragment) (nat_le (length (serialize url)) 1024) is in
    record {
      scheme = (bytes_eq-Decides url.scheme (codes "http")).0 facts.0;
      authority = facts.1;
      username = is_empty-nil url.username facts.2;
      password = is_empty-nil url.password facts.3;
      query = none_is url.query facts.4;
      fragment = none_is url.fragment facts.5;
      short = facts.6;
    }

-- an address with a path that is no longer is one, too
address_again : (url : Parts) (path : List ℕ) → IsHttp url → length path ≤ length url.path → is_root_address (with_path url path) ≡ true
address_again url path http within =
    let auth = text_between url BeforeUsername AfterPort in
    let here = ap length (text_at url path http) in
    let there = ap length (text_at url url.path http) in
    let one = length-append auth path in
    let two = length-append auth url.path in
    let enough = http.short in
    let long : length (serialize url) ≤ 1024 = grind (arith, nat_tests, enough) in
    let fits : length (serialize (with_path url path)) ≤ 1024 = omega (arith, here, there, one, two, long, within) in
    and_from _ _ ((bytes_eq-Decides url.scheme (codes "http")).1 http.scheme)
    (and_from _ _ http.authority
    (and_from _ _ (ap is_empty http.username)
    (and_from _ _ (ap is_empty http.password)
    (and_from _ _ (ap is_none http.query)
    (and_from _ _ (ap is_none http.fragment) (grind (arith, nat_tests, fits)))))))

-- ---- bytes

utf8_at : (url : Parts) (path : List ℕ) → IsHttp url → IsValid url → IsSegmentList (kind_of url) path → 0 < length path
    → IsAscii (codes "http://" ++ (text_between url BeforeUsername AfterPort ++ path))
utf8_at url path http valid list some = subst IsAscii (text_at url path http) (IsAscii-serialize (with_path url path) (valid_at url path valid list some))

ascii_front : (front rest : List ℕ) → IsAscii (front ++ rest) → IsAscii front
ascii_front front rest ascii =
    let all = All-from_ascii (front ++ rest) ascii in
    IsAscii-from_all front (λ k d inside. subst (λ b. b < 128) (get_or_append_left front rest d k inside) (all k d (omega (arith, inside, length-append front rest))))

ascii_by : (url : Parts) (bare : List ℕ) → IsHttp url → IsValid url → IsSegmentList (kind_of url) bare
    → IsAscii (codes "http://" ++ (text_between url BeforeUsername AfterPort ++ bare))
ascii_by url [] http valid list =
    let auth = text_between url BeforeUsername AfterPort in
    let whole : (codes "http://" ++ (auth ++ [])) ++ 47 ∷ [] ≡ codes "http://" ++ (auth ++ 47 ∷ []) =
    append_assoc (codes "http://") (auth ++ []) (47 ∷ []) ∙ ap (λ t. codes "http://" ++ t) (append_assoc auth [] (47 ∷ [])) in
    ascii_front (codes "http://" ++ (auth ++ [])) (47 ∷ [])
    (subst IsAscii (sym whole) (utf8_at url (47 ∷ []) http valid (root_only (kind_of url)) (omega arith)))
ascii_by url (b ∷ bare) http valid list = utf8_at url (b ∷ bare) http valid list (omega arith)

-- the text of a root is read as that root
pub root_back : (url : Parts) → IsValid url → is_root_address url ≡ true → root_reading (root_text (root_in url)) ≡ Ok (root_in url)
root_back url valid is =
    let http = http_of url is in
    let auth = text_between url BeforeUsername AfterPort in
    let path = hierarchical url valid.path (base_from_authority url http.authority) in
    let some : 0 < length url.path = path.1 (ap is_special (kind_http url http.scheme)) in
    let bare = without_slashes url.path in
    let list = bare_path (kind_of url) url.path path.0 in
    let at = with_path url (or_slash bare) in
    let text = codes "http://" ++ (auth ++ bare) in
    let spelled = is_utf8-from_IsUtf8 text (IsUtf8-from_ascii text (ascii_by url bare http valid list)) in
    let fits = or_slash_short bare url.path (without_slashes-short url.path) some in
    cond-true (is_utf8 text) (root_of (parse_url None text)) (Err BadUrl) spelled
    ∙ ap root_of (read_by url bare http valid list)
    ∙ cond-false (bytes_eq url.scheme (codes "https")) _ _ (ap (λ s. bytes_eq s (codes "https")) http.scheme)
    ∙ cond-true (is_root_address at) _ _ (address_again url (or_slash bare) http fits)
    ∙ ap (λ p. Ok (record { authority = auth; path = p })) (bare_again bare (without_slashes-twice url.path))

pub reads_back : (root : Root) → IsRoot root → root_reading (root_text root) ≡ Ok root
reads_back root is = subst (λ r. root_reading (root_text r) ≡ Ok r) (sym is.same) (root_back is.url is.valid is.address)
