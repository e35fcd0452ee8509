-- Roots: texts without the slashes at their end, and how long an address is.
use Rattle.std.proofs.Common.{◌≡◌, ℕ, ◌+◌, ◌≤◌, Bool, true, false, cond, ◌&&◌, ◌==◌, List, [], ◌∷◌, ◌++◌, length, codes, bytes_eq, arith, refl, sym, ap, ◌∙◌, length-append, nat_le, not, is_some, unwrap_or, option_map, decimal, is_none, None, Result, Err, subst, ◌⊎◌, ⊎_elim}
use Rattle.std.specs.List.{concat}
use Rattle.std.specs.Str.{is_utf8, IsUtf8}
use Rattle.std.proofs.lemmas.Bool.{cond-true, cond-false, cond_both, cases_Bool}
use Rattle.std.proofs.lemmas.Str.{IsUtf8-from_is_utf8, is_utf8-from_IsUtf8}
use Rattle.std.proofs.lemmas.Bool.Decides.{nat_tests}
use Rattle.std.proofs.lemmas.Slice.Eq.{bytes_eq-Decides}
use Rattle.std.proofs.lemmas.Bool.{false≢true}
use Rattle.url.specs.Input.{is_empty, when}
use Rattle.url.specs.Host.{host_text}
use Rattle.url.specs.Parts.{Parts, has_authority, has_credentials, host_or_empty, needs_guard, serialize, text_between}
use Rattle.url.specs.declared.slicing.Position.TheVariants.{BeforeUsername, AfterPort}
use Rattle.rs_path.specs.Paths.{is_nil}
use Rattle.url.specs.Parser.{Parsed, IsOutOfRoom, parse_url}
use Rattle.url.specs.declared.error.ParseError.{ParseError}
use Rattle.url.specs.declared.error.ParseError.TheVariants.{EmptyHost, IdnaError, InvalidPort, InvalidIpv4Address, InvalidIpv6Address, InvalidDomainCharacter, RelativeUrlWithoutBase, RelativeUrlWithCannotBeABaseBase, SetHostOnCannotBeABaseUrl, Overflow, CannotSet, OutOfMemory}
use Rattle.rs_talk.specs.declared.root_fault.RootFault.{RootFault}
use Rattle.rs_talk.specs.declared.root_fault.RootFault.TheVariants.{BadUrl, NoMemory}
use Rattle.rs_talk.specs.Roots.{Root, root_text, root_reading, root_of, fault_of_url, bared, without_slashes, is_root_address, root_in, IsRoot, ReadsAsRoot}

-- ---- slashes at the end

pub without_slashes-slash : (front : List ℕ) → without_slashes (front ++ 47 ∷ []) ≡ without_slashes front
without_slashes-slash [] = refl
without_slashes-slash (byte ∷ bytes) = ap (bared byte) (without_slashes-slash bytes)

bared-some : (first : ℕ) (front : List ℕ) (last : ℕ) → bared first (front ++ last ∷ []) ≡ first ∷ (front ++ last ∷ [])
bared-some first [] last = refl
bared-some first (byte ∷ bytes) last = refl

pub without_slashes-other : (front : List ℕ) (last : ℕ) → (last == 47) ≡ false → without_slashes (front ++ last ∷ []) ≡ front ++ last ∷ []
without_slashes-other [] last other = cond-false (last == 47) [] (last ∷ []) other
without_slashes-other (byte ∷ bytes) last other = ap (bared byte) (without_slashes-other bytes last other) ∙ bared-some byte bytes last

bared-short : (byte : ℕ) (rest : List ℕ) → length (bared byte rest) ≤ 1 + length rest
bared-short byte rest =
    cond_both (is_nil rest && byte == 47) [] (byte ∷ rest) (λ text. length text ≤ 1 + length rest) (λ bare. omega arith) (λ whole. omega arith)

pub without_slashes-short : (text : List ℕ) → length (without_slashes text) ≤ length text
without_slashes-short [] = omega arith
without_slashes-short (byte ∷ bytes) = omega (arith, bared-short byte (without_slashes bytes), without_slashes-short bytes)

-- a text that ends in a slash, in another byte, or has none
pub bare_slash : (text front : List ℕ) (last : ℕ) → text ≡ front ++ last ∷ [] → last ≡ 47 → without_slashes front ≡ without_slashes text
bare_slash text front last ends slash =
    sym (ap without_slashes ends ∙ ap (λ b. without_slashes (front ++ b ∷ [])) slash ∙ without_slashes-slash front)

pub bare_other : (text front : List ℕ) (last : ℕ) → text ≡ front ++ last ∷ [] → (last == 47) ≡ false → text ≡ without_slashes text
bare_other text front last ends other = ends ∙ sym (ap without_slashes ends ∙ without_slashes-other front last other)

pub bare_none : (text : List ℕ) → length text ≡ 0 → text ≡ without_slashes text
bare_none [] none = refl
bare_none (byte ∷ text) none = absurd (omega (arith, none))

-- ---- the length

-- of these texts, one after another, some are no longer than all
some_of : (a b c d e f g h i j k l m n o : List ℕ)
    → length a + length b + length (concat (c ∷ d ∷ e ∷ f ∷ g ∷ h ∷ i ∷ [])) + length k ≤ length (concat (a ∷ b ∷ c ∷ d ∷ e ∷ f ∷ g ∷ h ∷ i ∷ j ∷ k ∷ l ∷ m ∷ n ∷ o ∷ []))
some_of a b c d e f g h i j k l m n o =
    omega (
      arith,
      length-append a (concat (b ∷ c ∷ d ∷ e ∷ f ∷ g ∷ h ∷ i ∷ j ∷ k ∷ l ∷ m ∷ n ∷ o ∷ [])),
      length-append b (concat (c ∷ d ∷ e ∷ f ∷ g ∷ h ∷ i ∷ j ∷ k ∷ l ∷ m ∷ n ∷ o ∷ [])),
      length-append c (concat (d ∷ e ∷ f ∷ g ∷ h ∷ i ∷ j ∷ k ∷ l ∷ m ∷ n ∷ o ∷ [])),
      length-append d (concat (e ∷ f ∷ g ∷ h ∷ i ∷ j ∷ k ∷ l ∷ m ∷ n ∷ o ∷ [])),
      length-append e (concat (f ∷ g ∷ h ∷ i ∷ j ∷ k ∷ l ∷ m ∷ n ∷ o ∷ [])),
      length-append f (concat (g ∷ h ∷ i ∷ j ∷ k ∷ l ∷ m ∷ n ∷ o ∷ [])),
      length-append g (concat (h ∷ i ∷ j ∷ k ∷ l ∷ m ∷ n ∷ o ∷ [])),
      length-append h (concat (i ∷ j ∷ k ∷ l ∷ m ∷ n ∷ o ∷ [])),
      length-append i (concat (j ∷ k ∷ l ∷ m ∷ n ∷ o ∷ [])),
      length-append j (concat (k ∷ l ∷ m ∷ n ∷ o ∷ [])),
      length-append k (concat (l ∷ m ∷ n ∷ o ∷ [])),
      length-append l (concat (m ∷ n ∷ o ∷ [])),
      length-append m (concat (n ∷ o ∷ [])),
      length-append n (concat (o ∷ [])),
      length-append o (concat []),
      length-append c (concat (d ∷ e ∷ f ∷ g ∷ h ∷ i ∷ [])),
      length-append d (concat (e ∷ f ∷ g ∷ h ∷ i ∷ [])),
      length-append e (concat (f ∷ g ∷ h ∷ i ∷ [])),
      length-append f (concat (g ∷ h ∷ i ∷ [])),
      length-append g (concat (h ∷ i ∷ [])),
      length-append h (concat (i ∷ [])),
      length-append i (concat []),
    )

-- the first two and the last of seven
ends_of : (a b c d e f g : Bool) → (a && (b && (c && (d && (e && (f && g)))))) ≡ true → (a ≡ true) × (b ≡ true) × (g ≡ true)
ends_of false b c d e f g all = absurd (false≢true all)
ends_of true false c d e f g all = absurd (false≢true all)
ends_of true true false d e f g all = absurd (false≢true all)
ends_of true true true false e f g all = absurd (false≢true all)
ends_of true true true true false f g all = absurd (false≢true all)
ends_of true true true true true false g all = absurd (false≢true all)
ends_of true true true true true true g all = (refl, refl, all)

-- the text of a root at an address is no longer than the address
length-root : (url : Parts) → is_root_address url ≡ true → length (root_text (root_in url)) ≤ 1024
length-root url is =
    let facts = ends_of (bytes_eq url.scheme (codes "http")) (has_authority url) (is_empty url.username) (is_empty url.password)
    (is_none url.query) (is_none url.fragment) (nat_le (length (serialize url)) 1024) is in
    let within = facts.2 in
    let scheme = ap length ((bytes_eq-Decides url.scheme (codes "http")).0 facts.0) in
    let delimiter = ap length (cond-true (has_authority url) (codes "://") (codes ":") facts.1) in
    let all = some_of url.scheme (cond (has_authority url) (codes "://") (codes ":")) url.username (when (not (is_empty url.password)) (codes ":"))
    url.password (when (has_credentials url) (codes "@")) (host_text (host_or_empty url)) (when (is_some url.port) (codes ":"))
    (unwrap_or (option_map decimal url.port) []) (when (needs_guard url) (codes "/.")) url.path (when (is_some url.query) (codes "?"))
    (unwrap_or url.query []) (when (is_some url.fragment) (codes "#")) (unwrap_or url.fragment []) in
    let fits : length (serialize url) ≤ 1024 = grind (arith, nat_tests, within) in
    let bare = without_slashes-short url.path in
    let joined = length-append (text_between url BeforeUsername AfterPort) (without_slashes url.path) in
    omega (arith, scheme, delimiter, all, fits, bare, joined)

pub short_root : (root : Root) → IsRoot root → length (root_text root) ≤ 1024
short_root root is = subst (λ r. length (root_text r) ≤ 1024) (sym is.same) (length-root is.url is.address)

-- ---- what is read

-- a text in UTF-8 is read as `url` reads it
pub utf8_read : (text read : List ℕ) (result : Result Root RootFault) → read ≡ text → IsUtf8 text → ReadsAsRoot result (root_of (parse_url None read))
    → ReadsAsRoot result (root_reading text)
utf8_read text read result same utf8 reads =
    subst (ReadsAsRoot result) (ap (λ t. root_of (parse_url None t)) same ∙ sym (cond-true _ _ _ (is_utf8-from_IsUtf8 text utf8))) reads

-- another text names none
pub utf8_not : (text : List ℕ) → (IsUtf8 text → ⊥) → root_reading text ≡ Err BadUrl
utf8_not text not_utf8 =
    ⊎_elim
    (λ utf8. absurd (not_utf8 (IsUtf8-from_is_utf8 text utf8)))
    (λ other. cond-false _ _ _ other)
    (cases_Bool (is_utf8 text))

refused : (fault : ParseError) (wanted : Parsed Parts) → fault_of_url fault ≡ BadUrl → (wanted ≡ Err fault) ⊎ IsOutOfRoom fault
    → ReadsAsRoot (Err BadUrl) (root_of wanted)
refused fault wanted bad gives =
    ⊎_elim
    (λ same. ap root_of same)
    (λ room. ⊎_elim
    (λ memory. let wrong : NoMemory ≡ BadUrl = sym (ap fault_of_url memory) ∙ bad in absurd (cc))
    (λ long. let wrong : NoMemory ≡ BadUrl = sym (ap fault_of_url long) ∙ bad in absurd (cc))
    room)
    gives

-- a text that `url` refuses names none, unless memory ran out
pub refused_by : (fault : ParseError) (wanted : Parsed Parts) → (wanted ≡ Err fault) ⊎ IsOutOfRoom fault
    → ReadsAsRoot (Err (fault_of_url fault)) (root_of wanted)
refused_by EmptyHost wanted gives = refused EmptyHost wanted refl gives
refused_by IdnaError wanted gives = refused IdnaError wanted refl gives
refused_by InvalidPort wanted gives = refused InvalidPort wanted refl gives
refused_by InvalidIpv4Address wanted gives = refused InvalidIpv4Address wanted refl gives
refused_by InvalidIpv6Address wanted gives = refused InvalidIpv6Address wanted refl gives
refused_by InvalidDomainCharacter wanted gives = refused InvalidDomainCharacter wanted refl gives
refused_by RelativeUrlWithoutBase wanted gives = refused RelativeUrlWithoutBase wanted refl gives
refused_by RelativeUrlWithCannotBeABaseBase wanted gives = refused RelativeUrlWithCannotBeABaseBase wanted refl gives
refused_by SetHostOnCannotBeABaseUrl wanted gives = refused SetHostOnCannotBeABaseUrl wanted refl gives
refused_by Overflow wanted gives = tt
refused_by CannotSet wanted gives = refused CannotSet wanted refl gives
refused_by OutOfMemory wanted gives = tt
