-- A redirect is the address that was asked for, with one fragment.
use Rattle.std.proofs.Common.{◌≡◌, ℕ, Bool, true, ◌||◌, ◌==◌, ⊎_elim, List, [], ◌∷◌, ◌++◌, Option, Some, None, is_none, Ok, All, refl, sym, ap, ◌∙◌, arith, append-nil}
use Rattle.std.specs.Prelude.{is_some, unwrap_or}
use Rattle.std.proofs.lemmas.Bool.{and_parts, cond_both}
use Rattle.std.proofs.lemmas.Bool.Decides.{nat_tests}
use Rattle.std.proofs.lemmas.List.Elements.{All-nil, All-cons, All-append, All-weaker}
use Rattle.percent_encoding.specs.Percent.{IsKept}
use Rattle.form_urlencoded.specs.Form.{is_unchanged, is_nonempty, separator, byte_serialize, serialize_pair, append_pair, extend_pairs}
use Rattle.form_urlencoded.proofs.FormLemmas.{IsSerializedByte, All-byte_serialize}
use Rattle.url.specs.declared.sets.TheConstants.{FRAGMENT}
use Rattle.url.specs.declared.slicing.Position.TheVariants.{AfterQuery}
use Rattle.url.specs.declared.scheme.SchemeType.TheVariants.{SpecialNotFile}
use Rattle.url.specs.Input.{when}
use Rattle.url.specs.Origin.{is_http}
use Rattle.url.specs.Parts.{Parts, kind_of, serialize, text_before, IsValid}
use Rattle.url.specs.Parser.{parse_url}
use Rattle.url.proofs.SetLemmas.{kept_from_passes}
use Rattle.url.proofs.RoundTrip.{fragment_text}
use Rattle.url.proofs.Theorems.{parse_url-serialize_special}
use Rattle.rs_grant.specs.Asks.{is_redirect}
use Rattle.rs_grant.specs.Redirects.{at_fragment}
use Rattle.rs_grant.proofs.AskBack.{redirect_kind}

-- ---- a fragment may hold each byte of a form

abbrev is_form_byte : ℕ → Bool
is_form_byte byte = is_unchanged byte || byte == 43 || byte == 37 || byte == 38 || byte == 61

abbrev Kept : ℕ → Type 0
Kept = IsKept FRAGMENT

kept : (byte : ℕ) → is_form_byte byte ≡ true → Kept byte
kept byte is = kept_from_passes is_form_byte FRAGMENT refl byte (grind (arith, nat_tests)) is

form_byte : (byte : ℕ) → IsSerializedByte byte → is_form_byte byte ≡ true
form_byte byte is =
    ⊎_elim (λ own. ap (λ (test : Bool). test || byte == 43 || byte == 37 || byte == 38 || byte == 61) own)
    (λ other. ⊎_elim (λ plus. ap is_form_byte plus) (λ percent. ap is_form_byte percent) other) is.allowed

kept_text : (text : List ℕ) → All Kept (byte_serialize text)
kept_text text = All-weaker IsSerializedByte Kept (λ byte is. kept byte (form_byte byte is)) (byte_serialize text) (All-byte_serialize text)

kept_pair : (pair : List ℕ × List ℕ) → All Kept (serialize_pair pair)
kept_pair pair =
    All-append Kept (byte_serialize pair.0 ++ 61 ∷ []) (byte_serialize pair.1)
    (All-append Kept (byte_serialize pair.0) (61 ∷ []) (kept_text pair.0) (All-cons Kept 61 [] (kept 61 refl) (All-nil Kept))) (kept_text pair.1)

kept_separator : (form : List ℕ) → All Kept (separator form)
kept_separator form =
    cond_both (is_nonempty form) (38 ∷ []) [] (All Kept) (λ some. All-cons Kept 38 [] (kept 38 refl) (All-nil Kept)) (λ none. All-nil Kept)

kept_fields : (form : List ℕ) (fields : List (List ℕ × List ℕ)) → All Kept form → All Kept (extend_pairs form fields)
kept_fields form [] all = all
kept_fields form (field ∷ fields) all =
    kept_fields (append_pair form field.0 field.1) fields
    (All-append Kept (form ++ separator form) (serialize_pair field) (All-append Kept form (separator form) all (kept_separator form)) (kept_pair field))

-- ---- the address

abbrev with_fragment : Parts → List ℕ → Parts
with_fragment url fragment = record url { fragment = Some fragment }

-- what a fragment adds to a text
abbrev ending : List ℕ → Option (List ℕ) → List ℕ
ending front fragment = front ++ (when (is_some fragment) (35 ∷ []) ++ (unwrap_or fragment [] ++ []))

address_text : (url : Parts) (fragment : List ℕ) → url.fragment ≡ None → serialize (with_fragment url fragment) ≡ serialize url ++ 35 ∷ fragment
address_text url fragment none =
    let front = text_before url AfterQuery in
    let plain : serialize url ≡ front = fragment_text url ∙ ap (ending front) none ∙ append-nil front in
    fragment_text (with_fragment url fragment) ∙ ap (λ xs. front ++ 35 ∷ xs) (append-nil fragment) ∙ ap (λ xs. xs ++ 35 ∷ fragment) (sym plain)

address_valid : (url : Parts) (fragment : List ℕ) → IsValid url → All Kept fragment → IsValid (with_fragment url fragment)
address_valid url fragment valid all = record {
  head = record {
    scheme = valid.head.scheme;
    username = valid.head.username;
    password = valid.head.password;
    host = valid.head.host;
    port = valid.head.port;
    bare = valid.head.bare;
  };
  path = valid.path;
  query = valid.query;
  fragment = all;
}

none_by : (o : Option (List ℕ)) → is_none o ≡ true → o ≡ None
none_by None is = refl
none_by (Some text) is = absurd (cc)

pub address_back : (url : Parts) (fields : List (List ℕ × List ℕ)) → IsValid url → is_redirect url ≡ true
    → parse_url None (serialize url ++ 35 ∷ extend_pairs [] fields) ≡ Ok (at_fragment url fields)
address_back url fields valid is =
    let fragment = extend_pairs [] fields in
    let none = none_by url.fragment (and_parts (is_http url.scheme) (is_none url.fragment) is).1 in
    let kind : kind_of (with_fragment url fragment) ≡ SpecialNotFile = redirect_kind url is in
    ap (parse_url None) (sym (address_text url fragment none))
    ∙ parse_url-serialize_special (with_fragment url fragment) None (address_valid url fragment valid (kept_fields [] fields (All-nil Kept))) kind
