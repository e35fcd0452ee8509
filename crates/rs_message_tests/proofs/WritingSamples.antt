-- Messages that the writers take, computed from the definitions alone.
use Rattle.std.proofs.Common.{◌≡◌, ◌<◌, ℕ, false, List, [], ◌∷◌, map, refl, sym, subst, arith, leb-true, true≢false}
use Rattle.std.specs.Prelude.{codes}
use Rattle.std.proofs.lemmas.List.Elements.{All-nil, All-cons}
use Rattle.std.proofs.lemmas.Str.{IsUtf8-from_ascii}
use Rattle.std.proofs.lemmas.Str.Ascii.{IsAscii-from_all}
use Rattle.httparse.specs.Grammar.{is_uri_byte, is_token_byte, trim_ows, print_request}
use Rattle.rs_request.specs.declared.field.Field.{Field}
use Rattle.rs_request.specs.declared.message.RequestMessage.{RequestMessage}
use Rattle.rs_reply.specs.declared.message.ReplyMessage.{ReplyMessage}
use Rattle.rs_request.specs.Limits.{max_fields, max_head}
use Rattle.rs_request.specs.Framing.{stated, is_chunked, has_two_lengths, has_bad_length, is_length, same_length, head_framing, has_its_host, request_framing, ends_connection}
use Rattle.rs_request.specs.Names.{same_name}
use Rattle.rs_request.specs.Items.{lists}
use Rattle.rs_request.specs.Writing.{line_for, IsWritable}
use Rattle.rs_reply.specs.Writing.{IsWritableReply}
use Rattle.rs_request.proofs.Cited.{IsToken-from_test, AllPass-from_test, IsField-from_tests}

abbrev pub named : List ℕ → List ℕ → Field
named name value = record { name = name; value = value }

-- the fields of a request to the host `h`
abbrev pub host_h : List Field
host_h = named (codes "Host") (codes "h") ∷ []

abbrev get_root : ℕ → RequestMessage
get_root place = record { method = codes "GET"; target = codes "/"; minor = 1; fields = host_h; body = []; close = false; place = place }

get_root_holds : (place : ℕ) → IsWritable (get_root place)
unfolding is_token_byte trim_ows print_request head_framing has_its_host request_framing stated is_chunked has_two_lengths has_bad_length is_length same_length same_name ends_connection lists
get_root_holds place = record {
  minor = refl;
  head = record {
    method = IsToken-from_test (codes "GET") refl;
    target = (omega arith, AllPass-from_test is_uri_byte (codes "/") refl);
    target_text = IsUtf8-from_ascii (codes "/") (IsAscii-from_all (codes "/") (All-cons (λ b. b < 128) 47 [] (omega arith) (All-nil (λ b. b < 128))));
    minor = omega arith;
    fields = IsField-from_tests (map line_for host_h) refl;
  };
  trimmed = All-cons (λ f. trim_ows f.value ≡ f.value) _ [] refl (All-nil (λ f. trim_ows f.value ≡ f.value));
  few = leb-true 1 max_fields refl;
  framed = refl;
  close = refl;
  short = leb-true _ max_head refl;
}

-- the GET of `/` at the host `h`
pub get_root_is_writable : (m : RequestMessage) → m.method ≡ codes "GET" → m.target ≡ codes "/" → m.minor ≡ 1 → m.fields ≡ host_h → m.body ≡ [] → m.close ≡ false
    → IsWritable m
get_root_is_writable m method target minor fields body close =
    let same : get_root m.place ≡ m = λ i. record {
      method = sym method i;
      target = sym target i;
      minor = sym minor i;
      fields = sym fields i;
      body = sym body i;
      close = sym close i;
      place = m.place;
    } in
    subst IsWritable same (get_root_holds m.place)

-- ---- replies

abbrev pub origin : Field
origin = named (codes "Access-Control-Allow-Origin") (codes "*")

abbrev pub exposed : Field
exposed = named (codes "Access-Control-Expose-Headers") (codes "ETag, Content-Type, Content-Length")

abbrev pub tag : Field
tag = named (codes "ETag") (34 ∷ 50 ∷ 34 ∷ [])

abbrev pub cached : Field
cached = named (codes "Cache-Control") (codes "no-cache")

abbrev pub kind : Field
kind = named (codes "Content-Type") (codes "text/plain")

abbrev pub sized : Field
sized = named (codes "Content-Length") (codes "5")

-- the fields of a document's reply
abbrev pub found_fields : List Field
found_fields = origin ∷ exposed ∷ tag ∷ cached ∷ kind ∷ sized ∷ []

abbrev found : ReplyMessage
found = record { status = 200; fields = found_fields; body = codes "hello" }

abbrev IsTrimmed : Field → Type 0
IsTrimmed f = trim_ows f.value ≡ f.value

found_holds : IsWritableReply false found
unfolding is_token_byte trim_ows stated is_chunked has_two_lengths has_bad_length is_length same_length same_name
found_holds = record {
  phrase = leb-true 1 2 refl;
  valid = IsField-from_tests (map line_for found_fields) refl;
  trimmed = All-cons IsTrimmed origin (exposed ∷ tag ∷ cached ∷ kind ∷ sized ∷ []) refl
      (All-cons IsTrimmed exposed (tag ∷ cached ∷ kind ∷ sized ∷ []) refl (All-cons IsTrimmed tag (cached ∷ kind ∷ sized ∷ []) refl
      (All-cons IsTrimmed cached (kind ∷ sized ∷ []) refl (All-cons IsTrimmed kind (sized ∷ []) refl (All-cons IsTrimmed sized [] refl (All-nil IsTrimmed))))));
  uncoded = refl;
  framing = refl;
  empty = λ none. absurd (true≢false (sym none));
  framed = λ _. refl;
}

-- a document `hello` of version 2
pub found_is_writable : (m : ReplyMessage) → m.status ≡ 200 → m.fields ≡ found_fields → m.body ≡ codes "hello" → IsWritableReply false m
found_is_writable m status fields body =
    let same : found ≡ m = λ i. record { status = sym status i; fields = sym fields i; body = sym body i } in
    subst (IsWritableReply false) same found_holds
