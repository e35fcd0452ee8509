-- Content types and tags are ASCII, and so they are UTF-8.
use Rattle.std.proofs.Common.{◌≡◌, ℕ, ◌<◌, Bool, true, not, ◌&&◌, ◌==◌, nat_le, List, [], ◌∷◌, All, IsUtf8, arith}
use Rattle.std.specs.List.{list_all}
use Rattle.std.proofs.lemmas.Bool.{and_parts}
use Rattle.std.proofs.lemmas.Bool.Decides.{nat_tests}
use Rattle.std.proofs.lemmas.List.Elements.{All-nil, All-cons}
use Rattle.std.proofs.lemmas.Str.{IsUtf8-from_ascii}
use Rattle.std.proofs.lemmas.Str.Ascii.{IsAscii-from_all}
use Rattle.rs_path.specs.Kinds.{is_printable, is_bare, is_kind}
use Rattle.rs_path.specs.Tags.{has_no_quote, is_tag}

-- bytes that pass a test of ASCII bytes
All-ascii : (test : ℕ → Bool) → ((byte : ℕ) → test byte ≡ true → byte < 128) → (bytes : List ℕ) → list_all test bytes ≡ true → All (λ byte. byte < 128) bytes
All-ascii test ascii [] all = All-nil (λ byte. byte < 128)
All-ascii test ascii (byte ∷ bytes) all =
    let parts = and_parts (test byte) (list_all test bytes) all in
    All-cons (λ byte. byte < 128) byte bytes (ascii byte parts.0) (All-ascii test ascii bytes parts.1)

printable_ascii : (byte : ℕ) → (nat_le 0x20 byte && nat_le byte 0x7E) ≡ true → byte < 128
printable_ascii byte pass = grind (arith, nat_tests)

tag_ascii : (byte : ℕ) → (nat_le 0x21 byte && nat_le byte 0x7E && not (byte == 0x22)) ≡ true → byte < 128
tag_ascii byte pass = grind (arith, nat_tests)

pub kind_text : (kind : List ℕ) → is_kind kind ≡ true → IsUtf8 kind
kind_text kind is =
    let outer = and_parts _ (is_bare kind) is in
    let inner = and_parts _ (is_printable kind) outer.0 in
    IsUtf8-from_ascii kind (IsAscii-from_all kind (All-ascii (λ byte. nat_le 0x20 byte && nat_le byte 0x7E) printable_ascii kind inner.1))

pub tag_text : (tag : List ℕ) → is_tag tag ≡ true → IsUtf8 tag
tag_text tag is =
    let outer = and_parts _ (has_no_quote tag) is in
    IsUtf8-from_ascii tag (IsAscii-from_all tag (All-ascii (λ byte. nat_le 0x21 byte && nat_le byte 0x7E && not (byte == 0x22)) tag_ascii tag outer.1))
