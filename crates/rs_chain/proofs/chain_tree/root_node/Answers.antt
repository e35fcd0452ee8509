-- A dash is a name.
use Rattle.std.proofs.Common.{◌≡◌, ◌<◌, ℕ, zero, suc, Bool, true, cond, List, [], ◌∷◌, Some, None, is_some, get_or, arith, sym, ap, ◌∙◌}
use Rattle.std.specs.Str.{is_utf8, IsAscii}
use Rattle.std.proofs.lemmas.Str.{IsUtf8-from_ascii, is_utf8-from_IsUtf8}
use Rattle.rs_chain.proofs.chain_tree.root_node.Goals as goal

ascii : (i : ℕ) → get_or (45 ∷ []) i 0 < 128
ascii zero = omega arith
ascii (suc i) = omega arith

dash : is_utf8 (45 ∷ []) ≡ true
dash = is_utf8-from_IsUtf8 (45 ∷ []) (IsUtf8-from_ascii (45 ∷ []) ascii)

pub unwrap-name-requires : goal.unwrap-name-requires
unwrap-name-requires c =
    let name : List ℕ = 45 ∷ [] in
    ap is_some c.in_ok-read.ensures.read ∙ ap (λ (b : Bool). is_some (cond b (Some name) None)) dash
