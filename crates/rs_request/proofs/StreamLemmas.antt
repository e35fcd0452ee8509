-- Requests that are written one after another are read back so.
use Rattle.std.proofs.Common.{◌≡◌, ℕ, suc, ◌+◌, List, [], ◌∷◌, ◌++◌, length, refl, subst, arith}
use Rattle.std.specs.Prelude.{All}
use Rattle.std.specs.List.{flat_map}
use Rattle.std.proofs.lemmas.List.{append_assoc, length-append}
use Rattle.rs_request.specs.declared.message.RequestMessage.{RequestMessage}
use Rattle.rs_request.specs.Division.{Divides}
use Rattle.rs_request.specs.Writing.{request_text, IsWritable}
use Rattle.rs_request.specs.Laws.{placed_from}
use Rattle.rs_request.specs.Taken.{SpellsAll}
use Rattle.rs_request.proofs.WrittenLemmas.{written_is_spelled}
use Rattle.rs_request.proofs.TakenLemmas.{spelled_is_divided}

written_are_spelled : (ms : List RequestMessage) (place : ℕ) (after : List ℕ) → All IsWritable ms
    → SpellsAll place (flat_map request_text ms ++ after) (placed_from place ms) (place + length (flat_map request_text ms)) after
written_are_spelled [] place after all = (omega arith, refl)
written_are_spelled (m ∷ ms) place after all =
    let text = request_text m in
    let later = flat_map request_text ms in
    let next = place + length text in
    let end : next + length later ≡ place + length (text ++ later) = omega (arith, length-append text later) in
    let again = written_are_spelled ms next after (λ k d below. all (suc k) d (omega arith)) in (
      text,
      later ++ after,
      append_assoc text later after,
      written_is_spelled place m (all 0 m (omega arith)),
      subst (λ (k : ℕ). SpellsAll next (later ++ after) (placed_from next ms) k after) end again,
    )

pub written_are_read : (ms : List RequestMessage) (place : ℕ) (after : List ℕ) → All IsWritable ms
    → Divides place (flat_map request_text ms ++ after) (placed_from place ms) (place + length (flat_map request_text ms)) after
written_are_read ms place after all =
    spelled_is_divided (placed_from place ms) place (flat_map request_text ms ++ after) (place + length (flat_map request_text ms)) after
    (written_are_spelled ms place after all)
