use Rattle.std.proofs.Common.{◌≡◌, min, length, ℕ, ◌+◌, ◌-◌, ◌<◌, ◌≤◌, List, [], ◌++◌, take, drop, arith, sym, ap, ◌∙◌, drop_of_length-le, take-append-drop}
use Rattle.std.proofs.lemmas.List.{take_all, take-append-le, drop-drop, length-take-le, length-drop, length-append}
use Rattle.rs_face.proofs.no_fail_source.NoFailSourceSource.read.Goals as goal

-- the first bytes from `at` on, copied into the front of the room
given : (bytes room : List ℕ) (at count : ℕ) → at ≤ length bytes → count ≡ min (length room) (length bytes - at)
    → (drop at bytes ≡ take count (take (at + count - at) (drop at bytes) ++ drop count room) ++ drop (at + count) bytes)
    × (count ≡ 0 → 0 < length (take (at + count - at) (drop at bytes) ++ drop count room) → drop (at + count) bytes ≡ [])
given bytes room at count within is =
    let same : at + count - at ≡ count = omega arith in
    let front = take count (drop at bytes) in
    let long : length front ≡ count = length-take-le count (drop at bytes) (omega (arith, length-drop at bytes)) in
    let copied : take count (front ++ drop count room) ≡ front = take-append-le count front (drop count room) (omega (arith, long)) ∙ take_all count front (omega (arith, long)) in (
      rw (same, copied, ← drop-drop count at bytes) (sym (take-append-drop count (drop at bytes))),
      λ none some. drop_of_length-le bytes (omega (arith, length-append (take (at + count - at) (drop at bytes)) (drop count room), ap length (ap (λ n. take n (drop at bytes)) same), long, length-drop count room)),
    )

pub returns-clause-bytes : goal.returns-clause-bytes
returns-clause-bytes c =
    let long = ap length c.deref.ensures.value in
    rw (c.copy_from_slice.ensures.after, c.deref.ensures.value, ← c.self.view_is)
    (given c.self.inside.bytes.items c.args.room.now c.self.inside.at c.min-count.result (omega (arith, long)) (omega (arith, long)))
