use Rattle.std.proofs.Common.{ℕ, List, ◌+◌, ◌-◌, ◌≤◌, ◌∙◌, take, drop, length, arith, ap, subst, rules}
use Rattle.std.proofs.lemmas.List.{length-drop}
use Rattle.std.specs.Io.KnownBytes.{Appends}
use Rattle.rs_face.proofs.Cited.{Keeps-trans, StaysTold-trans}
use Rattle.rs_stream.proofs.HeldLemmas.{handed_from, told_with, all_sent}
use Rattle.rs_stream.proofs.held_sink.HeldSink.send.Goals as goal

pub sending-preserved : goal.sending-preserved
sending-preserved g c =
    let inv = c.sending.invariant in
    let bytes = c.sending.self-inside.bytes.items in
    let sent = c.sending.self-inside.sent in
    record {
      within =
          let most = c.in_ok-count.ensures.bound in
          let rest = ap (λ (l : List ℕ). length l) c.from.ensures.rest in
          let left = length-drop sent c.as_slice.result.now in
          let same = ap (λ (l : List ℕ). length l) c.as_slice.ensures.value in
          let before = inv.within in
          omega (arith, most, rest, left, same, before);
      keeps = Keeps-trans _ _ _ inv.keeps (handed_from _ _ bytes sent c.in_ok-count.count
          (subst (λ (l : List ℕ). Appends (g.W.Sink.written c.sending.self-inside.sink) (g.W.Sink.written c.write.new.self) (take c.in_ok-count.count l))
          (c.from.ensures.rest ∙ ap (drop sent) c.as_slice.ensures.value) c.in_ok-count.ensures.bytes));
      told = StaysTold-trans _ _ _ inv.told (told_with _ _ (drop sent bytes) (drop (sent + c.in_ok-count.count) bytes) c.in_ok-count.ensures.told);
      quiet = c.in_ok-count.ensures.quiet ∙ inv.quiet;
      content = c.in_ok-count.ensures.content ∙ inv.content;
    }

pub returns-clause-keeps : goal.returns-clause-keeps
returns-clause-keeps g c =
    all_sent _ _ c.sending.self-inside.bytes.items _ c.sending.self-inside.sent c.sending.invariant.keeps
    (let past = c.sending-test.false in let len = c.len.ensures in omega (arith, past, len)) (search rules)
