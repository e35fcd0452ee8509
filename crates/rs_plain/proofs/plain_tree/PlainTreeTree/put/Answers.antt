use Rattle.std.proofs.Common.{◌≡◌, ◌+◌, ◌^◌, ◌<◌, length, sym, subst, ◌∙◌}
use Rattle.rs_rules.specs.Documents.{live_in}
use Rattle.rs_plain.proofs.WriteLemmas.{put_stands, put_room}
use Rattle.rs_plain.proofs.plain_tree.PlainTreeTree.put.Goals as goal

pub returns : goal.returns
returns c = record {
  put = λ w path kind body writer s r.
      let docs = c.args.self.now.docs.items in
      let writes = c.args.self.now.writes.items in
      let fits = c.requires.fits in
      let same : fits.3 ≡ body = sym fits.5.body ∙ r.body in
      let room : live_in docs + length body < 2 ^ 64 =
      subst (λ b. live_in docs + length b < 2 ^ 64) same (put_room docs writes fits.0 fits.3 fits.4.0 fits.9) in (
        rw (c.put_in.ensures.docs, c.put_in.ensures.writes, r.path, r.kind, r.body)
            (put_stands docs writes w c.args.n path kind body writer s.0 room),
        c.put_in.ensures.whole,
      );
}
