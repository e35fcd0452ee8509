use Rattle.rs_plain.proofs.WriteLemmas.{remove_stands, remove_written}
use Rattle.rs_plain.proofs.plain_tree.PlainTreeTree.remove.Goals as goal

-- src/plain_tree.rt:82:9
pub remove_in-requires-clause-written : goal.remove_in-requires-clause-written
remove_in-requires-clause-written c =
    let fits = c.requires.fits in
    remove_written c.args.path.now c.args.self.now.docs.items c.args.self.now.writes.items fits.0 fits.1.0 fits.2

-- src/plain_tree.rt:80:5
pub returns : goal.returns
returns c = record {
  removed = λ w writer s. (
    rw (c.remove_in.ensures.docs, c.remove_in.ensures.writes)
        (remove_stands c.args.self.now.docs.items c.args.self.now.writes.items w c.args.n c.args.path.now writer s.0),
    c.remove_in.ensures.whole,
  );
}
