-- Room alone changes.
use Rattle.rs_chain.proofs.StandLemmas.{room_listed, room_stands}
use Rattle.rs_chain.proofs.chain_tree.ChainTreeTree.prepare.Goals as goal

pub invariant_of-self : goal.invariant_of-self
invariant_of-self c = record { listed = room_listed c.args.self.now.nodes c.of.new.nodes c.of.ensures.same c.args.self.now.root c.args.self.now.listed }

pub returns-clause-same : goal.returns-clause-same
returns-clause-same c w stands = room_stands c.args.self.now.nodes c.of.new.nodes c.of.ensures.same c.args.self.now.root c.args.self.now.live w stands
