-- The climb from the path's node.
use Rattle.std.proofs.Common.{◌≡◌, ◌≤◌, ℕ, ◌+◌, List, [], length, Option, Some, arith, sym, ap, ◌∙◌}
use Rattle.rs_path.specs.Paths.{Path, is_path}
use Rattle.rs_chain.specs.Walks.{key_at}
use Rattle.rs_chain.proofs.ShownLemmas.{path_placed}
use Rattle.rs_chain.proofs.FlagLemmas.{key_flag}
use Rattle.rs_chain.proofs.UpLemmas.{up_from}
use Rattle.rs_chain.proofs.TreeLemmas.{path_few}
use Rattle.rs_chain.proofs.NumberLemmas.{numbered_listed, numbered_key, numbered_all}
use Rattle.rs_chain.proofs.chain_tree.ChainTree.bump.Goals as goal

pub climb-requires-clause-way : goal.climb-requires-clause-way
climb-requires-clause-way g c =
    let s = c.args.self.now.nodes in
    let root : ℕ = c.args.self.now.root in
    let listed = c.args.self.now.listed in
    let stands = c.requires.stands.1 in
    let node = c.requires.node in
    let placed = path_placed node.0 node.1 in
    let up = up_from s root node.0 c.args.node listed placed node.2 in
    let count = up.count in
    let few = path_few node.0 node.1 in
    (stands.order, up.up, stands.linked, up.climbs, omega (arith, count, few))

pub climb-requires-clause-there : goal.climb-requires-clause-there
climb-requires-clause-there g c =
    let node = c.requires.node in
    (key_flag c.args.self.now.nodes c.args.self.now.root c.args.self.now.listed node.0 c.args.node (path_placed node.0 node.1) node.2).0

pub invariant_of-self : goal.invariant_of-self
invariant_of-self g c =
    let s = c.args.self.now.nodes in
    let root : ℕ = c.args.self.now.root in
    let listed = c.args.self.now.listed in
    let stands = c.requires.stands.1 in
    let node = c.requires.node in
    let placed = path_placed node.0 node.1 in
    let up = up_from s root node.0 c.args.node listed placed node.2 in
    let climbed = c.climb.ensures.climbed stands.order up.up stands.linked up.climbs in
    record { listed = numbered_listed s c.climb.new.nodes root c.args.n node.0 c.args.node listed placed node.2 climbed.numbers climbed.same }

pub returns-clause-steps : goal.returns-clause-steps
returns-clause-steps g c path is there =
    let s = c.args.self.now.nodes in
    let root : ℕ = c.args.self.now.root in
    let listed = c.args.self.now.listed in
    let stands = c.requires.stands.1 in
    let own = up_from s root path c.args.node listed (path_placed path is) there in
    let given = c.climb.ensures.climbed stands.order own.up stands.linked own.climbs in
    let taken = given.steps in
    let count = own.count in
    omega (arith, taken, count)

pub returns-clause-numbers : goal.returns-clause-numbers
returns-clause-numbers g c path q key is is_q there found =
    let s = c.args.self.now.nodes in
    let root : ℕ = c.args.self.now.root in
    let listed = c.args.self.now.listed in
    let stands = c.requires.stands.1 in
    let own = up_from s root path c.args.node listed (path_placed path is) there in
    let given = c.climb.ensures.climbed stands.order own.up stands.linked own.climbs in
    numbered_all s c.climb.new.nodes root c.args.n path c.args.node listed (path_placed path is) there given.numbers given.same q key (path_placed q is_q) found

pub returns-clause-paths : goal.returns-clause-paths
returns-clause-paths g c q =
    let s = c.args.self.now.nodes in
    let root : ℕ = c.args.self.now.root in
    let listed = c.args.self.now.listed in
    let stands = c.requires.stands.1 in
    let node = c.requires.node in
    let placed = path_placed node.0 node.1 in
    let up = up_from s root node.0 c.args.node listed placed node.2 in
    let climbed = c.climb.ensures.climbed stands.order up.up stands.linked up.climbs in
    numbered_key s c.climb.new.nodes root c.args.n node.0 c.args.node listed placed node.2 climbed.numbers climbed.same q

pub returns-clause-rest : goal.returns-clause-rest
returns-clause-rest g c =
    let s = c.args.self.now.nodes in
    let root : ℕ = c.args.self.now.root in
    let listed = c.args.self.now.listed in
    let stands = c.requires.stands.1 in
    let node = c.requires.node in
    let placed = path_placed node.0 node.1 in
    let up = up_from s root node.0 c.args.node listed placed node.2 in
    let climbed = c.climb.ensures.climbed stands.order up.up stands.linked up.climbs in
    climbed.same
