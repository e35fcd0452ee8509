use Rattle.std.specs.Map.{keys_of}
use Rattle.std.specs.Range.Bound.{bound_map}
use Rattle.rs_cache.proofs.ScanLemmas.{IsScanning}
use Rattle.rs_cache.proofs.client.Client.first_base.Given as goal

abbrev pub invariant-loop-path : goal.invariant-loop-path
invariant-loop-path l = IsScanning l.self l.folder (bound_map (λ p. p.now) l.start) (keys_of l.self.base) (keys_of l.path-iterator)
