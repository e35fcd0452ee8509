use Rattle.rs_path.proofs.RoundTrips.{target_reading-target_text}
use Rattle.rs_path.proofs.TextLemmas.{target_bytes}
use Rattle.rs_path.proofs.path.Path.write_target.Goals as goal

pub returns-in_err-text-clause-back : goal.returns-in_err-text-clause-back
returns-in_err-text-clause-back c = rw (← c.self.view_is) (target_reading-target_text _ c.self.invariant.path)

pub returns-in_err-extend_from_slice-clause-back : goal.returns-in_err-extend_from_slice-clause-back
returns-in_err-extend_from_slice-clause-back c = rw (← c.self.view_is) (target_reading-target_text _ c.self.invariant.path)

pub returns-clause-back : goal.returns-clause-back
returns-clause-back c = rw (← c.self.view_is) (target_reading-target_text _ c.self.invariant.path)

pub returns-in_err-text-clause-bytes : goal.returns-in_err-text-clause-bytes
returns-in_err-text-clause-bytes c = rw (← c.self.view_is) (target_bytes (record { names = c.self.inside.names.items; folder = c.self.inside.folder }) c.self.invariant.path)

pub returns-in_err-extend_from_slice-clause-bytes : goal.returns-in_err-extend_from_slice-clause-bytes
returns-in_err-extend_from_slice-clause-bytes c = rw (← c.self.view_is) (target_bytes (record { names = c.self.inside.names.items; folder = c.self.inside.folder }) c.self.invariant.path)

pub returns-clause-bytes : goal.returns-clause-bytes
returns-clause-bytes c = rw (← c.self.view_is) (target_bytes (record { names = c.self.inside.names.items; folder = c.self.inside.folder }) c.self.invariant.path)
