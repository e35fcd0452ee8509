use Rattle.rs_rules.proofs.LiveLaws.{live-absent, live-present}
use Rattle.rs_rules.proofs.laws.live_laws.Goals as goal

pub returns : goal.returns
returns c = record { absent = live-absent; present = live-present }
