use Rattle.rs_rules.proofs.PointLaws.{folder_version-le, note-greatest}
use Rattle.rs_rules.proofs.LawfulLaws.{versions-lawful}
use Rattle.rs_rules.proofs.SoundLaws.{ver-le}
use Rattle.rs_rules.proofs.laws.version_bounds.Goals as goal

pub returns : goal.returns
returns c = record {
  most = ver-le;
  folder_most = folder_version-le;
  greatest = λ h folder base. note-greatest folder h.base.cut (h.base.versions folder) h.entries (base.small folder);
  base = versions-lawful;
}
