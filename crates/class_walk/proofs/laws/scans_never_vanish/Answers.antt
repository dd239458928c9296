use Rattle.class_walk.proofs.NeverVanishes.{scan_stands}
use Rattle.class_walk.proofs.laws.scans_never_vanish.Goals as goal

pub returns : goal.returns
returns c = scan_stands
