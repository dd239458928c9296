use Rattle.std.proofs.Common.{◌≡◌, length}
use Rattle.install_world.specs.Reading.{IsRead}
use Rattle.install_world.proofs.ReadJournal.{IsSoFar}
use Rattle.install_world.proofs.reading.read_targets.Given as goal

abbrev pub invariant-lines : goal.invariant-lines
invariant-lines l = record {
  version : l.reader.version ≡ l.fn.version;
  is_read : IsRead l.reader.version l.reader.targets.items l.reader.paths;
  far : IsSoFar l.reader.version l.reader.targets.items l.text l.rest;
}

abbrev pub decreases-lines : goal.decreases-lines
decreases-lines l = length l.rest
