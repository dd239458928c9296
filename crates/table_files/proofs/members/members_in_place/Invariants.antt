use Rattle.std.proofs.Common.{◌≡◌, map}
use Rattle.table_files.specs.Members.{in_place}
use Rattle.table_files.proofs.members.members_in_place.Given as goal

abbrev pub invariant-loop-party : goal.invariant-loop-party
invariant-loop-party l = l.members.items ≡ map (in_place l.project) l.yielded
