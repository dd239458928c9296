use Rattle.std.proofs.Common.{◌≡◌, ◌+◌, ◌++◌, length}
use Rattle.std.specs.Option.{option_map_or}
use Rattle.path_name.specs.Joined.{segments_of}
use Rattle.path_name.proofs.Parts.{segments_left}
use Rattle.path_name.proofs.joined.segments.Given as goal

abbrev pub invariant-loop-rest : goal.invariant-loop-rest
invariant-loop-rest l = l.names.items ++ segments_left l.rest ≡ segments_of l.joined

abbrev pub decreases-loop-rest : goal.decreases-loop-rest
decreases-loop-rest l = option_map_or (λ left. length left.now + 1) l.rest 0
