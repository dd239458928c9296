use Rattle.std.proofs.Common.{◌≡◌, length}
use Rattle.version_norm.specs.Pieces.{following_at}
use Rattle.version_norm.proofs.Sequences.{with_front}
use Rattle.version_norm.proofs.pieces.read_following.Given as goal

abbrev pub invariant-loop-rest : goal.invariant-loop-rest
invariant-loop-rest l = with_front l.numbers.items (following_at l.rest) ≡ following_at l.text

abbrev pub decreases-loop-rest : goal.decreases-loop-rest
decreases-loop-rest l = length l.rest
