use Rattle.std.proofs.Common.{◌≡◌, drop}
use Rattle.lock_file.specs.LockPools.{candidates_of}
use Rattle.lock_file.proofs.Candidates.{gathered}
use Rattle.lock_file.proofs.lock_pool.candidates_of.Given as goal

abbrev pub invariant-loop-locked : goal.invariant-loop-locked
invariant-loop-locked l = candidates_of l.project l.some ≡ gathered l.project l.candidates.items (drop l.locked-index l.some)
