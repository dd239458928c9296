use Rattle.std.proofs.Common.{◌≡◌, map}
use Rattle.json_ordered.specs.Docs.{pair_of}
use Rattle.manifest_read.specs.Values.{each}
use Rattle.lock_file.specs.Locks.{platform_link_at}
use Rattle.manifest_read.proofs.Gathering.{gathered, rest}
use Rattle.lock_file.proofs.rows.platform_rows.Given as goal

abbrev pub invariant-loop-pair : goal.invariant-loop-pair
invariant-loop-pair l = each (platform_link_at l.at) (map pair_of l.pairs) ≡ gathered (platform_link_at l.at) l.rows.items (rest pair_of l.pairs l.pair-index)
