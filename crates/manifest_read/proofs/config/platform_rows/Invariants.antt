use Rattle.std.proofs.Common.{◌≡◌, map}
use Rattle.json_ordered.specs.Docs.{pair_of}
use Rattle.manifest_read.specs.Values.{each}
use Rattle.manifest_read.specs.Settings.{platform_row_at}
use Rattle.manifest_read.proofs.Gathering.{gathered, rest}
use Rattle.manifest_read.proofs.config.platform_rows.Given as goal

abbrev pub invariant-loop-pair : goal.invariant-loop-pair
invariant-loop-pair l = each (platform_row_at l.at) (map pair_of l.pairs) ≡ gathered (platform_row_at l.at) l.rows.items (rest pair_of l.pairs l.pair-index)
