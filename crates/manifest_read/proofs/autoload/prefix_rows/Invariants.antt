use Rattle.std.proofs.Common.{◌≡◌, map}
use Rattle.json_ordered.specs.Docs.{pair_of}
use Rattle.manifest_read.specs.Values.{each}
use Rattle.manifest_read.specs.Autoloads.{prefix_dirs_at}
use Rattle.manifest_read.proofs.Gathering.{gathered, rest}
use Rattle.manifest_read.proofs.autoload.prefix_rows.Given as goal

abbrev pub invariant-loop-pair : goal.invariant-loop-pair
invariant-loop-pair l = each (prefix_dirs_at l.standard l.role l.at) (map pair_of l.pairs) ≡ gathered (prefix_dirs_at l.standard l.role l.at) l.rows.items (rest pair_of l.pairs l.pair-index)
