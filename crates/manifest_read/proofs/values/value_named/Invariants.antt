use Rattle.std.proofs.Common.{◌≡◌, map, drop}
use Rattle.json_ordered.specs.Docs.{pair_of}
use Rattle.json_ordered.specs.JsonNames.{value_of}
use Rattle.manifest_read.proofs.values.value_named.Given as goal

abbrev pub invariant-loop-pair : goal.invariant-loop-pair
invariant-loop-pair l = value_of (map pair_of (drop l.pair-index l.pairs)) l.name ≡ value_of (map pair_of l.pairs) l.name
