use Rattle.std.proofs.Common.{◌≡◌, map}
use Rattle.json_ordered.specs.Docs.{pair_of}
use Rattle.manifest_read.specs.Values.{each}
use Rattle.manifest_read.specs.Links.{link_at}
use Rattle.manifest_read.proofs.Gathering.{gathered, rest}
use Rattle.manifest_read.proofs.links.links_at.Given as goal

abbrev pub invariant-loop-pair : goal.invariant-loop-pair
invariant-loop-pair l = each (link_at l.own l.at) (map (λ pair. pair_of pair.now) l.pairs) ≡ gathered (link_at l.own l.at) l.links.items (rest (λ pair. pair_of pair.now) l.pairs l.pair-index)
