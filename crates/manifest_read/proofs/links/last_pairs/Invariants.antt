use Rattle.std.proofs.Common.{◌≡◌, ℕ, List, None, map, drop}
use Rattle.std.specs.Option.{option_map}
use Rattle.std.specs.BTreeMap.{get}
use Rattle.path_name.specs.Orders.{byte_cmp}
use Rattle.json_ordered.specs.Docs.{pair_of}
use Rattle.manifest_read.specs.Links.{last_named}
use Rattle.manifest_read.proofs.links.last_pairs.Given as goal

abbrev pub invariant-loop-pair : goal.invariant-loop-pair
invariant-loop-pair l = (name : List ℕ) →
    last_named (option_map (λ pair. pair_of pair.now) (get byte_cmp l.last name)) name (map pair_of (drop l.pair-index l.pairs)) ≡ last_named None name (map pair_of l.pairs)
