use Rattle.std.proofs.Common.{◌≡◌, ℕ, List, ◌++◌, None, map, take, drop, cond}
use Rattle.std.specs.List.{list_any}
use Rattle.std.specs.Option.{option_map}
use Rattle.std.specs.BTreeMap.{get}
use Rattle.path_name.specs.Bytes.{lowered}
use Rattle.path_name.specs.Orders.{byte_cmp, bytes_are_equal}
use Rattle.json_ordered.specs.Docs.{pair_of}
use Rattle.manifest_read.specs.Links.{last_named, kept_behind, kept}
use Rattle.manifest_read.proofs.links.kept_pairs.Given as goal

abbrev pub invariant-loop-pair : goal.invariant-loop-pair
invariant-loop-pair l = record {
  left : (name : List ℕ) → option_map (λ pair. pair_of pair.now) (get byte_cmp l.last name)
      ≡ cond (list_any (λ p. bytes_are_equal name (lowered p.0)) (map pair_of (take l.pair-index l.pairs))) None (last_named None name (map pair_of l.pairs));
  so_far : map (λ pair. pair_of pair.now) l.some.items ++ kept_behind (map pair_of (take l.pair-index l.pairs)) (map pair_of (drop l.pair-index l.pairs)) ≡ kept (map pair_of l.pairs);
}
