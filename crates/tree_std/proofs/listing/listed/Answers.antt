use Rattle.std.proofs.Common.{rules}
use Rattle.std.proofs.lemmas.List.Filters.{dedup_is}
use Rattle.std.proofs.lemmas.List.Kept.{IsStrictlySortedBy-dedup}
use Rattle.path_name.specs.Orders.{byte_cmp_total, byte_ties, bytes_are_equal}
use Rattle.tree_std.proofs.listing.listed.Goals as goal

pub returns-clause-names : goal.returns-clause-names
returns-clause-names c = record {
  segments = search rules;
  ascending = rw (c.of.ensures, dedup_is bytes_are_equal _ _ c.dedup.ensures.filtered) (IsStrictlySortedBy-dedup byte_cmp_total byte_ties _ c.sort_unstable.ensures.sorted);
}
