use Rattle.std.proofs.Common.{rules}
use Rattle.std.specs.Borrow.{Bor}
use Rattle.std.specs.Prelude.{List, ℕ}
use Rattle.std.specs.Ordering.{is_lt}
use Rattle.std.proofs.lemmas.List.Sorted.{IsPartitionPoint-from_clause}
use Rattle.path_name.specs.Orders.{byte_cmp}
use Rattle.psr_routes.specs.Numbers.{lent}
use Rattle.psr_routes.proofs.NameNumbers.{partitioned, lent_point, point_is_number}
use Rattle.psr_routes.proofs.needs.number_in.Goals as goal

pub returns-clause-point : goal.returns-clause-point
returns-clause-point c =
    let names = c.args.names.now in
    let name = c.args.name.now in
    let point = IsPartitionPoint-from_clause (λ (b : Bor (List ℕ)). is_lt (byte_cmp b.now name)) names c.partition_point.result c.partition_point.ensures.partitioned (partitioned names name c.requires) (λ a r q k. search rules) in
    lent_point names name c.partition_point.result c.partition_point.ensures.bound point.0 point.1

pub returns-clause-exact : goal.returns-clause-exact
returns-clause-exact c =
    let names = c.args.names.now in
    let name = c.args.name.now in
    let point = IsPartitionPoint-from_clause (λ (b : Bor (List ℕ)). is_lt (byte_cmp b.now name)) names c.partition_point.result c.partition_point.ensures.partitioned (partitioned names name c.requires) (λ a r q k. search rules) in
    point_is_number (lent names) name c.partition_point.result (lent_point names name c.partition_point.result c.partition_point.ensures.bound point.0 point.1)
