use Rattle.std.proofs.Common.{rules}
use Rattle.std.proofs.lemmas.List.Sorted.{ranks_by}
use Rattle.std.proofs.lemmas.Fn.{always_returns_same}
use Rattle.std.specs.Ordering.{is_lt}
use Rattle.path_name.specs.Orders.{byte_cmp, byte_cmp_total}
use Rattle.lock_file.specs.Locks.{locked_name}
use Rattle.lock_file.proofs.plan_lock.sort_by_name.Goals as goal

pub returns : goal.returns
returns c = record {
  same = c.sort_by.ensures.permutation;
  ascending = c.in_ok-sort_by.ensures.sorted (λ one other. is_lt (byte_cmp (locked_name one) (locked_name other))) (ranks_by byte_cmp_total (λ entry. locked_name entry)) (always_returns_same _ _ _ (λ a r f' k. search rules));
}
