use Rattle.std.proofs.Common.{rules}
use Rattle.std.proofs.lemmas.List.Sorted.{ranks_by, IsPermutation-map}
use Rattle.std.proofs.lemmas.Fn.{always_returns_same}
use Rattle.std.specs.Ordering.{is_lt}
use Rattle.path_name.specs.Orders.{byte_cmp, byte_cmp_total}
use Rattle.lock_file.specs.Locks.{locked_name}
use Rattle.lock_file.proofs.Views.{sorted_map, shown}
use Rattle.install_sources.proofs.sources.sort_by_name.Goals as goal

pub returns : goal.returns
returns c = record {
  same = IsPermutation-map shown c.args.entries.now.items c.sort_by.new.self.items c.sort_by.ensures.permutation;
  ascending = sorted_map shown (λ one other. is_lt (byte_cmp (locked_name one) (locked_name other))) c.sort_by.new.self.items
      (c.in_ok-sort_by.ensures.sorted (λ one other. is_lt (byte_cmp (locked_name one.now) (locked_name other.now))) (ranks_by byte_cmp_total (λ entry. locked_name entry.now))
      (always_returns_same _ _ _ (λ a r f' k. search rules)));
}
