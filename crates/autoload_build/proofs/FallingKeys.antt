-- Items by their keys, the greatest key first.
use Rattle.std.proofs.Common.{◌≡◌, ℕ, Bool, List, sym, ◌∙◌}
use Rattle.std.specs.Cmp.{IsTotalOrder, IsStrictWeakOrder, alike_right}
use Rattle.std.specs.List.Sorted.{IsSortedBy, IsStableBy}
use Rattle.std.specs.Ordering.{is_lt, eq_by_cmp}
use Rattle.std.proofs.lemmas.List.Sorted.{ranks_by}
use Rattle.path_name.specs.Orders.{byte_cmp, byte_cmp_total, byte_ties, byte_equality, bytes_are_equal}
use Rattle.autoload_build.specs.Jobs.{falls, falling, by_falling_key}
use Rattle.autoload_build.proofs.KeyGroups.{sorted_in_groups}

pub falls_total : IsTotalOrder falls
falls_total = record {
  antisymm = λ x y. byte_cmp_total.antisymm y x;
  trans = λ x y z p q. byte_cmp_total.trans z y x q p;
  congr = λ x y z p. sym (alike_right byte_cmp_total y x z p);
}

pub tied : (one other : List ℕ) → eq_by_cmp falls one other ≡ bytes_are_equal one other
tied one other = sym (byte_ties other one) ∙ byte_equality.symm other one

module _ {X : Type 0} (key : X → List ℕ) where
  abbrev pub greater_first : X → X → Bool
  greater_first one other = is_lt (byte_cmp (key other) (key one))

  pub ranks_falling : IsStrictWeakOrder greater_first
  ranks_falling = ranks_by falls_total key

  -- A stable sort gives them.
  pub sorted_by_falling : (xs ys : List X) → IsSortedBy greater_first ys → IsStableBy greater_first xs ys → ys ≡ by_falling_key key xs
  unfolding falling
  sorted_by_falling xs ys sorted stable = sorted_in_groups falls falls_total tied key xs ys sorted stable
