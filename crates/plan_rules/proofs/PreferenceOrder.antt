-- Preference is a strict total order on candidates.
use Rattle.std.proofs.Common.{◌≡◌, ℕ, Bool, true, false, Option, Some, None, refl, ap, ◌∙◌, inl, inr}
use Rattle.std.specs.Prelude.{◌⊎◌}
use Rattle.std.specs.Cmp.{IsTotalOrder}
use Rattle.std.specs.Ordering.{nat_cmp, ordering_then, ordering_reverse, is_lt}
use Rattle.std.specs.declared.cmp.Ordering.{Ordering}
use Rattle.std.specs.declared.cmp.Ordering.TheVariants.{Less, Equal, Greater}
use Rattle.std.proofs.lemmas.Cmp.{then_total, on_total, nat_cmp_total}
use Rattle.std.proofs.lemmas.Map.Lookups.{exact_unsigned}
use Rattle.path_name.specs.Orders.{byte_cmp_total}
use Rattle.manifest_read.specs.declared.types.Link.{Link}
use Rattle.manifest_read.specs.declared.types.Package.{Package}
use Rattle.pkg_pool.specs.declared.pool.Pool.{Pool}
use Rattle.plan_rules.specs.Preference.{way_of, stability_place, package_order, order_at, package_at, preference}
use Rattle.plan_rules.specs.VersionOrder.{versions_total}

packages_total : (prefer_stable : Bool) (link : Link) → IsTotalOrder (package_order prefer_stable link)
packages_total prefer_stable link = then_total (on_total (way_of link) nat_cmp_total)
    (then_total (on_total (stability_place prefer_stable) nat_cmp_total) (then_total (on_total (λ party. party.version) versions_total) (on_total (λ party. party.name) byte_cmp_total)))

module _ (prefer_stable : Bool) (link : Link) where
  options_antisymm : (a b : Option Package) → order_at prefer_stable link a b ≡ ordering_reverse (order_at prefer_stable link b a)
  options_antisymm (Some a) (Some b) = (packages_total prefer_stable link).antisymm a b
  options_antisymm (Some a) None = refl
  options_antisymm None (Some b) = refl
  options_antisymm None None = refl

  options_trans : (a b c : Option Package) → order_at prefer_stable link a b ≡ Less → order_at prefer_stable link b c ≡ Less → order_at prefer_stable link a c ≡ Less
  options_trans (Some a) (Some b) (Some c) e f = (packages_total prefer_stable link).trans a b c e f
  options_trans (Some a) b None e f = refl
  options_trans (Some a) None (Some c) e f = absurd cc
  options_trans None (Some b) c e f = absurd cc
  options_trans None None c e f = absurd cc

  options_congr : (a b c : Option Package) → order_at prefer_stable link a b ≡ Equal → order_at prefer_stable link a c ≡ order_at prefer_stable link b c
  options_congr (Some a) (Some b) (Some c) e = (packages_total prefer_stable link).congr a b c e
  options_congr (Some a) (Some b) None e = refl
  options_congr (Some a) None c e = absurd cc
  options_congr None (Some b) c e = absurd cc
  options_congr None None c e = refl

  options_total : IsTotalOrder (order_at prefer_stable link)
  options_total = record { antisymm = options_antisymm; trans = options_trans; congr = options_congr }

pub preference_total : (pool : Pool) (link : Link) → IsTotalOrder (preference pool link)
unfolding preference
preference_total pool link = then_total (on_total (package_at pool) (options_total pool.root.prefer_stable link)) nat_cmp_total

then_equal : (first second : Ordering) → ordering_then first second ≡ Equal → second ≡ Equal
then_equal Less second e = absurd cc
then_equal Equal second e = e
then_equal Greater second e = absurd cc

-- candidates that compare alike are one
pub preference_exact : (pool : Pool) (link : Link) (a b : ℕ) → preference pool link a b ≡ Equal → a ≡ b
unfolding preference
preference_exact pool link a b e = exact_unsigned a b (then_equal (order_at pool.root.prefer_stable link (package_at pool a) (package_at pool b)) (nat_cmp a b) e)

-- one of two is preferred, or they are one
pub one_preferred : (pool : Pool) (link : Link) (a b : ℕ) → (is_lt (preference pool link a b) ≡ true) ⊎ ((a ≡ b) ⊎ (is_lt (preference pool link b a) ≡ true))
one_preferred pool link a b = by (preference pool link a b) refl
  where
    by : (o : Ordering) → preference pool link a b ≡ o → (is_lt (preference pool link a b) ≡ true) ⊎ ((a ≡ b) ⊎ (is_lt (preference pool link b a) ≡ true))
    by Less e = inl (ap is_lt e)
    by Equal e = inr (inl (preference_exact pool link a b e))
    by Greater e = inr (inr (ap is_lt ((preference_total pool link).antisymm b a ∙ ap ordering_reverse e)))

is_less : (o : Ordering) → is_lt o ≡ true → o ≡ Less
is_less Less e = refl
is_less Equal e = absurd cc
is_less Greater e = absurd cc

pub preferred_on : (pool : Pool) (link : Link) (a b c : ℕ) → is_lt (preference pool link a b) ≡ true → is_lt (preference pool link b c) ≡ true → is_lt (preference pool link a c) ≡ true
preferred_on pool link a b c e f = ap is_lt ((preference_total pool link).trans a b c (is_less (preference pool link a b) e) (is_less (preference pool link b c) f))

not_less_reversed : (o : Ordering) → o ≡ ordering_reverse o → is_lt o ≡ false
not_less_reversed Less e = absurd cc
not_less_reversed Equal e = refl
not_less_reversed Greater e = refl

pub not_preferred_itself : (pool : Pool) (link : Link) (a : ℕ) → is_lt (preference pool link a a) ≡ false
not_preferred_itself pool link a = not_less_reversed (preference pool link a a) ((preference_total pool link).antisymm a a)
