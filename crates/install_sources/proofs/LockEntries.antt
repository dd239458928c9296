-- What is known of the packages of a lock that are to be installed.
use Rattle.std.proofs.Common.{◌≡◌, Bool, true, false, List, [], ◌∷◌, ◌++◌, map, Result, Ok, Err, sym, subst, ◌∙◌, append-nil, inl, inr, ℕ}
use Rattle.std.specs.Prelude.{IfOk, Vec}
use Rattle.std.specs.Borrow.{Bor}
use Rattle.std.specs.declared.alloc.Global.{Global}
use Rattle.std.specs.List.{AllByRecursion, IsDistinct}
use Rattle.std.proofs.lemmas.List.{map-append}
use Rattle.std.proofs.lemmas.List.Sorted.{IsPermutation-map}
use Rattle.std.proofs.lemmas.Map.Keys.{IsDistinct-IsPermutation}
use Rattle.path_name.specs.Orders.{bytes_are_equal, byte_equality}
use Rattle.tree_dev.specs.Trees.{FileTree}
use Rattle.lock_file.specs.FormedLocks.{IsLock, IsLocked}
use Rattle.lock_file.specs.InstalledText.{IsByName, installed_dev}
use Rattle.lock_file.specs.Locks.{locked_name}
use Rattle.lock_file.specs.declared.types.Lock.{Lock}
use Rattle.lock_file.specs.declared.types.Locked.{Locked}
use Rattle.lock_file.proofs.KeptPlans.{all_listed}
use Rattle.lock_file.proofs.Views.{fused, shown}
use Rattle.psr_routes.specs.declared.types.Placed.{Placed}
use Rattle.run_answers.specs.Steps.{Tells, TellsOne}
use Rattle.run_answers.specs.declared.refusal.Refusal.{Refusal}
use Rattle.install_sources.specs.Sources.{AreMembers, AreSources, IsSource, placed_each, placed_name}

all_joined : {X : Type 0} (P : X → Type 0) (xs ys : List X) → AllByRecursion P xs → AllByRecursion P ys → AllByRecursion P (xs ++ ys)
all_joined P [] ys first second = second
all_joined P (x ∷ xs) ys first second = (first.0, all_joined P xs ys first.1 second)

all_front : {X : Type 0} (P : X → Type 0) (xs ys : List X) → AllByRecursion P (xs ++ ys) → AllByRecursion P xs
all_front P [] ys all = tt
all_front P (x ∷ xs) ys all = (all.0, all_front P xs ys all.1)

distinct_front : (xs ys : List (List ℕ)) → IsDistinct bytes_are_equal (xs ++ ys) → IsDistinct bytes_are_equal xs
unfolding IsDistinct
distinct_front [] ys all = tt
distinct_front (x ∷ xs) ys all = (all_front (λ other. bytes_are_equal x other ≡ false) xs ys all.0, distinct_front xs ys all.1)

some_formed : (lock : Lock) (dev : Bool) → IsLock lock → AllByRecursion IsLocked (lock.packages ++ installed_dev dev lock)
some_formed lock true formed = all_joined IsLocked lock.packages lock.packages_dev formed.packages formed.packages_dev
some_formed lock false formed = all_joined IsLocked lock.packages [] formed.packages tt

some_distinct : (lock : Lock) (dev : Bool) → IsLock lock → IsDistinct bytes_are_equal (map locked_name (lock.packages ++ installed_dev dev lock))
some_distinct lock true formed = formed.distinct
some_distinct lock false formed =
    let all = subst (IsDistinct bytes_are_equal) (map-append locked_name lock.packages lock.packages_dev) formed.distinct in
    subst (λ packages. IsDistinct bytes_are_equal (map locked_name packages)) (sym (append-nil lock.packages)) (distinct_front (map locked_name lock.packages) (map locked_name lock.packages_dev) all)

pub entries_formed : (lock : Lock) (dev : Bool) (entries : List Locked) → IsLock lock → IsByName (lock.packages ++ installed_dev dev lock) entries → AllByRecursion IsLocked entries
entries_formed lock dev entries formed by_name = all_listed IsLocked (lock.packages ++ installed_dev dev lock) entries by_name (some_formed lock dev formed)

pub entries_distinct : (lock : Lock) (dev : Bool) (entries : List Locked) → IsLock lock → IsByName (lock.packages ++ installed_dev dev lock) entries → IsDistinct bytes_are_equal (map locked_name entries)
entries_distinct lock dev entries formed by_name =
    IsDistinct-IsPermutation bytes_are_equal byte_equality.symm (map locked_name (lock.packages ++ installed_dev dev lock)) (map locked_name entries)
    (IsPermutation-map locked_name (lock.packages ++ installed_dev dev lock) entries by_name.same) (some_distinct lock dev formed)

-- ---- the same in their places

pub members_told : (t : FileTree) (project : List (List ℕ)) (lock : Lock) (dev : Bool) (entries : List Locked) (r : Result (Vec Placed Global) Refusal) → IsByName (lock.packages ++ installed_dev dev lock) entries
    → Tells (λ members. members.items) (placed_each t project entries) r → TellsOne (λ members. members.items) (AreMembers t project lock dev) r
members_told t project lock dev entries (Ok members) by_name told = record { entries = entries; by_name = by_name; is_made = sym told }
members_told t project lock dev entries (Err refusal) by_name (inl free) = inl free
members_told t project lock dev entries (Err refusal) by_name (inr told) = inr (record { entries = entries; by_name = by_name; is_made = sym told })

pub are_sources : (project : List (List ℕ)) (lock : Lock) (dev : Bool) (entries : List (Bor Locked)) (r : Result (Vec Placed Global) Refusal) → IsLock lock → IsByName (lock.packages ++ installed_dev dev lock) (map shown entries)
    → IfOk r (λ members. AllByRecursion (IsSource project) members.items) → IfOk r (λ members. map placed_name members.items ≡ map (λ entry. locked_name entry.now) entries) → IfOk r (λ members. AreSources project members.items)
are_sources project lock dev entries (Ok members) formed by_name each names = record {
  each = each;
  distinct = subst (IsDistinct bytes_are_equal) (fused locked_name entries ∙ sym names) (entries_distinct lock dev (map shown entries) formed by_name);
}
are_sources project lock dev entries (Err refusal) formed by_name each names = tt
