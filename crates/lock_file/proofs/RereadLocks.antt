-- A lock is read again as it was.
use Rattle.std.proofs.Common.{◌≡◌, ℕ, ◌+◌, Bool, true, false, cond, ◌||◌, List, [], ◌∷◌, ◌++◌, map, Some, Ok, Err, refl, ap, subst, ◌∙◌}
use Rattle.std.specs.List.{AllByRecursion, IsDistinct, enumerate_from}
use Rattle.std.specs.Option.{ok_or}
use Rattle.std.proofs.lemmas.List.{map-append}
use Rattle.std.proofs.lemmas.List.Folds.{list_any-append}
use Rattle.path_name.specs.Decimals.{decimal_text}
use Rattle.path_name.specs.Orders.{bytes_are_equal, byte_equality}
use Rattle.json_ordered.specs.JsonTree.{Number, String}
use Rattle.version_norm.specs.declared.version.Grade.{Grade}
use Rattle.version_norm.specs.declared.version.Grade.TheVariants as grades
use Rattle.manifest_read.specs.declared.fault.FieldFault.TheVariants.{BadField}
use Rattle.manifest_read.specs.declared.key.Key.{Key}
use Rattle.manifest_read.specs.declared.key.Key.TheVariants as keys
use Rattle.manifest_read.specs.Keys.{Pairs, key_text, value_at}
use Rattle.manifest_read.specs.Pointers.{below, at_key, at_item}
use Rattle.manifest_read.specs.Values.{text_at, boolean_at, list_at, object_at, if_there}
use Rattle.manifest_read.specs.Settings.{grade_named, grade_at, minimum_of, boolean_of}
use Rattle.lock_file.specs.declared.types.Locked.{Locked}
use Rattle.lock_file.specs.declared.types.PlatformLink.{PlatformLink}
use Rattle.lock_file.specs.declared.types.FlagRow.{FlagRow}
use Rattle.lock_file.specs.declared.types.Lock.{Lock}
use Rattle.lock_file.specs.declared.lists.Lists.{Lists}
use Rattle.lock_file.specs.Entries.{is_among, entry_behind, entries_behind, entries_in, entries_of}
use Rattle.lock_file.specs.PackageTrees.{locked_tree}
use Rattle.lock_file.specs.LockText.{grade_text, flag_pair, flags_tree, platform_pair, platform_tree, packages_tree, front_pairs, back_pairs, lock_tree}
use Rattle.lock_file.specs.Locks.{locked_at, locked_name, lists_of, content_hash_of, no_aliases_at, no_aliases_of, rank_at, flag_at, flags_in, flags_of, platform_link_at, platform_links_in, platform_links_of, lock_from, lock_fields_of}
use Rattle.lock_file.specs.Rereading.{IsExactLocked, IsRanked, IsExactLock}
use Rattle.lock_file.proofs.RereadParts.{bound, each_again, list_again, object_again}
use Rattle.lock_file.proofs.RereadPackages.{locked_again}

-- ---- packages

abbrev AreNew : List (List ℕ) → List Locked → Type 0
AreNew before ys = AllByRecursion (λ y. is_among (locked_name y) before ≡ false) ys

neither : (a b : Bool) → a ≡ false → b ≡ false → a || (b || false) ≡ false
neither true b e f = e
neither false b e f = ap (λ t. t || false) f

new_more : (before : List (List ℕ)) (name : List ℕ) (ys : List Locked) → AreNew before ys → AllByRecursion (λ other. bytes_are_equal name other ≡ false) (map locked_name ys) → AreNew (before ++ name ∷ []) ys
new_more before name [] new apart = tt
new_more before name (y ∷ ys) new apart = (
  list_any-append (bytes_are_equal (locked_name y)) before (name ∷ [])
      ∙ neither (is_among (locked_name y) before) (bytes_are_equal (locked_name y) name) new.0 (byte_equality.symm (locked_name y) name ∙ apart.0),
  new_more before name ys new.1 apart.1,
)

behind_again : (before : List (List ℕ)) (at : List ℕ) (k : ℕ) (ys : List Locked) → AllByRecursion IsExactLocked ys → AreNew before ys → IsDistinct bytes_are_equal (map locked_name ys)
    → entries_behind locked_at locked_name before at (enumerate_from k (map locked_tree ys)) ≡ Ok ys
unfolding entries_behind entry_behind IsDistinct
behind_again before at k [] exact new distinct = refl
behind_again before at k (y ∷ ys) exact new distinct =
    bound (entry_behind locked_at locked_name before (at_item at k) (locked_tree y)) y _ (y ∷ ys)
    (bound (locked_at (at_item at k) (locked_tree y)) y _ y (locked_again (at_item at k) y exact.0) (ap (λ b. cond b (Err (BadField (at_item at k))) (Ok y)) new.0))
    (bound (entries_behind locked_at locked_name (before ++ locked_name y ∷ []) at (enumerate_from (k + 1) (map locked_tree ys))) ys _ (y ∷ ys)
    (behind_again (before ++ locked_name y ∷ []) at (k + 1) ys exact.1 (new_more before (locked_name y) ys new.1 distinct.0) distinct.1) refl)

entries_again : (before : List (List ℕ)) (pointer : List ℕ) (ys : List Locked) → AllByRecursion IsExactLocked ys → AreNew before ys → IsDistinct bytes_are_equal (map locked_name ys)
    → entries_in locked_at locked_name before pointer (packages_tree ys) ≡ Ok ys
unfolding entries_in
entries_again before pointer ys exact new distinct =
    bound (list_at pointer (packages_tree ys)) (map locked_tree ys) _ ys (list_again pointer (map locked_tree ys)) (behind_again before pointer 0 ys exact new distinct)

-- two lists whose names are distinct together

all_left : {X : Type 0} (P : X → Type 0) (xs ys : List X) → AllByRecursion P (xs ++ ys) → AllByRecursion P xs
all_left P [] ys all = tt
all_left P (x ∷ xs) ys all = (all.0, all_left P xs ys all.1)

all_right : {X : Type 0} (P : X → Type 0) (xs ys : List X) → AllByRecursion P (xs ++ ys) → AllByRecursion P ys
all_right P [] ys all = all
all_right P (x ∷ xs) ys all = all_right P xs ys all.1

distinct_left : (xs ys : List (List ℕ)) → IsDistinct bytes_are_equal (xs ++ ys) → IsDistinct bytes_are_equal xs
unfolding IsDistinct
distinct_left [] ys distinct = tt
distinct_left (x ∷ xs) ys distinct = (all_left (λ other. bytes_are_equal x other ≡ false) xs ys distinct.0, distinct_left xs ys distinct.1)

distinct_right : (xs ys : List (List ℕ)) → IsDistinct bytes_are_equal (xs ++ ys) → IsDistinct bytes_are_equal ys
unfolding IsDistinct
distinct_right [] ys distinct = distinct
distinct_right (x ∷ xs) ys distinct = distinct_right xs ys distinct.1

one_new : (name : List ℕ) (xs : List (List ℕ)) (ys : List Locked) → AreNew xs ys → AllByRecursion (λ other. bytes_are_equal name other ≡ false) (map locked_name ys) → AreNew (name ∷ xs) ys
one_new name xs [] new apart = tt
one_new name xs (y ∷ ys) new apart = (either (bytes_are_equal (locked_name y) name) (is_among (locked_name y) xs) (byte_equality.symm (locked_name y) name ∙ apart.0) new.0, one_new name xs ys new.1 apart.1)
  where
    either : (a b : Bool) → a ≡ false → b ≡ false → a || b ≡ false
    either true b e f = e
    either false b e f = f

all_new : (xs : List (List ℕ)) (ys : List Locked) → IsDistinct bytes_are_equal (xs ++ map locked_name ys) → AreNew xs ys
unfolding IsDistinct
all_new [] ys distinct = nothing ys
  where
    nothing : (zs : List Locked) → AreNew [] zs
    nothing [] = tt
    nothing (z ∷ zs) = (refl, nothing zs)
all_new (x ∷ xs) ys distinct = one_new x xs ys (all_new xs ys distinct.1) (all_right (λ other. bytes_are_equal x other ≡ false) xs (map locked_name ys) distinct.0)

-- ---- rows

flag_again : (at : List ℕ) (row : FlagRow) → IsRanked row → flag_at at (flag_pair row) ≡ Ok row
unfolding flag_at rank_at
flag_again at row ranked =
    bound (rank_at (below at row.name) (Number (decimal_text row.rank))) row.rank _ row (ap (λ o. ok_or o (BadField (below at row.name))) ranked) refl

flags_again : (pointer : List ℕ) (rows : List FlagRow) → AllByRecursion IsRanked rows → flags_in pointer (flags_tree rows) ≡ Ok rows
unfolding flags_in
flags_again pointer rows ranked =
    bound (object_at pointer (flags_tree rows)) (map flag_pair rows) _ rows (object_again pointer (map flag_pair rows)) (each_again (flag_at pointer) flag_pair IsRanked (flag_again pointer) rows ranked)

link_again : (at : List ℕ) (link : PlatformLink) → platform_link_at at (platform_pair link) ≡ Ok link
unfolding platform_link_at text_at
link_again at link = refl

links_again : (pointer : List ℕ) (links : List PlatformLink) → platform_links_in pointer (platform_tree links) ≡ Ok links
unfolding platform_links_in
links_again pointer links =
    bound (object_at pointer (platform_tree links)) (map platform_pair links) _ links (object_again pointer (map platform_pair links))
    (each_again (platform_link_at pointer) platform_pair (λ link. Unit {0}) (λ link known. link_again pointer link) links (nothing links))
  where
    nothing : (zs : List PlatformLink) → AllByRecursion (λ link. Unit {0}) zs
    nothing [] = tt
    nothing (z ∷ zs) = (tt, nothing zs)

grade_again : (at : List ℕ) (grade : Grade) → grade_at at (String (grade_text grade)) ≡ Ok grade
unfolding grade_at text_at grade_named grade_text
grade_again at grades.Stable = refl
grade_again at grades.Rc = refl
grade_again at grades.Beta = refl
grade_again at grades.Alpha = refl
grade_again at grades.Dev = refl

-- ---- the lock

module _ (lock : Lock) where
  abbrev pairs : Pairs
  pairs = front_pairs lock ++ back_pairs lock

  hash_read : (at : List ℕ) → content_hash_of at pairs ≡ Ok lock.content_hash
  unfolding content_hash_of value_at key_text front_pairs back_pairs text_at
  hash_read at = refl

  packages_there : value_at pairs keys.Packages ≡ Some (packages_tree lock.packages)
  unfolding value_at key_text front_pairs back_pairs
  packages_there = refl

  packages_dev_there : value_at pairs keys.PackagesDev ≡ Some (packages_tree lock.packages_dev)
  unfolding value_at key_text front_pairs back_pairs
  packages_dev_there = refl

  list_read : (before : List (List ℕ)) (at : List ℕ) (key : Key) (ys : List Locked) → value_at pairs key ≡ Some (packages_tree ys) → AllByRecursion IsExactLocked ys → AreNew before ys
      → IsDistinct bytes_are_equal (map locked_name ys) → entries_of locked_at locked_name before at pairs key ≡ Ok ys
  unfolding entries_of
  list_read before at key ys there exact new distinct =
      ap (λ o. if_there o (Err (BadField (at_key at key))) (entries_in locked_at locked_name before (at_key at key))) there ∙ entries_again before (at_key at key) ys exact new distinct

  lists_read : (at : List ℕ) → IsExactLock lock → lists_of at pairs ≡ Ok (record { packages = lock.packages; packages_dev = lock.packages_dev })
  unfolding lists_of
  lists_read at is =
      let all : Lists = record { packages = lock.packages; packages_dev = lock.packages_dev } in
      let names = map locked_name lock.packages in
      let distinct : IsDistinct bytes_are_equal (names ++ map locked_name lock.packages_dev) = subst (IsDistinct bytes_are_equal) (map-append locked_name lock.packages lock.packages_dev) is.distinct in
      bound (entries_of locked_at locked_name [] at pairs keys.Packages) lock.packages _ all
      (list_read [] at keys.Packages lock.packages packages_there is.packages (all_new [] lock.packages (distinct_left names (map locked_name lock.packages_dev) distinct)) (distinct_left names (map locked_name lock.packages_dev) distinct))
      (bound (entries_of locked_at locked_name names at pairs keys.PackagesDev) lock.packages_dev _ all
      (list_read names at keys.PackagesDev lock.packages_dev packages_dev_there is.packages_dev (all_new names lock.packages_dev distinct) (distinct_right names (map locked_name lock.packages_dev) distinct)) refl)

  aliases_read : (at : List ℕ) → no_aliases_of at pairs ≡ Ok tt
  unfolding no_aliases_of value_at key_text front_pairs back_pairs no_aliases_at list_at
  aliases_read at = refl

  minimum_read : (at : List ℕ) → minimum_of at pairs ≡ Ok lock.minimum
  unfolding minimum_of value_at key_text front_pairs back_pairs
  minimum_read at = grade_again (at_key at keys.MinimumStability) lock.minimum

  flags_read : (at : List ℕ) → AllByRecursion IsRanked lock.flags → flags_of at pairs ≡ Ok lock.flags
  unfolding flags_of value_at key_text front_pairs back_pairs
  flags_read at ranked = flags_again (at_key at keys.StabilityFlags) lock.flags ranked

  stable_read : (at : List ℕ) → boolean_of at pairs keys.PreferStable ≡ Ok lock.prefer_stable
  unfolding boolean_of value_at key_text front_pairs back_pairs boolean_at
  stable_read at = refl

  platform_read : (at : List ℕ) → platform_links_of at pairs keys.Platform ≡ Ok lock.platform
  unfolding platform_links_of value_at key_text front_pairs back_pairs
  platform_read at = links_again (at_key at keys.Platform) lock.platform

  platform_dev_read : (at : List ℕ) → platform_links_of at pairs keys.PlatformDev ≡ Ok lock.platform_dev
  unfolding platform_links_of value_at key_text front_pairs back_pairs
  platform_dev_read at = links_again (at_key at keys.PlatformDev) lock.platform_dev

  from_again : (at : List ℕ) → IsExactLock lock → lock_from at pairs ≡ Ok lock
  unfolding lock_from
  from_again at is =
      bound (content_hash_of at pairs) lock.content_hash _ lock (hash_read at)
      (bound (lists_of at pairs) (record { packages = lock.packages; packages_dev = lock.packages_dev }) _ lock (lists_read at is)
      (bound (no_aliases_of at pairs) tt _ lock (aliases_read at)
      (bound (minimum_of at pairs) lock.minimum _ lock (minimum_read at)
      (bound (flags_of at pairs) lock.flags _ lock (flags_read at is.flags)
      (bound (boolean_of at pairs keys.PreferStable) lock.prefer_stable _ lock (stable_read at)
      (bound (platform_links_of at pairs keys.Platform) lock.platform _ lock (platform_read at)
      (bound (platform_links_of at pairs keys.PlatformDev) lock.platform_dev _ lock (platform_dev_read at) refl)))))))

-- what a lock is written as says that lock
pub lock_again : (lock : Lock) → IsExactLock lock → lock_fields_of (lock_tree lock) ≡ Ok lock
unfolding lock_fields_of lock_tree
lock_again lock is = bound (object_at [] (lock_tree lock)) (front_pairs lock ++ back_pairs lock) _ lock (object_again [] (front_pairs lock ++ back_pairs lock)) (from_again lock [] is)
