-- What is read is well-formed, and its names are distinct.
use Rattle.std.proofs.Common.{◌≡◌, ℕ, Bool, true, false, cond, ◌||◌, List, [], ◌∷◌, ◌++◌, map, Option, Some, None, Result, Ok, Err, refl, sym, ap, subst, ◌∙◌}
use Rattle.std.proofs.lemmas.List.{map-append}
use Rattle.std.proofs.lemmas.List.Folds.{list_any-append}
use Rattle.std.specs.List.{AllByRecursion, IsDistinct, enumerate_from}
use Rattle.path_name.specs.Given.{◌>>=◌}
use Rattle.path_name.specs.Orders.{bytes_are_equal, byte_equality}
use Rattle.json_ordered.specs.JsonTree.{JsonTree}
use Rattle.manifest_read.specs.declared.fault.FieldFault.{FieldFault}
use Rattle.manifest_read.specs.declared.fault.FieldFault.TheVariants.{BadField}
use Rattle.manifest_read.specs.declared.key.Key.{Key}
use Rattle.manifest_read.specs.declared.key.Key.TheVariants as keys
use Rattle.manifest_read.specs.Keys.{Pairs, value_at}
use Rattle.manifest_read.specs.Pointers.{at_key, at_item}
use Rattle.manifest_read.specs.Values.{list_at, object_at, if_there}
use Rattle.manifest_read.specs.Autoloads.{texts_of}
use Rattle.manifest_read.specs.Settings.{minimum_of, boolean_of}
use Rattle.manifest_read.specs.Packages.{package_head_of, package_entry_of}
use Rattle.manifest_read.specs.WellFormed.{IsMember}
use Rattle.manifest_read.proofs.Formed.{entries_are_formed}
use Rattle.lock_file.specs.declared.types.Locked.{Locked}
use Rattle.lock_file.specs.declared.types.Lock.{Lock}
use Rattle.lock_file.specs.declared.types.Installed.{Installed}
use Rattle.lock_file.specs.declared.lists.Lists.{Lists}
use Rattle.lock_file.specs.Entries.{is_among, entry_behind, entries_behind, entries_in, entries_of}
use Rattle.lock_file.specs.Locks.{dist_of, locked_at, locked_name, lists_of, content_hash_of, no_aliases_of, flags_of, platform_links_of, lock_from}
use Rattle.lock_file.specs.InstalledPackages.{package_name, installed_from}
use Rattle.lock_file.specs.FormedLocks.{IsLocked, IsLock, IsInstalled}

-- ---- steps that may refuse

both : {X Y : Type 0} (r : Result X FieldFault) (next : X → Result Y FieldFault) (y : Y) → r >>= next ≡ Ok y → (x : X) × (r ≡ Ok x) × (next x ≡ Ok y)
both (Ok x) next y e = (x, refl, e)
both (Err fault) next y e = absurd cc

abbrev Answers : {X : Type 0} → Result X FieldFault → X → Type 0
Answers r x = r ≡ Ok x

same_value : {X : Type 0} (x y : X) → Answers (Ok x) y → x ≡ y
same_value x y e = cc

barred : {X : Type 0} (b : Bool) (x y : X) (fault : FieldFault) → cond b (Err fault) (Ok x) ≡ Ok y → (b ≡ false) × (x ≡ y)
barred true x y fault e = absurd cc
barred false x y fault e = (refl, cc)

-- ---- names

neither : (a b : Bool) → a || (b || false) ≡ false → (a ≡ false) × (b ≡ false)
neither true b e = absurd cc
neither false true e = absurd cc
neither false false e = (refl, refl)

-- a name that is new behind one more name is another than it
new_behind : (before : List (List ℕ)) (last name : List ℕ) → is_among name (before ++ last ∷ []) ≡ false → (is_among name before ≡ false) × (bytes_are_equal last name ≡ false)
new_behind before last name e =
    let n = neither (is_among name before) (bytes_are_equal name last) (sym (list_any-append (bytes_are_equal name) before (last ∷ [])) ∙ e) in
    (n.0, byte_equality.symm last name ∙ n.1)

-- each of a list is new behind some names
abbrev AreNew : {Y : Type 0} → (Y → List ℕ) → List (List ℕ) → List Y → Type 0
AreNew name before ys = AllByRecursion (λ y. is_among (name y) before ≡ false) ys

new_to_all : {Y : Type 0} (name : Y → List ℕ) (before : List (List ℕ)) (last : List ℕ) (ys : List Y) → AreNew name (before ++ last ∷ []) ys → AreNew name before ys
new_to_all name before last [] all = tt
new_to_all name before last (y ∷ ys) all = ((new_behind before last (name y) all.0).0, new_to_all name before last ys all.1)

new_to_last : {Y : Type 0} (name : Y → List ℕ) (before : List (List ℕ)) (last : List ℕ) (ys : List Y) → AreNew name (before ++ last ∷ []) ys
    → AllByRecursion (λ other. bytes_are_equal last other ≡ false) (map name ys)
new_to_last name before last [] all = tt
new_to_last name before last (y ∷ ys) all = ((new_behind before last (name y) all.0).1, new_to_last name before last ys all.1)

-- ---- entries

record Fresh {Y : Type 0} (name : Y → List ℕ) (P : Y → Type 0) (before : List (List ℕ)) (ys : List Y) : Type 0 where
  each : AllByRecursion P ys
  new : AreNew name before ys
  distinct : IsDistinct bytes_are_equal (map name ys)

none_fresh : {Y : Type 0} (name : Y → List ℕ) (P : Y → Type 0) (before : List (List ℕ)) (ys : List Y) → Answers (Ok []) ys → Fresh name P before ys
unfolding IsDistinct
none_fresh name P before [] e = record { each = tt; new = tt; distinct = tt }
none_fresh name P before (y ∷ ys) e = absurd cc

one_fresh : {Y : Type 0} (name : Y → List ℕ) (P : Y → Type 0) (before : List (List ℕ)) (y : Y) (ys : List Y) → P y → is_among (name y) before ≡ false → Fresh name P (before ++ name y ∷ []) ys → Fresh name P before (y ∷ ys)
unfolding IsDistinct
one_fresh name P before y ys p new more = record {
  each = (p, more.each);
  new = (new, new_to_all name before (name y) ys more.new);
  distinct = (new_to_last name before (name y) ys more.new, more.distinct);
}

module _ {Y : Type 0} (read : List ℕ → JsonTree → Result Y FieldFault) (name : Y → List ℕ) (P : Y → Type 0) (formed : (pointer : List ℕ) (v : JsonTree) (y : Y) → read pointer v ≡ Ok y → P y) where
  entry_formed : (before : List (List ℕ)) (pointer : List ℕ) (v : JsonTree) (y : Y) → entry_behind read name before pointer v ≡ Ok y → P y × (is_among (name y) before ≡ false)
  unfolding entry_behind
  entry_formed before pointer v y e =
      let a = both (read pointer v) _ y e in
      let b = barred (is_among (name a.0) before) a.0 y (BadField pointer) a.2 in
      subst (λ z. P z × (is_among (name z) before ≡ false)) b.1 (formed pointer v a.0 a.1, b.0)

  behind_formed : (before : List (List ℕ)) (at : List ℕ) (ns : List (ℕ × JsonTree)) (ys : List Y) → entries_behind read name before at ns ≡ Ok ys → Fresh name P before ys
  unfolding entries_behind
  behind_formed before at [] ys e = none_fresh name P before ys e
  behind_formed before at (n ∷ ns) ys e =
      let first = both (entry_behind read name before (at_item at n.0) n.1) _ ys e in
      let more = both (entries_behind read name (before ++ name first.0 ∷ []) at ns) _ ys first.2 in
      let one = entry_formed before (at_item at n.0) n.1 first.0 first.1 in
      subst (Fresh name P before) (same_value (first.0 ∷ more.0) ys more.2)
      (one_fresh name P before first.0 more.0 one.0 one.1 (behind_formed (before ++ name first.0 ∷ []) at ns more.0 more.1))

  in_formed : (before : List (List ℕ)) (pointer : List ℕ) (v : JsonTree) (ys : List Y) → entries_in read name before pointer v ≡ Ok ys → Fresh name P before ys
  unfolding entries_in
  in_formed before pointer v ys e = let a = both (list_at pointer v) _ ys e in behind_formed before pointer (enumerate_from 0 a.0) ys a.2

  from_value : (before : List (List ℕ)) (pointer : List ℕ) (found : Option JsonTree) (ys : List Y) → if_there found (Err (BadField pointer)) (entries_in read name before pointer) ≡ Ok ys → Fresh name P before ys
  from_value before pointer None ys e = absurd cc
  from_value before pointer (Some v) ys e = in_formed before pointer v ys e

  of_formed : (before : List (List ℕ)) (at : List ℕ) (pairs : Pairs) (key : Key) (ys : List Y) → entries_of read name before at pairs key ≡ Ok ys → Fresh name P before ys
  unfolding entries_of
  of_formed before at pairs key ys e = from_value before (at_key at key) (value_at pairs key) ys e

-- ---- two lists behind one another

all_joined : {X : Type 0} (P : X → Type 0) (xs ys : List X) → AllByRecursion P xs → AllByRecursion P ys → AllByRecursion P (xs ++ ys)
all_joined P [] ys all more = more
all_joined P (x ∷ xs) ys all more = (all.0, all_joined P xs ys all.1 more)

other_first : {Y : Type 0} (name : Y → List ℕ) (first : List ℕ) (rest : List (List ℕ)) (ys : List Y) → AreNew name (first ∷ rest) ys → AllByRecursion (λ other. bytes_are_equal first other ≡ false) (map name ys) × AreNew name rest ys
other_first name first rest [] all = (tt, tt)
other_first name first rest (y ∷ ys) all =
    let n = neither_of (bytes_are_equal (name y) first) (is_among (name y) rest) all.0 in
    let more = other_first name first rest ys all.1 in
    ((byte_equality.symm first (name y) ∙ n.0, more.0), (n.1, more.1))
  where
    neither_of : (a b : Bool) → a || b ≡ false → (a ≡ false) × (b ≡ false)
    neither_of true b e = absurd cc
    neither_of false b e = (refl, e)

distinct_joined : {Y : Type 0} (name : Y → List ℕ) (xs ys : List Y) → IsDistinct bytes_are_equal (map name xs) → IsDistinct bytes_are_equal (map name ys) → AreNew name (map name xs) ys
    → IsDistinct bytes_are_equal (map name (xs ++ ys))
unfolding IsDistinct
distinct_joined name [] ys one other new = other
distinct_joined name (x ∷ xs) ys one other new =
    let split = other_first name (name x) (map name xs) ys new in (
      subst (AllByRecursion (λ z. bytes_are_equal (name x) z ≡ false)) (sym (map-append name xs ys)) (all_joined (λ z. bytes_are_equal (name x) z ≡ false) (map name xs) (map name ys) one.0 split.0),
      distinct_joined name xs ys one.1 other split.1,
    )

-- ---- locks

locked_formed : (pointer : List ℕ) (v : JsonTree) (locked : Locked) → locked_at pointer v ≡ Ok locked → IsLocked locked
unfolding locked_at
locked_formed pointer v locked e =
    let a = both (object_at pointer v) _ locked e in
    let head = both (package_head_of pointer v) _ locked a.2 in
    let dist = both (dist_of pointer a.0) _ locked head.2 in
    let entry = both (package_entry_of pointer v) _ locked dist.2 in
    subst IsMember (ap (λ (l : Locked). l.«package») (same_value _ locked entry.2)) (entries_are_formed pointer v entry.0 entry.1)

record AreLists (lists : Lists) : Type 0 where
  packages : Fresh locked_name IsLocked [] lists.packages
  packages_dev : Fresh locked_name IsLocked (map locked_name lists.packages) lists.packages_dev

lists_formed : (at : List ℕ) (pairs : Pairs) (lists : Lists) → lists_of at pairs ≡ Ok lists → AreLists lists
unfolding lists_of
lists_formed at pairs lists e =
    let a = both (entries_of locked_at locked_name [] at pairs keys.Packages) _ lists e in
    let b = both (entries_of locked_at locked_name (map locked_name a.0) at pairs keys.PackagesDev) _ lists a.2 in
    subst AreLists (same_value _ lists b.2) (record {
      packages = of_formed locked_at locked_name IsLocked locked_formed [] at pairs keys.Packages a.0 a.1;
      packages_dev = of_formed locked_at locked_name IsLocked locked_formed (map locked_name a.0) at pairs keys.PackagesDev b.0 b.1;
    })

pub lock_is_formed : (at : List ℕ) (pairs : Pairs) (lock : Lock) → lock_from at pairs ≡ Ok lock → IsLock lock
unfolding lock_from
lock_is_formed at pairs lock e =
    let hash = both (content_hash_of at pairs) _ lock e in
    let lists = both (lists_of at pairs) _ lock hash.2 in
    let aliases = both (no_aliases_of at pairs) _ lock lists.2 in
    let minimum = both (minimum_of at pairs) _ lock aliases.2 in
    let flags = both (flags_of at pairs) _ lock minimum.2 in
    let stable = both (boolean_of at pairs keys.PreferStable) _ lock flags.2 in
    let platform = both (platform_links_of at pairs keys.Platform) _ lock stable.2 in
    let platform_dev = both (platform_links_of at pairs keys.PlatformDev) _ lock platform.2 in
    let formed = lists_formed at pairs lists.0 lists.1 in
    subst IsLock (same_value _ lock platform_dev.2) (record {
      packages = formed.packages.each;
      packages_dev = formed.packages_dev.each;
      distinct = distinct_joined locked_name lists.0.packages lists.0.packages_dev formed.packages.distinct formed.packages_dev.distinct formed.packages_dev.new;
    })

-- ---- installed packages

pub installed_is_formed : (at : List ℕ) (pairs : Pairs) (installed : Installed) → installed_from at pairs ≡ Ok installed → IsInstalled installed
unfolding installed_from
installed_is_formed at pairs installed e =
    let packages = both (entries_of package_entry_of package_name [] at pairs keys.Packages) _ installed e in
    let dev = both (boolean_of at pairs keys.Dev) _ installed packages.2 in
    let names = both (texts_of at pairs keys.DevPackageNames) _ installed dev.2 in
    let formed = of_formed package_entry_of package_name IsMember entries_are_formed [] at pairs keys.Packages packages.0 packages.1 in
    subst IsInstalled (same_value _ installed names.2) (record { packages = formed.each; distinct = formed.distinct })
