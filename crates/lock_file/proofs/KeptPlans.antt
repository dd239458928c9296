-- The lock of a plan is read again of the text that is written of it.
use Rattle.std.proofs.Common.{◌≡◌, ℕ, suc, Bool, true, false, cond, not, List, [], ◌∷◌, ◌++◌, length, map, filter, find, Option, Some, None, Result, Ok, Err, refl, sym, ap, subst, ◌∙◌, arith, inl, inr}
use Rattle.std.specs.Prelude.{◌⊎◌, option_map, IfOk}
use Rattle.std.specs.List.{AllByRecursion, IsDistinct, slice_get}
use Rattle.std.specs.Str.{IsUtf8}
use Rattle.std.proofs.lemmas.Bool.{false≢true}
use Rattle.std.proofs.lemmas.List.{map-append}
use Rattle.std.proofs.lemmas.List.Elements.{All-from_recursion, recursion_from_All}
use Rattle.std.specs.Cmp.Lexicographic.{bytes_decides}
use Rattle.std.specs.Ordering.{eq_by_cmp}
use Rattle.std.proofs.lemmas.List.Sorted.{All-permutation, IsPermutation-map, IsPermutation-append}
use Rattle.std.proofs.lemmas.Map.Keys.{IsDistinct-IsPermutation, IsDistinct-from_sorted}
use Rattle.path_name.specs.Decimals.{decimal_text}
use Rattle.path_name.specs.Orders.{byte_cmp, bytes_are_equal, byte_equality, byte_ties}
use Rattle.version_norm.specs.Stability.{rank_of}
use Rattle.version_norm.specs.declared.version.Grade.{Grade}
use Rattle.version_norm.specs.declared.version.Grade.TheVariants as grades
use Rattle.manifest_read.specs.declared.types.Link.{Link}
use Rattle.manifest_read.specs.declared.types.Manifest.{Manifest}
use Rattle.manifest_read.specs.declared.types.Role.TheVariants.{Root, Member}
use Rattle.manifest_read.specs.WellFormed.{HaveDistinctNames, IsMember}
use Rattle.manifest_read.specs.Writable.{IsWritableLink, IsWritablePackage}
use Rattle.manifest_read.proofs.Formed.{members_are_formed, manifests_are_formed}
use Rattle.manifest_read.proofs.WrittenManifests.{manifests_are_written}
use Rattle.pkg_pool.specs.Stability.{counting, less_stable, flag_step, flag_from, root_flag}
use Rattle.pkg_pool.specs.declared.pool.Candidate.{Candidate}
use Rattle.pkg_pool.specs.declared.pool.Pool.{Pool}
use Rattle.plan_rules.specs.Sets.{Chosen, has, is_in, set_of}
use Rattle.plan_rules.specs.Requirements.{is_on_package}
use Rattle.plan_rules.specs.Validity.{chosen}
use Rattle.plan_rules.proofs.Lists.{Among, among_map, map_among, among_filter}
use Rattle.plan_rules.proofs.SetMembers.{among_chosen}
use Rattle.plan_rules.proofs.Plans.{among_in, in_among, below}
use Rattle.plan_rules.proofs.FirstChoices.{has_one}
use Rattle.lock_file.specs.declared.types.Locked.{Locked}
use Rattle.lock_file.specs.declared.types.PlatformLink.{PlatformLink}
use Rattle.lock_file.specs.declared.types.FlagRow.{FlagRow}
use Rattle.lock_file.specs.declared.types.Lock.{Lock}
use Rattle.lock_file.specs.Locks.{locked_name, rank_spelled}
use Rattle.lock_file.specs.InstalledText.{IsByName}
use Rattle.lock_file.specs.PlanLocks.{HasMet, requirements_at, others, locked_of, platform_links, rank_in, AreFlagRows, IsListing, IsClosed, IsRuntime, IsLockOf}
use Rattle.lock_file.specs.Rereading.{IsExact, HasPath, HavePaths, IsExactLocked, IsRanked, IsWritableLocked, AreWritableFlags, IsWritablePlatform, AreWritablePlatforms, IsKept}
use Rattle.lock_file.specs.KeptPools.{IsDocumented, IsDocumentedPool, HaveOwnNames}
use Rattle.lock_file.proofs.Findings.{one_of, all_of, set_in}
use Rattle.lock_file.proofs.ExactReading.{member_exact, rank_0, rank_5, rank_10, rank_15, rank_20}

-- ---- names

not_true : (b : Bool) → (b ≡ true → ⊥) → b ≡ false
not_true true none = absurd (none refl)
not_true false none = refl

abbrev name_of : Candidate → List ℕ
name_of candidate = candidate.«package».name

abbrev names_of : Chosen → List Candidate → List (List ℕ)
names_of set candidates = map name_of (chosen set candidates)

-- candidates of two sets that have one name are one candidate
abbrev HaveOne : Chosen → Chosen → List Candidate → Type 0
HaveOne some more candidates = (i j : ℕ) (c d : Candidate) → has some i ≡ true → has more j ≡ true → slice_get candidates i ≡ Some c → slice_get candidates j ≡ Some d → bytes_are_equal (name_of c) (name_of d) ≡ true → i ≡ j

later_one : (s t : Bool) (some more : Chosen) (c : Candidate) (candidates : List Candidate) → HaveOne (s ∷ some) (t ∷ more) (c ∷ candidates) → HaveOne some more candidates
later_one s t some more c candidates one i j x y a b e f same = let next : suc i ≡ suc j = one (suc i) (suc j) x y a b e f same in omega (arith, next)

module _ (set : Chosen) (candidates : List Candidate) (name : List ℕ) where
  -- a name that no candidate of the set has
  none_named : ((j : ℕ) (d : Candidate) → has set j ≡ true → slice_get candidates j ≡ Some d → bytes_are_equal name (name_of d) ≡ true → ⊥) → AllByRecursion (λ other. bytes_are_equal name other ≡ false) (names_of set candidates)
  none_named none = all_of (λ other. bytes_are_equal name other ≡ false) (names_of set candidates) (λ other there.
      let d = among_map name_of (chosen set candidates) other there in
      let at = among_chosen d.0 set candidates d.1 in
      subst (λ n. bytes_are_equal name n ≡ false) d.2 (not_true (bytes_are_equal name (name_of d.0)) (none at.0 d.0 at.2 at.1)))

chosen_distinct : (set : Chosen) (candidates : List Candidate) → HaveOne set set candidates → IsDistinct bytes_are_equal (names_of set candidates)
unfolding IsDistinct
chosen_distinct set [] one = tt
chosen_distinct [] (c ∷ candidates) one = tt
chosen_distinct (false ∷ set) (c ∷ candidates) one = chosen_distinct set candidates (later_one false false set set c candidates one)
chosen_distinct (true ∷ set) (c ∷ candidates) one = (
  none_named set candidates (name_of c) (λ j d there is same. let next : 0 ≡ suc j = one 0 (suc j) c d refl there refl is same in absurd (omega (arith, next))),
  chosen_distinct set candidates (later_one true true set set c candidates one),
)

all_joined : {X : Type 0} (P : X → Type 0) (xs ys : List X) → AllByRecursion P xs → AllByRecursion P ys → AllByRecursion P (xs ++ ys)
all_joined P [] ys all more = more
all_joined P (x ∷ xs) ys all more = (all.0, all_joined P xs ys all.1 more)

distinct_both : (xs ys : List (List ℕ)) → IsDistinct bytes_are_equal xs → IsDistinct bytes_are_equal ys → AllByRecursion (λ x. AllByRecursion (λ y. bytes_are_equal x y ≡ false) ys) xs → IsDistinct bytes_are_equal (xs ++ ys)
unfolding IsDistinct
distinct_both [] ys one other apart = other
distinct_both (x ∷ xs) ys one other apart = (all_joined (λ y. bytes_are_equal x y ≡ false) xs ys one.0 apart.0, distinct_both xs ys one.1 other apart.1)

-- two sets that share no candidate
names_apart : (some more : Chosen) (candidates : List Candidate) → HaveOne some more candidates → ((i : ℕ) → has some i ≡ true → has more i ≡ true → ⊥)
    → AllByRecursion (λ x. AllByRecursion (λ y. bytes_are_equal x y ≡ false) (names_of more candidates)) (names_of some candidates)
names_apart some more candidates one none = all_of (λ x. AllByRecursion (λ y. bytes_are_equal x y ≡ false) (names_of more candidates)) (names_of some candidates) (λ name there.
    let c = among_map name_of (chosen some candidates) name there in
    let at = among_chosen c.0 some candidates c.1 in
    subst (λ n. AllByRecursion (λ y. bytes_are_equal n y ≡ false) (names_of more candidates)) c.2
    (none_named more candidates (name_of c.0) (λ j d has_it is same. none j (subst (λ i. has some i ≡ true) (one at.0 j c.0 d at.2 has_it at.1 is same) at.2) has_it)))

-- ---- what is known of all candidates is known of those that are locked

chosen_all : (P : Candidate → Type 0) (set : Chosen) (candidates : List Candidate) → AllByRecursion P candidates → AllByRecursion P (chosen set candidates)
chosen_all P set [] all = tt
chosen_all P [] (c ∷ candidates) all = tt
chosen_all P (true ∷ set) (c ∷ candidates) all = (all.0, chosen_all P set candidates all.1)
chosen_all P (false ∷ set) (c ∷ candidates) all = chosen_all P set candidates all.1

all_mapped : {X Y : Type 0} (P : X → Type 0) (Q : Y → Type 0) (f : X → Y) → ((x : X) → P x → Q (f x)) → (xs : List X) → AllByRecursion P xs → AllByRecursion Q (map f xs)
all_mapped P Q f h [] all = tt
all_mapped P Q f h (x ∷ xs) all = (h x all.0, all_mapped P Q f h xs all.1)

locked_names : (candidates : List Candidate) → map locked_name (map locked_of candidates) ≡ map name_of candidates
locked_names [] = refl
locked_names (c ∷ candidates) = ap (λ names. name_of c ∷ names) (locked_names candidates)

-- what holds of each of a list holds of each in another order
pub all_listed : (P : Locked → Type 0) (some list : List Locked) → IsByName some list → AllByRecursion P some → AllByRecursion P list
all_listed P some list by all = recursion_from_All P list (All-permutation P some list by.same (All-from_recursion P some all))

-- what its package was read of a document
record IsReadMember (locked : Locked) : Type 0 where
  member : IsMember locked.«package»
  exact : IsExact locked.«package»

all_exact : (list : List Locked) → AllByRecursion IsReadMember list → AllByRecursion HasPath list → AllByRecursion IsExactLocked list
all_exact [] read paths = tt
all_exact (locked ∷ list) read paths = (record { member = read.0.member; exact = read.0.exact; url = paths.0 }, all_exact list read.1 paths.1)

exact_of : (candidate : Candidate) → IsDocumented candidate → IsReadMember (locked_of candidate)
exact_of candidate known = record {
  member = subst IsMember (sym known.is) (members_are_formed known.tree known.manifest known.read);
  exact = subst IsExact (sym known.is) (member_exact known.tree known.manifest known.read);
}

writable_of : (candidate : Candidate) → IsDocumented candidate → IsWritableLocked (locked_of candidate)
writable_of candidate known = record {
  parts = subst IsWritablePackage (sym known.is) (manifests_are_written Member known.tree known.manifest known.written known.read).parts;
  reference = known.reference;
}

-- ---- the lists of a lock

module _ (pool : Pool) (plan : List ℕ) (runtime : Chosen) (own : HaveOwnNames pool plan) (within : (number : ℕ) → has runtime number ≡ true → is_in number plan ≡ true) where
  abbrev count : ℕ
  count = length pool.candidates

  abbrev left : Chosen
  left = set_of count (others plan runtime)

  left_is : (number : ℕ) → has left number ≡ true → (is_in number plan ≡ true) × (has runtime number ≡ false)
  left_is number e =
      let there = among_filter (λ n. not (has runtime n)) plan number (among_in number (others plan runtime) (set_in count number (others plan runtime) e)) in
      (in_among number plan there.0, not_not (has runtime number) there.1)
    where
      not_not : (b : Bool) → not b ≡ true → b ≡ false
      not_not true f = absurd (false≢true f)
      not_not false f = refl

  names_distinct : IsDistinct bytes_are_equal (names_of runtime pool.candidates ++ names_of left pool.candidates)
  names_distinct = distinct_both (names_of runtime pool.candidates) (names_of left pool.candidates)
      (chosen_distinct runtime pool.candidates (λ i j c d x y e f same. own i j c d (within i x) (within j y) e f same))
      (chosen_distinct left pool.candidates (λ i j c d x y e f same. own i j c d (left_is i x).0 (left_is j y).0 e f same))
      (names_apart runtime left pool.candidates (λ i j c d x y e f same. own i j c d (within i x) (left_is j y).0 e f same)
      (λ i x y. false≢true (sym (left_is i y).1 ∙ x)))

  lists_distinct : (packages packages_dev : List Locked) → IsListing pool runtime packages → IsListing pool left packages_dev → IsDistinct bytes_are_equal (map locked_name (packages ++ packages_dev))
  lists_distinct packages packages_dev one other =
      let first = map locked_of (chosen runtime pool.candidates) in
      let second = map locked_of (chosen left pool.candidates) in
      IsDistinct-IsPermutation bytes_are_equal byte_equality.symm (map locked_name (first ++ second)) (map locked_name (packages ++ packages_dev))
      (IsPermutation-map locked_name (first ++ second) (packages ++ packages_dev) (IsPermutation-append first packages second packages_dev one.same other.same))
      (subst (IsDistinct bytes_are_equal)
      (sym (map-append locked_name first second ∙ ap (λ names. names ++ map locked_name second) (locked_names (chosen runtime pool.candidates)) ∙ ap (λ names. names_of runtime pool.candidates ++ names) (locked_names (chosen left pool.candidates))))
      names_distinct)

-- ---- the platform's requirements

kept_step : {X : Type 0} (P : X → Type 0) (b : Bool) (x : X) (rest : List X) → P x → AllByRecursion P rest → AllByRecursion P (cond b (x ∷ rest) rest)
kept_step P true x rest p all = (p, all)
kept_step P false x rest p all = all

filter_all : {X : Type 0} (P : X → Type 0) (p : X → Bool) (xs : List X) → AllByRecursion P xs → AllByRecursion P (filter p xs)
filter_all P p [] all = tt
filter_all P p (x ∷ xs) all = kept_step P (p x) x (filter p xs) all.0 (filter_all P p xs all.1)

abbrev is_on_platform : Link → Bool
is_on_platform link = not (is_on_package link)

abbrev row_by : Link → PlatformLink
row_by link = record { name = link.name; text = link.text }

row_names : (links : List Link) → map (λ (row : PlatformLink). row.name) (map row_by links) ≡ map (λ (link : Link). link.name) links
row_names [] = refl
row_names (link ∷ links) = ap (λ names. link.name ∷ names) (row_names links)

abbrev link_names : List Link → List (List ℕ)
link_names links = map (λ (link : Link). link.name) links

named_step : (P : List ℕ → Type 0) (b : Bool) (link : Link) (rest : List Link) → P link.name → AllByRecursion P (link_names rest) → AllByRecursion P (link_names (cond b (link ∷ rest) rest))
named_step P true link rest p all = (p, all)
named_step P false link rest p all = all

filtered_names : (P : List ℕ → Type 0) (links : List Link) → AllByRecursion P (link_names links) → AllByRecursion P (link_names (filter is_on_platform links))
filtered_names P [] all = tt
filtered_names P (link ∷ links) all = named_step P (is_on_platform link) link (filter is_on_platform links) all.0 (filtered_names P links all.1)

distinct_step : (b : Bool) (link : Link) (rest : List Link) → AllByRecursion (λ other. bytes_are_equal link.name other ≡ false) (link_names rest) → HaveDistinctNames rest → HaveDistinctNames (cond b (link ∷ rest) rest)
unfolding IsDistinct
distinct_step true link rest apart distinct = (apart, distinct)
distinct_step false link rest apart distinct = distinct

filtered_distinct : (links : List Link) → HaveDistinctNames links → HaveDistinctNames (filter is_on_platform links)
unfolding IsDistinct
filtered_distinct [] distinct = tt
filtered_distinct (link ∷ links) distinct = distinct_step (is_on_platform link) link (filter is_on_platform links) (filtered_names (λ other. bytes_are_equal link.name other ≡ false) links distinct.0) (filtered_distinct links distinct.1)

platforms_written : (links : List Link) → AllByRecursion IsWritableLink links → HaveDistinctNames links → AreWritablePlatforms (platform_links links)
platforms_written links all distinct = record {
  each = all_mapped IsWritableLink IsWritablePlatform row_by (λ link is. record { name = is.name; text = is.text }) (filter is_on_platform links) (filter_all IsWritableLink is_on_platform links all);
  distinct = subst (IsDistinct bytes_are_equal) (sym (row_names (filter is_on_platform links))) (filtered_distinct links distinct);
}

-- ---- flags

-- a name with a flag is one that is required
abbrev IsNamed : List ℕ → List Link → Type 0
IsNamed name links = (link : Link) × Among link links × (bytes_are_equal link.name name ≡ true)

flag_named : (minimum : Grade) (name : List ℕ) (found : Option Grade) (links : List Link) (grade : Grade) → flag_from minimum name found links ≡ Some grade → (found ≡ Some grade) ⊎ IsNamed name links
flag_named minimum name found [] grade e = inl e
flag_named minimum name found (link ∷ links) grade e = step (bytes_are_equal link.name name) refl (flag_named minimum name (flag_step minimum name found link) links grade e)
  where
    step : (b : Bool) → bytes_are_equal link.name name ≡ b → (cond b (less_stable found (counting minimum link.wants.flag)) found ≡ Some grade) ⊎ IsNamed name links → (found ≡ Some grade) ⊎ IsNamed name (link ∷ links)
    step true same r = inr (link, inl refl, same)
    step false same (inl f) = inl f
    step false same (inr one) = inr (one.0, inr one.1, one.2)

root_named : (root : Manifest) (name : List ℕ) (grade : Grade) → root_flag root name ≡ Some grade → IsNamed name (root.«package».require ++ root.require_dev)
unfolding root_flag
root_named root name grade e = either (flag_named root.minimum name None (root.«package».require ++ root.require_dev) grade e)
  where
    either : (None ≡ Some grade) ⊎ IsNamed name (root.«package».require ++ root.require_dev) → IsNamed name (root.«package».require ++ root.require_dev)
    either (inl f) = absurd cc
    either (inr one) = one

grade_spelled : (grade : Grade) → rank_spelled (decimal_text (rank_of grade)) ≡ Some (rank_of grade)
grade_spelled grades.Stable = rank_0
grade_spelled grades.Rc = rank_5
grade_spelled grades.Beta = rank_10
grade_spelled grades.Alpha = rank_15
grade_spelled grades.Dev = rank_20

-- the grade behind a rank
graded : (rank : ℕ) (found : Option Grade) → Some rank ≡ option_map rank_of found → (grade : Grade) × (found ≡ Some grade) × (rank ≡ rank_of grade)
graded rank None e = absurd cc
graded rank (Some grade) e = (grade, refl, cc)

abbrev row_names_of : List FlagRow → List (List ℕ)
row_names_of rows = map (λ (row : FlagRow). row.name) rows

same_texts : (xs : List (List ℕ)) (name : List ℕ) → AllByRecursion (λ other. eq_by_cmp byte_cmp name other ≡ false) xs → AllByRecursion (λ other. bytes_are_equal name other ≡ false) xs
same_texts [] name all = tt
same_texts (x ∷ xs) name all = (byte_ties name x ∙ all.0, same_texts xs name all.1)

distinct_texts : (xs : List (List ℕ)) → IsDistinct (eq_by_cmp byte_cmp) xs → IsDistinct bytes_are_equal xs
unfolding IsDistinct
distinct_texts [] distinct = tt
distinct_texts (x ∷ xs) distinct = (same_texts xs x distinct.0, distinct_texts xs distinct.1)

-- the row of a name is the first of that name
found_row : (rows : List FlagRow) (row : FlagRow) → IsDistinct bytes_are_equal (row_names_of rows) → Among row rows → rank_in rows row.name ≡ Some row.rank
unfolding IsDistinct
found_row [] row distinct there = absurd there
found_row (first ∷ rows) row distinct (inl same) = ap (λ b. option_map (λ (it : FlagRow). it.rank) (cond b (Some first) (find (λ (it : FlagRow). bytes_are_equal it.name row.name) rows)))
    (ap (λ (it : FlagRow). bytes_are_equal first.name it.name) (sym same) ∙ itself first.name) ∙ ap (λ (it : FlagRow). Some it.rank) same
  where
    itself : (name : List ℕ) → bytes_are_equal name name ≡ true
    itself name = byte_equality.refl name
found_row (first ∷ rows) row distinct (inr there) = ap (λ b. option_map (λ (it : FlagRow). it.rank) (cond b (Some first) (find (λ (it : FlagRow). bytes_are_equal it.name row.name) rows)))
    (one_of (λ other. bytes_are_equal first.name other ≡ false) (row_names_of rows) row.name distinct.0 (map_among (λ (it : FlagRow). it.name) rows row there)) ∙ found_row rows row distinct.1 there

module _ (root : Manifest) (rows : List FlagRow) (are : AreFlagRows root rows) (named : AllByRecursion IsWritableLink (root.«package».require ++ root.require_dev)) where
  rows_distinct : IsDistinct bytes_are_equal (row_names_of rows)
  rows_distinct = distinct_texts (row_names_of rows) (IsDistinct-from_sorted byte_cmp (row_names_of rows) are.ascending)

  grade_of : (row : FlagRow) → Among row rows → (grade : Grade) × (root_flag root row.name ≡ Some grade) × (row.rank ≡ rank_of grade)
  grade_of row there = graded row.rank (root_flag root row.name) (sym (found_row rows row rows_distinct there) ∙ are.each row.name)

  rows_ranked : AllByRecursion IsRanked rows
  rows_ranked = all_of IsRanked rows (λ row there. let grade = grade_of row there in subst (λ n. rank_spelled (decimal_text n) ≡ Some n) (sym grade.2) (grade_spelled grade.0))

  rows_written : AreWritableFlags rows
  rows_written = record {
    each = all_of (λ (row : FlagRow). IsUtf8 row.name) rows (λ row there.
        let grade = grade_of row there in
        let link = root_named root row.name grade.0 grade.1 in
        subst IsUtf8 ((bytes_decides link.0.name row.name).0 link.2) (one_of IsWritableLink (root.«package».require ++ root.require_dev) link.0 named link.1).name);
    distinct = rows_distinct;
  }

-- ---- the lock

-- what is required at run time is of the plan
within_plan : (pool : Pool) (plan : List ℕ) (runtime : Chosen) → IsRuntime pool plan runtime → (number : ℕ) → has runtime number ≡ true → is_in number plan ≡ true
within_plan pool plan runtime is number e =
    let count = length pool.candidates in
    let met : (need : Link) → HasMet pool plan (set_of count plan) need = λ need n f alternative. has_one count plan n (below pool need n alternative) f in
    let closed : IsClosed pool plan (set_of count plan) = record {
      root = all_of (HasMet pool plan (set_of count plan)) pool.root.«package».require (λ need there. met need);
      members = λ n f. all_of (HasMet pool plan (set_of count plan)) (requirements_at pool n) (λ need there. met need);
    } in
    set_in count number plan (is.least (set_of count plan) closed number e)

pub plan_kept : (pool : Pool) (plan hash : List ℕ) (lock : Lock) → IsLockOf pool plan hash lock → IsDocumentedPool pool → HaveOwnNames pool plan → IsUtf8 hash → HavePaths lock → IsKept lock
plan_kept pool plan hash lock is known own u paths =
    let within = within_plan pool plan is.runtime is.is_runtime in
    let formed = manifests_are_formed Root known.root.tree pool.root known.root.read in
    let written = manifests_are_written Root known.root.tree pool.root known.root.written known.root.read in
    let links = all_joined IsWritableLink pool.root.«package».require pool.root.require_dev written.parts.require written.require_dev in
    let candidates = λ (set : Chosen). chosen_all IsDocumented set pool.candidates known.candidates in
    let left = set_of (length pool.candidates) (others plan is.runtime) in
    record {
      exact = record {
        packages = all_exact lock.packages (all_listed IsReadMember _ lock.packages is.packages (all_mapped IsDocumented IsReadMember locked_of exact_of (chosen is.runtime pool.candidates) (candidates is.runtime))) paths.packages;
        packages_dev = all_exact lock.packages_dev (all_listed IsReadMember _ lock.packages_dev is.packages_dev (all_mapped IsDocumented IsReadMember locked_of exact_of (chosen left pool.candidates) (candidates left))) paths.packages_dev;
        distinct = lists_distinct pool plan is.runtime own within lock.packages lock.packages_dev is.packages is.packages_dev;
        flags = rows_ranked pool.root lock.flags is.flags links;
      };
      writable = record {
        content_hash = subst IsUtf8 (sym is.content_hash) u;
        packages = all_listed IsWritableLocked _ lock.packages is.packages (all_mapped IsDocumented IsWritableLocked locked_of writable_of (chosen is.runtime pool.candidates) (candidates is.runtime));
        packages_dev = all_listed IsWritableLocked _ lock.packages_dev is.packages_dev (all_mapped IsDocumented IsWritableLocked locked_of writable_of (chosen left pool.candidates) (candidates left));
        flags = rows_written pool.root lock.flags is.flags links;
        platform = subst AreWritablePlatforms (sym is.platform) (platforms_written pool.root.«package».require written.parts.require formed.parts.required_names);
        platform_dev = subst AreWritablePlatforms (sym is.platform_dev) (platforms_written pool.root.require_dev written.require_dev formed.require_dev_names);
      };
    }

-- two things that are known of a lock that was made
pub both_kept : {X E : Type 0} (r : Result X E) (P Q R : X → Type 0) → ((x : X) → P x → Q x → R x) → IfOk r P → IfOk r Q → IfOk r R
both_kept (Ok x) P Q R h p q = h x p q
both_kept (Err e) P Q R h p q = tt
