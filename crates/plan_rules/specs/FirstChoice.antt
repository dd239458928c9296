-- The plan: which candidates are chosen, one requirement after the other, the preferred one first wherever some valid
-- set has it. It speaks of all sets of candidates and of no search among them.
use Rattle.std.specs.Prelude.{◌≡◌, ℕ, List, [], ◌∷◌, ◌++◌, length, find, Bool, true, not, ◌&&◌, Option, Some, None}
use Rattle.std.specs.List.{list_any, flat_map, filter_map}
use Rattle.manifest_read.specs.declared.types.Link.{Link}
use Rattle.manifest_read.specs.declared.types.Package.{Package}
use Rattle.pkg_pool.specs.declared.pool.Pool.{Pool}
use Rattle.plan_rules.specs.Sets.{Chosen, has, has_all, set_of}
use Rattle.plan_rules.specs.Requirements.{meets, is_on_package}
use Rattle.plan_rules.specs.Validity.{is_valid}
use Rattle.plan_rules.specs.Preference.{package_at, is_alternative, is_preferred}

-- the root, and the members of a list
abbrev pub packages_of : Pool → List ℕ → List Package
packages_of pool list = pool.root.«package» ∷ filter_map (package_at pool) list

-- What is required, in order: by the root, by the root for development, and by each member in order of choice.
abbrev pub queue : Pool → List ℕ → List Link
queue pool list = (pool.root.«package».require ++ pool.root.require_dev) ++ flat_map (λ party. party.require) (filter_map (package_at pool) list)

abbrev pub waits : List Package → Link → Bool
waits list link = is_on_package link && not (list_any (meets link) list)

-- the first requirement on a package that the root and the members don't meet
unfoldable pub first_unmet : Pool → List ℕ → Option Link
first_unmet pool list = find (waits (packages_of pool list)) (queue pool list)

-- A valid set that has the candidates of a list, and another one.
pub record Extends (pool : Pool) (before : List ℕ) (choice : ℕ) : Type 0 where
  pub set : Chosen
  pub is_of_pool : length set ≡ length pool.candidates
  pub valid : is_valid pool set ≡ true
  pub has_before : has_all set before ≡ true
  pub has_choice : has set choice ≡ true

-- What is chosen behind a list: an alternative of its first unmet requirement, where no valid set has the list and an
-- alternative that is preferred to this one.
pub record IsFirst (pool : Pool) (before : List ℕ) (choice : ℕ) : Type 0 where
  pub need : Link
  pub unmet : first_unmet pool before ≡ Some need
  pub alternative : is_alternative pool need choice ≡ true
  pub none_preferred : (other : ℕ) → is_alternative pool need other ≡ true → is_preferred pool need other choice ≡ true → Extends pool before other → ⊥

-- each of a list is chosen so, and nothing is unmet in the end
abbrev pub AreFirst : Pool → List ℕ → List ℕ → Type 0
AreFirst pool before [] = first_unmet pool before ≡ None
AreFirst pool before (choice ∷ behind) = IsFirst pool before choice × AreFirst pool (before ++ choice ∷ []) behind

-- The plan of first choices: it is valid, and each choice is the first.
pub record IsFirstChoice (pool : Pool) (plan : List ℕ) : Type 0 where
  pub valid : is_valid pool (set_of (length pool.candidates) plan) ≡ true
  pub choices : AreFirst pool [] plan
