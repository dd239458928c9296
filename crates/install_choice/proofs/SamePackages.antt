-- Sets of two pools that have the same root and the same packages break the same rules.
use Rattle.std.proofs.Common.{◌≡◌, ℕ, ◌+◌, ◌≤◌, Bool, true, false, cond, not, List, ◌++◌, map, refl, sym, ap, subst, arith, inl, inr}
use Rattle.std.specs.Prelude.{◌⊎◌, ◌&&◌}
use Rattle.std.specs.List.{list_any}
use Rattle.std.proofs.lemmas.Bool.{false≢true}
use Rattle.manifest_read.specs.declared.types.Link.{Link}
use Rattle.manifest_read.specs.declared.types.Manifest.{Manifest}
use Rattle.manifest_read.specs.declared.types.Package.{Package}
use Rattle.pkg_pool.specs.Stability.{is_allowed}
use Rattle.pkg_pool.specs.declared.pool.Candidate.{Candidate}
use Rattle.pkg_pool.specs.declared.pool.Pool.{Pool}
use Rattle.plan_rules.specs.Sets.{Chosen}
use Rattle.plan_rules.specs.Requirements.{is_on_package, meets, takes}
use Rattle.plan_rules.specs.Validity.{is_unmet, is_valid, links_of, members, parties, requirements}
use Rattle.plan_rules.proofs.KeptRules.{Keeps, keeps, kept}
use Rattle.plan_rules.proofs.Lists.{Among, among_any, among_either, among_left, among_map, among_right, any_among, count, count_one, counted, map_among}
use Rattle.plan_rules.proofs.Subsets.{fewer_against, links_within}

abbrev pub packages_in : Pool → Chosen → List Package
packages_in pool set = map (λ member. member.«package») (members pool set)

-- each package of the other set is one of this, and of each kind both have as many
pub record HaveSame (pool other : Pool) (set more : Chosen) : Type 0 where
  pub back : (party : Package) → Among party (packages_in other more) → Among party (packages_in pool set)
  pub counts : (p : Package → Bool) → count p (packages_in other more) ≡ count p (packages_in pool set)

-- what is allowed is said by the package
allowed_by : (root : Manifest) (one other : Candidate) → other.«package» ≡ one.«package» → is_allowed root other ≡ true → is_allowed root one ≡ true
unfolding is_allowed
allowed_by root one other same known = subst (λ (party : Package). is_allowed root (record other { «package» = party }) ≡ true) same known

-- a requirement that is met in one list is met in another that has what meets it
met_step : (on_package met more : Bool) → (met ≡ true → more ≡ true) → (on_package && not met) ≡ false → (on_package && not more) ≡ false
met_step false met more h e = refl
met_step true true more h e = rw (h refl) refl
met_step true false more h e = absurd (false≢true (sym e))

met_too : (list more : List Package) (wanted : List ℕ × Link) → count (meets wanted.1) more ≡ count (meets wanted.1) list → is_unmet list wanted ≡ false → is_unmet more wanted ≡ false
met_too list more wanted same e = met_step (is_on_package wanted.1) (list_any (meets wanted.1) list) (list_any (meets wanted.1) more)
    (λ met. let one = among_any (meets wanted.1) list met in
    let there : 1 ≤ count (meets wanted.1) list = count_one (meets wanted.1) list one.0 one.1 one.2 in
    let other = counted (meets wanted.1) more (omega (arith, there, same)) in
    any_among (meets wanted.1) more other.0 other.1 other.2) e

module _ (root : Manifest) (candidates others : List Candidate) (set more : Chosen) where
  abbrev one : Pool
  one = record { root = root; candidates = candidates }

  abbrev other : Pool
  other = record { root = root; candidates = others }

  module _ (same : HaveSame one other set more) where
    parties_back : (party : Package) → Among party (parties other more) → Among party (parties one set)
    parties_back party (inl e) = inl e
    parties_back party (inr there) = inr (same.back party there)

    parties_count : (p : Package → Bool) → count p (parties other more) ≡ count p (parties one set)
    parties_count p = ap (λ n. cond (p root.«package») 1 0 + n) (same.counts p)

    abbrev of_root : List (List ℕ × Link)
    of_root = map (λ link. (root.«package».name, link)) (root.«package».require ++ root.require_dev)

    abbrev of_members : Pool → Chosen → List (List ℕ × Link)
    of_members pool chosen = links_of (λ party. party.require) (packages_in pool chosen)

    requirements_back : (wanted : List ℕ × Link) → Among wanted (requirements other more) → Among wanted (requirements one set)
    requirements_back wanted there = step (among_either wanted of_root (of_members other more) there)
      where
        step : Among wanted of_root ⊎ Among wanted (of_members other more) → Among wanted (requirements one set)
        step (inl here) = among_left wanted of_root (of_members one set) here
        step (inr later) = among_right wanted of_root (of_members one set) (links_within (λ party. party.require) (packages_in other more) (packages_in one set) wanted same.back later)

    allowed_too : Keeps one set → (member : Candidate) → Among member (members other more) → is_allowed root member ≡ true
    allowed_too known member there =
        let party = same.back member.«package» (map_among (λ it. it.«package») (members other more) member there) in
        let found = among_map (λ it. it.«package») (members one set) member.«package» party in
        allowed_by root member found.0 found.2 (known.allowed found.0 found.1)

    keeps_too : Keeps one set → Keeps other more
    keeps_too known = record {
      allowed = allowed_too known;
      owners = λ name. omega (arith, known.owners name, parties_count (takes name));
      met = λ wanted there. met_too (parties one set) (parties other more) wanted (parties_count (meets wanted.1)) (known.met wanted (requirements_back wanted there));
      conflicts = λ from there. fewer_against root.platform (parties other more) (parties one set) from parties_back
          (known.conflicts from (links_within (λ party. party.conflict) (parties other more) (parties one set) from parties_back there));
      platform = λ wanted there. known.platform wanted (requirements_back wanted there);
    }

    pub valid_too : is_valid one set ≡ true → is_valid other more ≡ true
    valid_too valid = kept other more (keeps_too (keeps one set valid))
