-- The rules that a single link breaks.
use Rattle.std.specs.Prelude.{◌≡◌, ℕ, List, ◌∷◌, map, filter, find, Bool, false, not, Option, Some, None, option_map, if◌then◌else◌}
use Rattle.std.specs.Option.{option_or, option_map_or}
use Rattle.path_name.specs.Orders.{bytes_are_equal}
use Rattle.constraint_set.specs.Satisfaction.{satisfies}
use Rattle.manifest_read.specs.declared.types.Link.{Link}
use Rattle.manifest_read.specs.declared.types.Manifest.{Manifest}
use Rattle.manifest_read.specs.declared.types.Package.{Package}
use Rattle.manifest_read.specs.declared.types.PlatformRow.{PlatformRow}
use Rattle.pkg_pool.specs.Stability.{is_allowed}
use Rattle.pkg_pool.specs.declared.pool.Candidate.{Candidate}
use Rattle.plan_rules.specs.declared.facts.Facts.{Facts}
use Rattle.plan_rules.specs.declared.facts.Kind.{Kind}
use Rattle.plan_rules.specs.declared.facts.Kind.TheVariants.{Unmet, Conflict, Platform}
use Rattle.plan_rules.specs.declared.rule.Rule.{Rule}
use Rattle.plan_rules.specs.declared.rule.Rule.TheVariants as rules
use Rattle.plan_rules.specs.Offers.{rows_at, IsIndexOf}
use Rattle.plan_rules.specs.Validity.{first_rule, two_owners, is_unmet, is_barred, conflict_rule}

-- a platform package that is listed in a version that a link wants
abbrev pub suits : Link → PlatformRow → Bool
suits link row = option_map_or (satisfies link.wants) row.version false

-- the rule that a link of a package breaks, of one kind
abbrev pub rule_of : Kind → List PlatformRow → List Package → List ℕ → Link → Option Rule
rule_of Unmet rows list name link = if is_unmet list (name, link) then Some (rules.Unmet name link.name) else None
rule_of Conflict rows list name link = conflict_rule rows list (name, link)
rule_of Platform rows list name link = if is_barred rows (name, link) then Some (rules.Platform name link.name) else None

-- the links that may break a rule of a kind
abbrev pub links_for : Kind → Package → List Link
links_for Unmet party = party.require
links_for Conflict party = party.conflict
links_for Platform party = party.require

-- the first rule that a package of a list breaks, and that the root does, whose further links come behind its own
abbrev pub rule_of_package : Kind → List PlatformRow → List Package → Package → Option Rule
rule_of_package kind rows list party = first_rule (rule_of kind rows list party.name) (links_for kind party)

-- ---- what is known of a root and of packages

abbrev pub parties_in : Facts → List Package
parties_in facts = map (λ party. party.now) facts.parties.now

abbrev pub rows_in : Facts → List PlatformRow
rows_in facts = facts.root.now.platform

pub record AreRight (facts : Facts) : Type 0 where
  pub index : IsIndexOf facts.index (parties_in facts)
  pub platform : (name : List ℕ) → map (λ row. row.now) (rows_at facts.platform name) ≡ filter (λ row. bytes_are_equal row.name name) (rows_in facts)

-- ---- the rules in their order, over the members' packages

abbrev pub allowed_rule : Manifest → List Candidate → Option Rule
allowed_rule root members = option_map (λ member. rules.NotAllowed member.«package».name) (find (λ member. not (is_allowed root member)) members)

abbrev pub required_rule : Kind → List Package → Manifest → List Package → Option Rule
required_rule kind list root members =
    option_or (first_rule (rule_of kind root.platform list root.«package».name) root.«package».require)
    (option_or (first_rule (rule_of kind root.platform list root.«package».name) root.require_dev) (first_rule (rule_of_package kind root.platform list) members))

abbrev pub conflicting_rule : List Package → Manifest → List Package → Option Rule
conflicting_rule list root members = option_or (rule_of_package Conflict root.platform list root.«package») (first_rule (rule_of_package Conflict root.platform list) members)

abbrev pub links_rule : List Package → Manifest → List Package → Option Rule
links_rule list root members = option_or (required_rule Unmet list root members) (option_or (conflicting_rule list root members) (required_rule Platform list root members))

abbrev pub packages_rule : Manifest → List Package → Option Rule
packages_rule root members = option_or (two_owners (root.«package» ∷ members)) (links_rule (root.«package» ∷ members) root members)
