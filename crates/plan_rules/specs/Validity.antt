-- Which sets of candidates are valid, and the first rule that one breaks (Composer's documentation, "The composer.json
-- schema", "Package links", "config", "platform").
use Rattle.std.specs.Prelude.{ℕ, List, [], ◌∷◌, ◌++◌, map, filter, find, Bool, false, not, ◌&&◌, ◌||◌, Option, Some, None, is_some, is_none, option_map, if◌then◌else◌}
use Rattle.std.specs.List.{list_any, list_all, flat_map}
use Rattle.std.specs.Option.{option_or, option_and_then, option_map_or}
use Rattle.std.specs.Ordering.{is_lt, is_le}
use Rattle.path_name.specs.Orders.{byte_cmp, bytes_are_equal}
use Rattle.constraint_set.specs.Satisfaction.{satisfies}
use Rattle.manifest_read.specs.declared.types.Link.{Link}
use Rattle.manifest_read.specs.declared.types.Package.{Package}
use Rattle.manifest_read.specs.declared.types.PlatformRow.{PlatformRow}
use Rattle.pkg_pool.specs.Stability.{is_allowed}
use Rattle.pkg_pool.specs.declared.pool.Pool.{Pool}
use Rattle.pkg_pool.specs.declared.pool.Candidate.{Candidate}
use Rattle.plan_rules.specs.declared.rule.Rule.{Rule}
use Rattle.plan_rules.specs.declared.rule.Rule.TheVariants as rules
use Rattle.plan_rules.specs.declared.rule.Verdict.{Verdict}
use Rattle.plan_rules.specs.declared.rule.Verdict.TheVariants as verdicts
use Rattle.plan_rules.specs.Sets.{Chosen}
use Rattle.plan_rules.specs.Requirements.{owns_as_wanted, replaces_as_wanted, takes, meets, is_on_package}

-- ---- the members of a set

-- the candidates of a set, in the order of the pool
abbrev pub chosen : Chosen → List Candidate → List Candidate
chosen set [] = []
chosen [] (candidate ∷ candidates) = []
chosen (belongs ∷ others) (candidate ∷ candidates) = if belongs then candidate ∷ chosen others candidates else chosen others candidates

-- a candidate among others in byte order of name; behind those of the same name
abbrev pub put : Candidate → List Candidate → List Candidate
put candidate [] = candidate ∷ []
put candidate (first ∷ others) = if is_lt (byte_cmp candidate.«package».name first.«package».name) then candidate ∷ first ∷ others else first ∷ put candidate others

abbrev pub by_name : List Candidate → List Candidate → List Candidate
by_name sorted [] = sorted
by_name sorted (first ∷ others) = by_name (put first sorted) others

-- the members of a set in byte order of name, those of one name in the order of the pool
unfoldable pub members : Pool → Chosen → List Candidate
members pool set = by_name [] (chosen set pool.candidates)

-- the root, and the members in byte order of name
abbrev pub parties : Pool → Chosen → List Package
parties pool set = pool.root.«package» ∷ map (λ member. member.«package») (members pool set)

-- the first rule that one of a list breaks
abbrev pub first_rule : {X : Type 0} → (X → Option Rule) → List X → Option Rule
first_rule broken [] = None
first_rule broken (first ∷ others) = option_or (broken first) (first_rule broken others)

-- ---- a member that isn't allowed

abbrev pub not_allowed : Pool → List Candidate → Option Rule
not_allowed pool list = option_map (λ member. rules.NotAllowed member.«package».name) (find (λ member. not (is_allowed pool.root member)) list)

-- ---- a name with two owners

-- the names that a package takes
abbrev pub taken_names : Package → List (List ℕ)
taken_names party = party.name ∷ map (λ link. link.name) party.replace

abbrev pub takers : List ℕ → List Package → List Package
takers name list = filter (takes name) list

-- the byte-least of some names
abbrev pub least : List (List ℕ) → Option (List ℕ)
least some = find (λ name. list_all (λ other. is_le (byte_cmp name other)) some) some

abbrev pub rule_of_takers : List ℕ → List Package → Option Rule
rule_of_takers name (first ∷ second ∷ others) = Some (rules.TwoOwners name first.name second.name)
rule_of_takers name (first ∷ []) = None
rule_of_takers name [] = None

abbrev pub has_two : List Package → List ℕ → Bool
has_two list name = is_some (rule_of_takers name (takers name list))

abbrev pub two_owners : List Package → Option Rule
two_owners list = option_and_then (λ name. rule_of_takers name (takers name list)) (least (filter (has_two list) (flat_map taken_names list)))

-- ---- a requirement that isn't met

-- a package's links, each with the package's name
abbrev pub links_of : (Package → List Link) → List Package → List (List ℕ × Link)
links_of links list = flat_map (λ party. map (λ link. (party.name, link)) (links party)) list

-- what is required: by the root, for development too, and by the members
abbrev pub requirements : Pool → Chosen → List (List ℕ × Link)
requirements pool set =
    map (λ link. (pool.root.«package».name, link)) (pool.root.«package».require ++ pool.root.require_dev)
    ++ links_of (λ party. party.require) (map (λ member. member.«package») (members pool set))

abbrev pub is_unmet : List Package → List ℕ × Link → Bool
is_unmet list wanted = is_on_package wanted.1 && not (list_any (meets wanted.1) list)

abbrev pub unmet : Pool → Chosen → Option Rule
unmet pool set = option_map (λ wanted. rules.Unmet wanted.0 wanted.1.name) (find (is_unmet (parties pool set)) (requirements pool set))

-- ---- a conflict

-- a package that has the name of a conflict in a version that it names, or that replaces it so
abbrev pub is_against : Link → Package → Bool
is_against link party = owns_as_wanted link party || replaces_as_wanted link party

abbrev pub is_listed_as : Link → PlatformRow → Bool
is_listed_as link row = bytes_are_equal row.name link.name && option_map_or (satisfies link.wants) row.version false

-- what the conflict is with: the first other package, or else the listed platform package
abbrev pub against : List PlatformRow → List Package → List ℕ × Link → Option (List ℕ)
against rows list from = option_or (option_map (λ party. party.name) (find (λ party. not (bytes_are_equal party.name from.0) && is_against from.1 party) list))
    (option_map (λ row. row.name) (find (is_listed_as from.1) rows))

abbrev pub conflict_rule : List PlatformRow → List Package → List ℕ × Link → Option Rule
conflict_rule rows list from = option_map (λ other. rules.Conflict from.0 from.1.name other) (against rows list from)

abbrev pub conflict : Pool → Chosen → Option Rule
conflict pool set = first_rule (conflict_rule pool.root.platform (parties pool set)) (links_of (λ party. party.conflict) (parties pool set))

-- ---- a requirement on the platform

-- A row that lists the name as absent, or in a version that doesn't satisfy the constraint. What no row lists is met.
abbrev pub row_bars : Link → PlatformRow → Bool
row_bars link row = bytes_are_equal row.name link.name && not (option_map_or (satisfies link.wants) row.version false)

abbrev pub is_barred : List PlatformRow → List ℕ × Link → Bool
is_barred rows wanted = not (is_on_package wanted.1) && list_any (row_bars wanted.1) rows

abbrev pub platform : Pool → Chosen → Option Rule
platform pool set = option_map (λ wanted. rules.Platform wanted.0 wanted.1.name) (find (is_barred pool.root.platform) (requirements pool set))

-- ---- all rules in their order

unfoldable pub first_broken : Pool → Chosen → Option Rule
first_broken pool set = option_or (not_allowed pool (members pool set)) (option_or (two_owners (parties pool set)) (option_or (unmet pool set) (option_or (conflict pool set) (platform pool set))))

-- A set is valid: it breaks no rule.
abbrev pub is_valid : Pool → Chosen → Bool
is_valid pool set = is_none (first_broken pool set)

-- What `check` answers of a set.
abbrev pub verdict_of : Pool → Chosen → Verdict
verdict_of pool set = option_map_or verdicts.Breaks (first_broken pool set) verdicts.Meets
