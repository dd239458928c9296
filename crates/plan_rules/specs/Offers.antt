-- Lists by name, and how packages stand for names.
use Rattle.std.specs.Prelude.{◌≡◌, ℕ, suc, List, [], ◌∷◌, ◌++◌, map, filter, find, Bool, true, false, not, ◌&&◌, ◌==◌, Option, option_map, if◌then◌else◌}
use Rattle.std.specs.Option.{option_and_then, unwrap_or}
use Rattle.std.specs.BTreeMap.{get}
use Rattle.path_name.specs.Orders.{byte_cmp, bytes_are_equal}
use Rattle.constraint_set.specs.Satisfaction.{satisfies}
use Rattle.constraint_set.specs.Overlap.{overlaps}
use Rattle.manifest_read.specs.declared.types.Link.{Link}
use Rattle.manifest_read.specs.declared.types.Package.{Package}
use Rattle.plan_rules.specs.declared.by_name.ByName.{ByName}
use Rattle.plan_rules.specs.declared.offers.Offer.{Offer}
use Rattle.plan_rules.specs.declared.offers.Standing.{Standing}
use Rattle.plan_rules.specs.declared.offers.Standing.TheVariants.{Owns, Replaces, Provides}
use Rattle.plan_rules.specs.declared.index.Index.{Index}
use Rattle.plan_rules.specs.declared.index.LinkKind.{LinkKind}
use Rattle.plan_rules.specs.declared.index.LinkKind.TheVariants.{Replace, Provide}
use Rattle.plan_rules.specs.declared.rule.Rule.{Rule}
use Rattle.plan_rules.specs.declared.rule.Rule.TheVariants as rules
use Rattle.plan_rules.specs.Requirements.{owns, names}

-- the rows of a name
abbrev pub rows_at : {T : Type 0} → ByName T → List ℕ → List T
rows_at lists name = unwrap_or (option_map (λ rows. rows.items) (get byte_cmp lists.rows name)) []

-- ---- offers

-- How a package stands for a name: it owns it, or it replaces or provides it by a link.
pub data Way : Type 0 where
  Owning : Way
  Replacing : Link → Way
  Providing : Link → Way

pub record Offered : Type 0 where
  pub number : ℕ
  pub party : Package
  pub way : Way

abbrev pub way_shown : Standing → Way
way_shown Owns = Owning
way_shown (Replaces link) = Replacing link.now
way_shown (Provides link) = Providing link.now

abbrev pub shown : Offer → Offered
shown offer = record { number = offer.number; party = offer.party.now; way = way_shown offer.standing }

abbrev pub way_by : LinkKind → Link → Way
way_by Replace link = Replacing link
way_by Provide link = Providing link

-- how a package of a number stands for a name: as its owner, and by links of that name
abbrev pub owners_of : List ℕ → ℕ → Package → List Offered
owners_of name number party = if owns name party then record { number = number; party = party; way = Owning } ∷ [] else []

abbrev pub linked : List ℕ → ℕ → Package → (Link → Way) → List Link → List Offered
linked name number party way links = map (λ link. record { number = number; party = party; way = way link }) (filter (names name) links)

abbrev pub offers_by : List ℕ → ℕ → Package → List Offered
offers_by name number party = owners_of name number party ++ (linked name number party (way_by Replace) party.replace ++ linked name number party (way_by Provide) party.provide)

-- how the packages of a list do, which are numbered from a number on
abbrev pub offers_from : List ℕ → ℕ → List Package → List Offered
offers_from name number [] = []
offers_from name number (party ∷ parties) = offers_by name number party ++ offers_from name (suc number) parties

-- it meets a requirement on the name
abbrev pub is_met_so : Link → Package → Way → Bool
is_met_so need party Owning = satisfies need.wants party.version
is_met_so need party (Replacing link) = overlaps need.wants link.wants
is_met_so need party (Providing link) = overlaps need.wants link.wants

abbrev pub is_met : Link → Offered → Bool
is_met need offer = is_met_so need offer.party offer.way

-- it owns or replaces the name
abbrev pub takes_so : Way → Bool
takes_so Owning = true
takes_so (Replacing link) = true
takes_so (Providing link) = false

abbrev pub is_taking : Offered → Bool
is_taking offer = takes_so offer.way

abbrev pub is_taking_beside : ℕ → Offered → Bool
is_taking_beside number offer = is_taking offer && not (offer.number == number)

abbrev pub is_other_taker : List ℕ → Link → Offered → Bool
is_other_taker from link offer = is_taking offer && is_met link offer && not (bytes_are_equal offer.party.name from)

-- the first two packages that own or replace the name
abbrev pub two_takers : List Offered → Option (Package × Package)
two_takers offers = option_and_then (λ one. option_map (λ other. (one.party, other.party)) (find (is_taking_beside one.number) offers)) (find is_taking offers)

abbrev pub rule_of_offers : List ℕ → List Offered → Option Rule
rule_of_offers name offers = option_map (λ both. rules.TwoOwners name both.0.name both.1.name) (two_takers offers)

-- at each name the packages of a list that stand for it, by their places
abbrev pub IsIndexOf : Index → List Package → Type 0
IsIndexOf index list = (name : List ℕ) → map shown (rows_at index.offers name) ≡ offers_from name 0 list
