-- What the alternatives of a requirement are ranked by, and their order.
use Rattle.std.specs.Prelude.{ℕ, List, [], ◌∷◌, map, Bool, ◌==◌, Option, Some, None, if◌then◌else◌}
use Rattle.std.specs.Ordering.{nat_cmp, ordering_then}
use Rattle.std.specs.declared.cmp.Ordering.{Ordering}
use Rattle.std.specs.BTreeSet.{insert_key}
use Rattle.path_name.specs.Orders.{byte_cmp}
use Rattle.manifest_read.specs.declared.types.Link.{Link}
use Rattle.manifest_read.specs.declared.types.Package.{Package}
use Rattle.plan_rules.specs.declared.offers.Offer.{Offer}
use Rattle.plan_rules.specs.declared.offers.Standing.{Standing}
use Rattle.plan_rules.specs.declared.offers.Standing.TheVariants.{Owns, Replaces, Provides}
use Rattle.plan_rules.specs.declared.ranks.Rank.{Rank}
use Rattle.plan_rules.specs.Preference.{version_order, stability_place}
use Rattle.plan_rules.specs.Offers.{Offered, is_met}

abbrev pub standing_place : Standing → ℕ
standing_place Owns = 0
standing_place (Replaces link) = 1
standing_place (Provides link) = 2

abbrev pub rank_of : Bool → Offer → Rank
rank_of prefer_stable offer = record { offer = offer; stability = stability_place prefer_stable offer.party.now }

abbrev pub party_cmp : Package → Package → Ordering
party_cmp one other = ordering_then (version_order one.version other.version) (byte_cmp one.name other.name)

abbrev pub rank_cmp : Rank → Rank → Ordering
rank_cmp one other =
    ordering_then
    (ordering_then (nat_cmp (standing_place one.offer.standing) (standing_place other.offer.standing)) (ordering_then (nat_cmp one.stability other.stability) (party_cmp one.offer.party.now other.offer.party.now)))
    (nat_cmp one.offer.number other.offer.number)

-- ranks with some more, each at its place
abbrev pub put_ranks : List Rank → List Rank → List Rank
put_ranks ranks [] = ranks
put_ranks ranks (rank ∷ others) = put_ranks (insert_key rank_cmp ranks rank) others

abbrev pub numbers_of : List Rank → List ℕ
numbers_of ranks = map (λ rank. rank.offer.number) ranks

-- the last offer where it is of the same package, else the offer
abbrev pub head_of : Option Offered → Offered → Offered
head_of None offer = offer
head_of (Some last) offer = if last.number == offer.number then last else offer

-- for each offer that meets a requirement the first of its package, of offers that stand package by package
abbrev pub heads : Link → Option Offered → List Offered → List Offered
heads need last [] = []
heads need last (offer ∷ offers) =
    if is_met need offer then head_of last offer ∷ heads need (Some (head_of last offer)) offers else heads need (Some (head_of last offer)) offers
