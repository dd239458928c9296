-- Ranks that are put in order are those of the alternatives, each once, the preferred ones first.
use Rattle.std.proofs.Common.{◌≡◌, ℕ, Bool, true, false, List, [], ◌∷◌, map, Option, Some, None, refl, sym, ap, subst, ◌∙◌, arith, inl, inr}
use Rattle.std.specs.Prelude.{◌||◌, ◌==◌}
use Rattle.std.specs.List.{list_any, slice_get, AllByRecursion}
use Rattle.std.specs.List.Sorted.{IsStrictlySortedBy}
use Rattle.std.specs.Option.{option_map_or}
use Rattle.std.specs.Ordering.{nat_cmp, ordering_then, match_ordering, is_lt}
use Rattle.std.specs.declared.cmp.Ordering.{Ordering}
use Rattle.std.specs.declared.cmp.Ordering.TheVariants.{Less, Equal, Greater}
use Rattle.std.specs.BTreeSet.{insert_key}
use Rattle.std.proofs.lemmas.Bool.{false≢true}
use Rattle.std.proofs.lemmas.Option.{slice_get-map}
use Rattle.std.proofs.lemmas.Map.Lookups.{exact_unsigned}
use Rattle.manifest_read.specs.declared.types.Link.{Link}
use Rattle.manifest_read.specs.declared.types.Package.{Package}
use Rattle.pkg_pool.specs.declared.pool.Pool.{Pool}
use Rattle.plan_rules.specs.declared.offers.Offer.{Offer}
use Rattle.plan_rules.specs.declared.offers.Standing.{Standing}
use Rattle.plan_rules.specs.declared.offers.Standing.TheVariants.{Owns, Replaces, Provides}
use Rattle.plan_rules.specs.declared.ranks.Rank.{Rank}
use Rattle.plan_rules.specs.Requirements.{meets}
use Rattle.plan_rules.specs.Sets.{is_in, AreDistinct}
use Rattle.plan_rules.specs.Preference.{way_of, stability_place, order_at, package_at, preference, is_alternative, is_preferred, AreSorted, AreAlternatives}
use Rattle.plan_rules.specs.Offers.{Offered, shown, way_shown, offers_from}
use Rattle.plan_rules.specs.Ranks.{standing_place, rank_of, party_cmp, rank_cmp, put_ranks, numbers_of, heads}
use Rattle.plan_rules.proofs.Lists.{Among, among_map, map_among, among_any, any_among}
use Rattle.plan_rules.proofs.Offering.{any_map}
use Rattle.plan_rules.proofs.MarkedRivals.{both_true}
use Rattle.plan_rules.proofs.PreferenceOrder.{not_preferred_itself}
use Rattle.plan_rules.proofs.FirstOffers.{way_place, heads_at, heads_of}

-- ---- one rank more

then_equal : (first second : Ordering) → ordering_then first second ≡ Equal → second ≡ Equal
then_equal Less second e = absurd cc
then_equal Equal second e = e
then_equal Greater second e = absurd cc

abbrev package_cmp : Rank → Rank → Ordering
package_cmp one other = ordering_then (nat_cmp (standing_place one.offer.standing) (standing_place other.offer.standing)) (ordering_then (nat_cmp one.stability other.stability) (party_cmp one.offer.party.now other.offer.party.now))

equal_numbers : (one other : Rank) → rank_cmp one other ≡ Equal → one.offer.number ≡ other.offer.number
equal_numbers one other e = exact_unsigned one.offer.number other.offer.number (then_equal (package_cmp one other) (nat_cmp one.offer.number other.offer.number) e)

or_swap : (a b c : Bool) → (a || (b || c)) ≡ (b || (a || c))
or_swap true true c = refl
or_swap true false c = refl
or_swap false true c = refl
or_swap false false c = refl

or_again : (a b : Bool) → (a || b) ≡ (a || (a || b))
or_again true b = refl
or_again false b = refl

or_put : (a b c : Bool) → ((a || b) || c) ≡ (b || (a || c))
or_put true true c = refl
or_put true false c = refl
or_put false true c = refl
or_put false false c = refl

or_false : (t : Bool) → (t || false) ≡ t
or_false true = refl
or_false false = refl

abbrev has_rank : ℕ → Rank → Bool
has_rank number rank = rank.offer.number == number

module _ (number : ℕ) (one : Rank) where
  number_step : (o : Ordering) (x : Rank) (ranks : List Rank) → rank_cmp one x ≡ o → list_any (has_rank number) (insert_key rank_cmp ranks one) ≡ (has_rank number one || list_any (has_rank number) ranks)
      → list_any (has_rank number) (match_ordering o (one ∷ x ∷ ranks) (x ∷ ranks) (x ∷ insert_key rank_cmp ranks one)) ≡ (has_rank number one || list_any (has_rank number) (x ∷ ranks))
  number_step Less x ranks e rest = refl
  number_step Equal x ranks e rest = or_again (has_rank number x) (list_any (has_rank number) ranks)
      ∙ ap (λ n. n == number || (has_rank number x || list_any (has_rank number) ranks)) (sym (equal_numbers one x e))
  number_step Greater x ranks e rest = ap (λ t. has_rank number x || t) rest ∙ or_swap (has_rank number x) (has_rank number one) (list_any (has_rank number) ranks)

  number_inserted : (ranks : List Rank) → list_any (has_rank number) (insert_key rank_cmp ranks one) ≡ (has_rank number one || list_any (has_rank number) ranks)
  number_inserted [] = refl
  number_inserted (x ∷ ranks) = number_step (rank_cmp one x) x ranks refl (number_inserted ranks)

numbers_put : (number : ℕ) (ranks more : List Rank) → list_any (has_rank number) (put_ranks ranks more) ≡ (list_any (has_rank number) ranks || list_any (has_rank number) more)
numbers_put number ranks [] = sym (or_false (list_any (has_rank number) ranks))
numbers_put number ranks (one ∷ more) = numbers_put number (insert_key rank_cmp ranks one) more ∙ ap (λ t. t || list_any (has_rank number) more) (number_inserted number one ranks)
    ∙ or_put (has_rank number one) (list_any (has_rank number) ranks) (list_any (has_rank number) more)

module _ (P : Rank → Type 0) where
  rank_step : (o : Ordering) (one x : Rank) (ranks : List Rank) → P one → AllByRecursion P (x ∷ ranks) → AllByRecursion P (insert_key rank_cmp ranks one)
      → AllByRecursion P (match_ordering o (one ∷ x ∷ ranks) (x ∷ ranks) (x ∷ insert_key rank_cmp ranks one))
  rank_step Less one x ranks p all rest = (p, all)
  rank_step Equal one x ranks p all rest = all
  rank_step Greater one x ranks p all rest = (all.0, rest)

  all_inserted : (one : Rank) (ranks : List Rank) → P one → AllByRecursion P ranks → AllByRecursion P (insert_key rank_cmp ranks one)
  all_inserted one [] p all = (p, tt)
  all_inserted one (x ∷ ranks) p all = rank_step (rank_cmp one x) one x ranks p all (all_inserted one ranks p all.1)

  all_put : (ranks more : List Rank) → AllByRecursion P ranks → ((one : Rank) → Among one more → P one) → AllByRecursion P (put_ranks ranks more)
  all_put ranks [] all each = all
  all_put ranks (one ∷ more) all each = all_put (insert_key rank_cmp ranks one) more (all_inserted one ranks (each one (inl refl)) all) (λ other there. each other (inr there))

-- ---- numbers

is_number : (a b : ℕ) → (a == b) ≡ true → a ≡ b
is_number a b e = grind (arith, e)

same_number : (a b : ℕ) → a ≡ b → (a == b) ≡ true
same_number a b e = grind (arith, e)

in_numbers : (number : ℕ) (ranks : List Rank) → is_in number (numbers_of ranks) ≡ list_any (has_rank number) ranks
in_numbers number [] = refl
in_numbers number (rank ∷ ranks) = ap (λ t. rank.offer.number == number || t) (in_numbers number ranks)

standing_is : (standing : Standing) → standing_place standing ≡ way_place (way_shown standing)
standing_is Owns = refl
standing_is (Replaces link) = refl
standing_is (Provides link) = refl

module _ (pool : Pool) (need : Link) where
  abbrev pub packages : List Package
  packages = map (λ candidate. candidate.«package») pool.candidates

  abbrev pub offered : List Offered
  offered = heads need None (offers_from need.name 0 packages)

  package_in : (number : ℕ) → slice_get packages number ≡ package_at pool number
  package_in number = slice_get-map (λ candidate. candidate.«package») pool.candidates number

  -- ---- which they are

  abbrev has_number : ℕ → Offered → Bool
  has_number number offer = offer.number == number

  alternative_there : (number : ℕ) → list_any (has_number number) offered ≡ true → option_map_or (meets need) (package_at pool number) false ≡ true
  alternative_there number found =
      let one = among_any (has_number number) offered found in
      let head = heads_at need 0 packages None (λ other le. refl) one.0 one.1 in
      let same : head.at ≡ number = omega (arith, head.number_is, is_number one.0.number number one.2) in
      ap (λ it. option_map_or (meets need) it false) (sym (package_in number) ∙ ap (slice_get packages) (sym same) ∙ head.party_is) ∙ head.meets_is

  offered_by : (number : ℕ) (found : Option Package) → package_at pool number ≡ found → option_map_or (meets need) found false ≡ true → list_any (has_number number) offered ≡ true
  offered_by number None e met = absurd (false≢true met)
  offered_by number (Some party) e met =
      let head = heads_of need 0 packages None (λ other le. refl) number party (package_in number ∙ e) met in
      any_among (has_number number) offered head.0 head.1 (same_number head.0.number number (omega (arith, head.2)))

  module _ (offers : List Offer) (are : map shown offers ≡ offered) where
    abbrev ranks : List Rank
    ranks = put_ranks [] (map (rank_of pool.root.prefer_stable) offers)

    any_rank : (number : ℕ) → list_any (has_rank number) ranks ≡ list_any (has_number number) offered
    any_rank number = numbers_put number [] (map (rank_of pool.root.prefer_stable) offers) ∙ sym (any_map (has_rank number) (rank_of pool.root.prefer_stable) offers)
        ∙ any_map (has_number number) shown offers ∙ ap (list_any (has_number number)) are

    all_numbers : (number : ℕ) → is_in number (numbers_of ranks) ≡ is_alternative pool need number
    unfolding is_alternative
    all_numbers number = in_numbers number ranks ∙ any_rank number
        ∙ both_true (list_any (has_number number) offered) (option_map_or (meets need) (package_at pool number) false) (alternative_there number) (offered_by number (package_at pool number) refl)

    -- ---- their order

    record IsRight (rank : Rank) : Type 0 where
      party : package_at pool rank.offer.number ≡ Some rank.offer.party.now
      place : standing_place rank.offer.standing ≡ way_of need rank.offer.party.now
      stability : rank.stability ≡ stability_place pool.root.prefer_stable rank.offer.party.now

    right_offer : (offer : Offer) → Among offer offers → IsRight (rank_of pool.root.prefer_stable offer)
    right_offer offer there =
        let head = heads_at need 0 packages None (λ other le. refl) (shown offer) (subst (Among (shown offer)) are (map_among shown offers offer there)) in
        let same : head.at ≡ offer.number = omega (arith, head.number_is) in
        record { party = sym (package_in offer.number) ∙ ap (slice_get packages) (sym same) ∙ head.party_is; place = standing_is offer.standing ∙ head.place_is; stability = refl }

    right : (rank : Rank) → Among rank (map (rank_of pool.root.prefer_stable) offers) → IsRight rank
    right rank there = let one = among_map (rank_of pool.root.prefer_stable) offers rank there in subst IsRight one.2 (right_offer one.0 one.1)

    abbrev order_by : Package → Package → ℕ → ℕ → ℕ → ℕ → Ordering
    order_by one other way other_way stability other_stability =
        ordering_then (nat_cmp way other_way) (ordering_then (nat_cmp stability other_stability) (party_cmp one other))

    by_preference : (one other : Rank) → IsRight one → IsRight other → rank_cmp one other ≡ preference pool need one.offer.number other.offer.number
    unfolding preference
    by_preference one other a b =
        ap (λ way. ordering_then (order_by one.offer.party.now other.offer.party.now way (standing_place other.offer.standing) one.stability other.stability) (nat_cmp one.offer.number other.offer.number)) a.place
        ∙ ap (λ way. ordering_then (order_by one.offer.party.now other.offer.party.now (way_of need one.offer.party.now) way one.stability other.stability) (nat_cmp one.offer.number other.offer.number)) b.place
        ∙ ap (λ s. ordering_then (order_by one.offer.party.now other.offer.party.now (way_of need one.offer.party.now) (way_of need other.offer.party.now) s other.stability) (nat_cmp one.offer.number other.offer.number)) a.stability
        ∙ ap (λ s. ordering_then (order_by one.offer.party.now other.offer.party.now (way_of need one.offer.party.now) (way_of need other.offer.party.now) (stability_place pool.root.prefer_stable one.offer.party.now) s) (nat_cmp one.offer.number other.offer.number)) b.stability
        ∙ ap (λ found. ordering_then (order_at pool.root.prefer_stable need found (Some other.offer.party.now)) (nat_cmp one.offer.number other.offer.number)) (sym a.party)
        ∙ ap (λ found. ordering_then (order_at pool.root.prefer_stable need (package_at pool one.offer.number) found) (nat_cmp one.offer.number other.offer.number)) (sym b.party)

    after_step : (t : Bool) (one other : Rank) (number : ℕ) (rest : Bool) → (other.offer.number == number) ≡ t → rank_cmp one other ≡ preference pool need one.offer.number other.offer.number → rank_cmp one other ≡ Less
        → (t || rest) ≡ true → (rest ≡ true → is_preferred pool need one.offer.number number ≡ true) → is_preferred pool need one.offer.number number ≡ true
    after_step true one other number rest e by less found next = ap is_lt (ap (preference pool need one.offer.number) (sym (is_number other.offer.number number e)) ∙ sym by ∙ less)
    after_step false one other number rest e by less found next = next found

    all_after : (one : Rank) (list : List Rank) → IsRight one → AllByRecursion IsRight list → AllByRecursion (λ other. rank_cmp one other ≡ Less) list
        → (number : ℕ) → is_in number (numbers_of list) ≡ true → is_preferred pool need one.offer.number number ≡ true
    all_after one [] a all less number found = absurd (false≢true found)
    all_after one (other ∷ list) a all less number found =
        after_step (other.offer.number == number) one other number (is_in number (numbers_of list)) refl (by_preference one other a all.0) less.0 found (λ later. all_after one list a all.1 less.1 number later)

    sorted_numbers : (list : List Rank) → AllByRecursion IsRight list → IsStrictlySortedBy rank_cmp list → AreSorted pool need (numbers_of list)
    unfolding IsStrictlySortedBy
    sorted_numbers [] all sorted = tt
    sorted_numbers (one ∷ list) all sorted = (all_after one list all.0 all.1 sorted.0, sorted_numbers list all.1 sorted.1)

    pub are_alternatives : IsStrictlySortedBy rank_cmp ranks → AreAlternatives pool need (numbers_of ranks)
    are_alternatives sorted = record { all = all_numbers; sorted = sorted_numbers ranks (all_put IsRight [] (map (rank_of pool.root.prefer_stable) offers) tt right) sorted }

  -- ---- each once

  apart_by : (t : Bool) (one : ℕ) (others : List ℕ) → is_in one others ≡ t → ((other : ℕ) → is_in other others ≡ true → is_preferred pool need one other ≡ true) → t ≡ false
  apart_by false one others e preferred = refl
  apart_by true one others e preferred = absurd (false≢true (sym (not_preferred_itself pool need one) ∙ preferred one e))

  pub each_once : (numbers : List ℕ) → AreSorted pool need numbers → AreDistinct numbers
  each_once [] sorted = tt
  each_once (one ∷ numbers) sorted = (apart_by (is_in one numbers) one numbers refl sorted.0, each_once numbers sorted.1)
