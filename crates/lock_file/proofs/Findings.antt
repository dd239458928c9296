-- What a search for the members that are required at run time finds.
use Rattle.std.proofs.Common.{◌≡◌, ℕ, zero, suc, ◌+◌, ◌<◌, ◌≤◌, Bool, true, false, cond, not, List, [], ◌∷◌, ◌++◌, length, map, filter, set, take, get_or, Some, refl, sym, ap, subst, ◌∙◌, arith, inl, inr, length-append, append_assoc}
use Rattle.std.specs.Prelude.{◌⊎◌, ◌&&◌, option_map}
use Rattle.std.specs.List.{AllByRecursion, slice_get}
use Rattle.std.specs.Option.{unwrap_or}
use Rattle.std.proofs.lemmas.Bool.{false≢true}
use Rattle.std.proofs.lemmas.List.{append-nil, take_more, take_all, take-append-le}
use Rattle.std.proofs.Math.ListN.{replicate}
use Rattle.manifest_read.specs.declared.types.Link.{Link}
use Rattle.manifest_read.specs.declared.types.Package.{Package}
use Rattle.pkg_pool.specs.declared.pool.Pool.{Pool}
use Rattle.plan_rules.specs.Sets.{Chosen, has, is_in, set_of}
use Rattle.plan_rules.specs.Requirements.{owns, names, meets}
use Rattle.plan_rules.specs.Preference.{package_at, is_alternative}
use Rattle.plan_rules.specs.Offers.{Offered, Way, Owning, Replacing, Providing, owners_of, linked, offers_by, offers_from, is_met}
use Rattle.plan_rules.proofs.Lists.{Among, among_left, among_right, among_either, among_map, among_any, any_among}
use Rattle.plan_rules.proofs.Offering.{any_offer}
use Rattle.plan_rules.proofs.Marked.{one_marked, none_marked, length_of}
use Rattle.plan_rules.proofs.FirstChoices.{in_more, in_middle, has_one}
use Rattle.plan_rules.proofs.Plans.{has_in, among_in, alternative, is_one, below}
use Rattle.lock_file.specs.PlanLocks.{HasMet, IsRuntime, requirements_at}
use Rattle.lock_file.specs.Searches.{is_new, with_offer, with_offers, with_link, with_links, unmarked, IsDue, IsSearch}

-- ---- lists

module _ {X : Type 0} (P : X → Type 0) where
  pub one_of : (xs : List X) (x : X) → AllByRecursion P xs → Among x xs → P x
  one_of [] x all there = absurd there
  one_of (y ∷ ys) x all (inl e) = subst P e all.0
  one_of (y ∷ ys) x all (inr there) = one_of ys x all.1 there

  pub all_of : (xs : List X) → ((x : X) → Among x xs → P x) → AllByRecursion P xs
  all_of [] each = tt
  all_of (y ∷ ys) each = (each y (inl refl), all_of ys (λ x there. each x (inr there)))

  pub all_more : (xs : List X) (x : X) → AllByRecursion P xs → P x → AllByRecursion P (xs ++ x ∷ [])
  all_more [] x all last = (last, tt)
  all_more (y ∷ ys) x all last = (all.0, all_more ys x all.1 last)

pub all_weaker : {X : Type 0} (P Q : X → Type 0) → ((x : X) → P x → Q x) → (xs : List X) → AllByRecursion P xs → AllByRecursion Q xs
all_weaker P Q weaker [] all = tt
all_weaker P Q weaker (x ∷ xs) all = (weaker x all.0, all_weaker P Q weaker xs all.1)

-- ---- sets of numbers

pub marked_has : (marks : Chosen) (number : ℕ) → unwrap_or (slice_get marks number) false ≡ has marks number
marked_has [] number = refl
marked_has (mark ∷ others) zero = refl
marked_has (mark ∷ others) (suc number) = marked_has others number

-- what stands at a place
pub got_at : (list : List ℕ) (at number : ℕ) → slice_get list at ≡ Some number → (at < length list) × (number ≡ get_or list at number)
got_at [] at number e = absurd cc
got_at (first ∷ rest) zero number e = (omega arith, cc)
got_at (first ∷ rest) (suc at) number e = let later = got_at rest at number e in (omega (arith, later.0), later.1)

has_below : (marks : Chosen) (number : ℕ) → has marks number ≡ true → number < length marks
has_below [] number e = absurd (false≢true e)
has_below (t ∷ marks) zero e = omega arith
has_below (t ∷ marks) (suc number) e = omega (arith, has_below marks number e)

pub set_in : (count number : ℕ) (list : List ℕ) → has (set_of count list) number ≡ true → is_in number list ≡ true
set_in count number list e = ap (λ n. is_in n list) (omega arith) ∙ has_in count 0 list number e

unmarked_less : (marks : Chosen) (number : ℕ) → number < length marks → has marks number ≡ false → unmarked (set marks number true) + 1 ≡ unmarked marks
unmarked_less [] number less e = absurd (omega (arith, less))
unmarked_less (true ∷ marks) zero less e = absurd (false≢true (sym e))
unmarked_less (false ∷ marks) zero less e = omega arith
unmarked_less (true ∷ marks) (suc number) less e = unmarked_less marks number (omega (arith, less)) e
unmarked_less (false ∷ marks) (suc number) less e = omega (arith, unmarked_less marks number (omega (arith, less)) e)

pub at_among : (at : ℕ) (list : List ℕ) (number : ℕ) → at < length list → number ≡ get_or list at number → Among number list
at_among at [] number less is = absurd (omega (arith, less))
at_among zero (first ∷ rest) number less is = inl (sym is)
at_among (suc at) (first ∷ rest) number less is = inr (at_among at rest number (omega (arith, less)) is)

-- ---- one offer after the other

-- more stands behind what was found
abbrev pub IsBehind : List ℕ → List ℕ → Type 0
IsBehind found after = (more : List ℕ) × (after ≡ found ++ more)

pub both_behind : (found between after : List ℕ) → IsBehind found between → IsBehind between after → IsBehind found after
both_behind found between after one other = (one.0 ++ other.0, other.1 ∙ ap (λ list. list ++ other.0) one.1 ∙ append_assoc found one.0 other.0)

pub still_in : (number : ℕ) (found after : List ℕ) → IsBehind found after → is_in number found ≡ true → is_in number after ≡ true
still_in number found after more e = ap (is_in number) more.1 ∙ in_more found more.0 number e

behind_step : (t : Bool) (last : ℕ) (found : List ℕ) → IsBehind found (cond t (found ++ last ∷ []) found)
behind_step true last found = (last ∷ [], refl)
behind_step false last found = ([], sym (append-nil found))

got_step : (p m i : Bool) (number : ℕ) (found : List ℕ) → p ≡ true → m ≡ true → (i ≡ true → is_in number found ≡ true) → is_in number (cond (p && (not i && m)) (found ++ number ∷ []) found) ≡ true
got_step true true true number found e f there = there refl
got_step true true false number found e f there = in_middle found [] number
got_step true false i number found e f there = absurd (false≢true f)
got_step false m i number found e f there = absurd (false≢true e)

from_step : (P : ℕ → Type 0) (p m i : Bool) (number : ℕ) (found : List ℕ) → AllByRecursion P found → (p ≡ true → m ≡ true → P number) → AllByRecursion P (cond (p && (not i && m)) (found ++ number ∷ []) found)
from_step P true true true number found all one = all
from_step P true true false number found all one = all_more P found number all (one refl refl)
from_step P true false true number found all one = all
from_step P true false false number found all one = all
from_step P false m i number found all one = all

module _ (planned : Chosen) (need : Link) where
  abbrev marks_of : List ℕ → Chosen
  marks_of found = set_of (length planned) found

  pub grown : (found : List ℕ) (offers : List Offered) → IsBehind found (with_offers planned need found offers)
  grown found [] = ([], sym (append-nil found))
  grown found (offer ∷ offers) = both_behind found (with_offer planned need found offer) (with_offers planned need found (offer ∷ offers))
      (behind_step (is_new planned (marks_of found) need offer) offer.number found) (grown (with_offer planned need found offer) offers)

  pub got : (found : List ℕ) (offers : List Offered) (offer : Offered) → Among offer offers → has planned offer.number ≡ true → is_met need offer ≡ true → is_in offer.number (with_offers planned need found offers) ≡ true
  got found [] offer there e met = absurd there
  got found (first ∷ offers) offer (inl same) e met =
      still_in offer.number (with_offer planned need found first) (with_offers planned need found (first ∷ offers)) (grown (with_offer planned need found first) offers)
      (subst (λ it. is_in it.number (with_offer planned need found first) ≡ true) same
      (got_step (has planned first.number) (is_met need first) (has (marks_of found) first.number) first.number found
      (ap (λ it. has planned it.number) same ∙ e) (ap (is_met need) same ∙ met) (λ f. set_in (length planned) first.number found f)))
  got found (first ∷ offers) offer (inr there) e met = got (with_offer planned need found first) offers offer there e met

  pub from : (P : ℕ → Type 0) (found : List ℕ) (offers : List Offered) → ((offer : Offered) → Among offer offers → has planned offer.number ≡ true → is_met need offer ≡ true → P offer.number) → AllByRecursion P found
      → AllByRecursion P (with_offers planned need found offers)
  from P found [] each all = all
  from P found (first ∷ offers) each all = from P (with_offer planned need found first) offers (λ offer there. each offer (inr there))
      (from_step P (has planned first.number) (is_met need first) (has (marks_of found) first.number) first.number found all (each first (inl refl)))

  abbrev pub HasRoom : List ℕ → Type 0
  HasRoom found = unmarked (marks_of found) + length found ≡ length planned

  room_step : (p m i : Bool) (number : ℕ) (found : List ℕ) → has planned number ≡ p → has (marks_of found) number ≡ i → HasRoom found → HasRoom (cond (p && (not i && m)) (found ++ number ∷ []) found)
  room_step true true true number found e f room = room
  room_step true true false number found e f room =
      let within : number < length (marks_of found) = subst (λ n. number < n) (sym (length_of (length planned) found)) (has_below planned number e) in
      omega (arith, ap unmarked (one_marked (length planned) number found), unmarked_less (marks_of found) number within f, length-append found (number ∷ []), room)
  room_step true false true number found e f room = room
  room_step true false false number found e f room = room
  room_step false m i number found e f room = room

  pub keeps_room : (found : List ℕ) (offers : List Offered) → HasRoom found → HasRoom (with_offers planned need found offers)
  keeps_room found [] room = room
  keeps_room found (first ∷ offers) room = keeps_room (with_offer planned need found first) offers
      (room_step (has planned first.number) (is_met need first) (has (marks_of found) first.number) first.number found refl refl room)

-- ---- the offers of a name and the packages

owner_number : (t : Bool) (offer : Offered) (number : ℕ) (party : Package) → Among offer (cond t (record { number = number; party = party; way = Owning } ∷ []) []) → offer.number ≡ number
owner_number true offer number party (inl e) = ap (λ it. it.number) (sym e)
owner_number true offer number party (inr none) = absurd none
owner_number false offer number party none = absurd none

linked_number : (name : List ℕ) (offer : Offered) (number : ℕ) (party : Package) (way : Link → Way) (links : List Link) → Among offer (linked name number party way links) → offer.number ≡ number
linked_number name offer number party way links there =
    let one = among_map (λ link. record { number = number; party = party; way = way link }) (filter (names name) links) offer there in
    ap (λ (it : Offered). it.number) (sym one.2)

offer_number : (name : List ℕ) (number : ℕ) (party : Package) (offer : Offered) → Among offer (offers_by name number party) → offer.number ≡ number
offer_number name number party offer there =
    either (among_either offer (owners_of name number party) (linked name number party Replacing party.replace ++ linked name number party Providing party.provide) there)
  where
    link_either : Among offer (linked name number party Replacing party.replace) ⊎ Among offer (linked name number party Providing party.provide) → offer.number ≡ number
    link_either (inl one) = linked_number name offer number party Replacing party.replace one
    link_either (inr other) = linked_number name offer number party Providing party.provide other

    either : Among offer (owners_of name number party) ⊎ Among offer (linked name number party Replacing party.replace ++ linked name number party Providing party.provide) → offer.number ≡ number
    either (inl one) = owner_number (owns name party) offer number party one
    either (inr other) = link_either (among_either offer (linked name number party Replacing party.replace) (linked name number party Providing party.provide) other)

first_is : (x y : Package) → Some x ≡ Some y → x ≡ y
first_is x y e = cc

-- a package that meets the requirement has an offer that does
record HasOffer (need : Link) (offers : List Offered) (number : ℕ) : Type 0 where
  offer : Offered
  there : Among offer offers
  number_is : offer.number ≡ number
  met : is_met need offer ≡ true

offer_there : (need : Link) (start at : ℕ) (list : List Package) (party : Package) → slice_get list at ≡ Some party → meets need party ≡ true → HasOffer need (offers_from need.name start list) (start + at)
offer_there need start at [] party e m = absurd cc
offer_there need start zero (x ∷ xs) party e m =
    let one = among_any (is_met need) (offers_by need.name start x) (any_offer need x start ∙ ap (meets need) (first_is x party e) ∙ m) in
    let n : one.0.number ≡ start + 0 = omega (arith, offer_number need.name start x one.0 one.1) in
    record { offer = one.0; there = among_left one.0 (offers_by need.name start x) (offers_from need.name (suc start) xs) one.1; number_is = n; met = one.2 }
offer_there need start (suc at) (x ∷ xs) party e m =
    let one = offer_there need (suc start) at xs party e m in
    let n : one.offer.number ≡ start + suc at = omega (arith, one.number_is) in
    record { offer = one.offer; there = among_right one.offer (offers_by need.name start x) (offers_from need.name (suc start) xs) one.there; number_is = n; met = one.met }

-- an offer that meets the requirement is of a package that does
record IsOf (need : Link) (list : List Package) (start number : ℕ) : Type 0 where
  at : ℕ
  party : Package
  is : slice_get list at ≡ Some party
  number_is : number ≡ start + at
  meets_it : meets need party ≡ true

offer_step : (need : Link) (start : ℕ) (x : Package) (xs : List Package) (offer : Offered) → is_met need offer ≡ true → (Among offer (offers_from need.name (suc start) xs) → IsOf need xs (suc start) offer.number)
    → Among offer (offers_by need.name start x) ⊎ Among offer (offers_from need.name (suc start) xs) → IsOf need (x ∷ xs) start offer.number
offer_step need start x xs offer met later (inl here) = record {
  at = 0;
  party = x;
  is = refl;
  number_is = omega (arith, offer_number need.name start x offer here);
  meets_it = sym (any_offer need x start) ∙ any_among (is_met need) (offers_by need.name start x) offer here met;
}
offer_step need start x xs offer met later (inr there) =
    let one = later there in
    record { at = suc one.at; party = one.party; is = one.is; number_is = omega (arith, one.number_is); meets_it = one.meets_it }

offer_of : (need : Link) (start : ℕ) (list : List Package) (offer : Offered) → Among offer (offers_from need.name start list) → is_met need offer ≡ true → IsOf need list start offer.number
offer_of need start [] offer there met = absurd there
offer_of need start (x ∷ xs) offer there met =
    offer_step need start x xs offer met (λ later. offer_of need (suc start) xs offer later met) (among_either offer (offers_by need.name start x) (offers_from need.name (suc start) xs) there)

get_map : {X Y : Type 0} (f : X → Y) (xs : List X) (number : ℕ) → slice_get (map f xs) number ≡ option_map f (slice_get xs number)
get_map f [] number = refl
get_map f (x ∷ xs) zero = refl
get_map f (x ∷ xs) (suc number) = get_map f xs number

-- ---- the members of a plan

module _ (pool : Pool) (plan : List ℕ) where
  abbrev pub count : ℕ
  count = length pool.candidates

  abbrev pub packages : List Package
  packages = map (λ candidate. candidate.«package») pool.candidates

  module _ (planned : Chosen) (is : planned ≡ set_of count plan) where
    pub size : length planned ≡ count
    size = ap length is ∙ length_of count plan

    -- each member that meets the requirement is found
    pub link_found : (found : List ℕ) (need : Link) → HasMet pool plan (set_of count (with_link planned packages found need)) need
    link_found found need number e alternative_is =
        let less = below pool need number alternative_is in
        let one = alternative pool need number alternative_is in
        let offer = offer_there need 0 number packages one.0 (get_map (λ candidate. candidate.«package») pool.candidates number ∙ one.1) one.2 in
        let same : offer.offer.number ≡ number = omega (arith, offer.number_is) in
        has_one count (with_link planned packages found need) number less
        (subst (λ n. is_in n (with_link planned packages found need) ≡ true) same
        (got planned need found (offers_from need.name 0 packages) offer.offer offer.there
        (ap (has planned) same ∙ ap (λ marks. has marks number) is ∙ has_one count plan number less e) offer.met))

    pub links_behind : (found : List ℕ) (needs : List Link) → IsBehind found (with_links planned packages found needs)
    links_behind found [] = ([], sym (append-nil found))
    links_behind found (need ∷ needs) = both_behind found (with_link planned packages found need) (with_links planned packages found (need ∷ needs))
        (grown planned need found (offers_from need.name 0 packages)) (links_behind (with_link planned packages found need) needs)

    -- what was found before is still there
    met_later : (found after : List ℕ) → IsBehind found after → (need : Link) → HasMet pool plan (set_of count found) need → HasMet pool plan (set_of count after) need
    met_later found after more need met number e alternative_is =
        has_one count after number (below pool need number alternative_is) (still_in number found after more (set_in count number found (met number e alternative_is)))

    pub links_found : (found : List ℕ) (needs : List Link) → AllByRecursion (HasMet pool plan (set_of count (with_links planned packages found needs))) needs
    links_found found [] = tt
    links_found found (need ∷ needs) = (
      met_later (with_link planned packages found need) (with_links planned packages found (need ∷ needs)) (links_behind (with_link planned packages found need) needs) need (link_found found need),
      links_found (with_link planned packages found need) needs,
    )

    -- what is found belongs to each set that has what meets the requirements
    offer_due : (P : ℕ → Type 0) (need : Link) → ((number : ℕ) → is_in number plan ≡ true → is_alternative pool need number ≡ true → P number)
        → (offer : Offered) → Among offer (offers_from need.name 0 packages) → has planned offer.number ≡ true → is_met need offer ≡ true → P offer.number
    offer_due P need each offer there e met =
        let one = offer_of need 0 packages offer there met in
        let same : one.at ≡ offer.number = omega (arith, one.number_is) in
        each offer.number (set_in count offer.number plan (ap (λ marks. has marks offer.number) (sym is) ∙ e))
        (is_one pool need offer.number one.party (ap (package_at pool) (sym same) ∙ sym (get_map (λ candidate. candidate.«package») pool.candidates one.at) ∙ one.is) one.meets_it)

    pub links_due : (P : ℕ → Type 0) (found : List ℕ) (needs : List Link) → AllByRecursion (λ need. (number : ℕ) → is_in number plan ≡ true → is_alternative pool need number ≡ true → P number) needs
        → AllByRecursion P found → AllByRecursion P (with_links planned packages found needs)
    links_due P found [] each all = all
    links_due P found (need ∷ needs) each all = links_due P (with_link planned packages found need) needs each.1 (from planned need P found (offers_from need.name 0 packages) (offer_due P need each.0) all)

    pub links_room : (found : List ℕ) (needs : List Link) → unmarked (set_of (length planned) found) + length found ≡ length planned
        → unmarked (set_of (length planned) (with_links planned packages found needs)) + length (with_links planned packages found needs) ≡ length planned
    links_room found [] room = room
    links_room found (need ∷ needs) room = links_room (with_link planned packages found need) needs (keeps_room planned need found (offers_from need.name 0 packages) room)

    -- ---- how the search goes on

    none_left : (n : ℕ) → unmarked (replicate n false) ≡ n
    none_left zero = refl
    none_left (suc n) = ap suc (none_left n)

    room_of_pool : (found : List ℕ) → unmarked (set_of (length planned) found) + length found ≡ length planned → unmarked (set_of count found) + length found ≡ count
    room_of_pool found room = subst (λ n. unmarked (set_of n found) + length found ≡ n) size room

    pub begun : IsSearch pool plan 0 (with_links planned packages [] pool.root.«package».require)
    begun =
        let needs = pool.root.«package».require in
        record {
          room = room_of_pool (with_links planned packages [] needs) (links_room [] needs (omega (arith, ap unmarked (none_marked (length planned)), none_left (length planned))));
          due = links_due (IsDue pool plan) [] needs
              (all_of (λ need. (number : ℕ) → is_in number plan ≡ true → is_alternative pool need number ≡ true → IsDue pool plan number) needs
              (λ need there number e f set closed. one_of (HasMet pool plan set) needs need closed.root there number e f)) tt;
          root = links_found [] needs;
          members = tt;
        }

    taken_behind : (looked : ℕ) (found after : List ℕ) (number : ℕ) → looked < length found → number ≡ get_or found looked number → IsBehind found after → take (looked + 1) after ≡ take looked found ++ number ∷ []
    taken_behind looked found after number less is more =
        let within : looked + 1 ≤ length found = omega (arith, less) in
        ap (take (looked + 1)) more.1 ∙ take-append-le (looked + 1) found more.0 within ∙ take_more found looked number less ∙ ap (λ n. take looked found ++ n ∷ []) (sym is)

    pub one_more : (looked : ℕ) (found after : List ℕ) (number : ℕ) → looked < length found → number ≡ get_or found looked number → after ≡ with_links planned packages found (requirements_at pool number)
        → IsSearch pool plan looked found → IsSearch pool plan (looked + 1) after
    one_more looked found after number less is after_is search =
        let needs = requirements_at pool number in
        let all = with_links planned packages found needs in
        let more : IsBehind found all = links_behind found needs in
        let later : (need : Link) → HasMet pool plan (set_of count found) need → HasMet pool plan (set_of count all) need = met_later found all more in
        let is_due : IsDue pool plan number = one_of (IsDue pool plan) found number search.due (at_among looked found number less is) in
        subst (IsSearch pool plan (looked + 1)) (sym after_is) (record {
          room = room_of_pool all (links_room found needs (subst (λ n. unmarked (set_of n found) + length found ≡ n) (sym size) search.room));
          due = links_due (IsDue pool plan) found needs
              (all_of (λ need. (n : ℕ) → is_in n plan ≡ true → is_alternative pool need n ≡ true → IsDue pool plan n) needs
              (λ need there n e f set closed. one_of (HasMet pool plan set) needs need (closed.members number (is_due set closed)) there n e f)) search.due;
          root = all_weaker (HasMet pool plan (set_of count found)) (HasMet pool plan (set_of count all)) later pool.root.«package».require search.root;
          members = subst (AllByRecursion (λ n. AllByRecursion (HasMet pool plan (set_of count all)) (requirements_at pool n))) (sym (taken_behind looked found all number less is more))
              (all_more (λ n. AllByRecursion (HasMet pool plan (set_of count all)) (requirements_at pool n)) (take looked found) number
              (all_weaker (λ n. AllByRecursion (HasMet pool plan (set_of count found)) (requirements_at pool n)) (λ n. AllByRecursion (HasMet pool plan (set_of count all)) (requirements_at pool n))
              (λ n held. all_weaker (HasMet pool plan (set_of count found)) (HasMet pool plan (set_of count all)) later (requirements_at pool n) held) (take looked found) search.members)
              (links_found found needs));
        })

  -- ---- what was found in the end

  pub finished : (looked : ℕ) (found : List ℕ) → length found ≤ looked → IsSearch pool plan looked found → IsRuntime pool plan (set_of count found)
  finished looked found all search =
      let members : AllByRecursion (λ n. AllByRecursion (HasMet pool plan (set_of count found)) (requirements_at pool n)) found
      = subst (AllByRecursion (λ n. AllByRecursion (HasMet pool plan (set_of count found)) (requirements_at pool n))) (take_all looked found all) search.members in
      record {
        closed = record {
          root = search.root;
          members = λ number e. one_of (λ n. AllByRecursion (HasMet pool plan (set_of count found)) (requirements_at pool n)) found number members (among_in number found (set_in count number found e));
        };
        least = λ other closed number e. one_of (IsDue pool plan) found number search.due (among_in number found (set_in count number found e)) other closed;
      }
