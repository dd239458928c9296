-- What the offers of a name say of its packages.
use Rattle.std.proofs.Common.{◌≡◌, ℕ, suc, ◌<◌, Bool, true, false, cond, not, List, [], ◌∷◌, ◌++◌, map, filter, find, Option, Some, None, refl, ap, ◌∙◌, arith}
use Rattle.std.specs.Prelude.{◌||◌, ◌&&◌, ◌==◌, option_map}
use Rattle.std.specs.List.{list_any}
use Rattle.std.specs.Option.{option_or, option_and_then}
use Rattle.std.proofs.lemmas.List.Folds.{find-append, list_any-append}
use Rattle.path_name.specs.Orders.{bytes_are_equal}
use Rattle.constraint_set.specs.Satisfaction.{satisfies}
use Rattle.constraint_set.specs.Overlap.{overlaps}
use Rattle.manifest_read.specs.declared.types.Link.{Link}
use Rattle.manifest_read.specs.declared.types.Package.{Package}
use Rattle.plan_rules.specs.declared.index.LinkKind.TheVariants.{Replace, Provide}
use Rattle.plan_rules.specs.declared.rule.Rule.{Rule}
use Rattle.plan_rules.specs.declared.rule.Rule.TheVariants as rules
use Rattle.plan_rules.specs.Requirements.{owns, names, takes, owns_as_wanted, stands_for, replaces_as_wanted, provides_as_wanted, meets}
use Rattle.plan_rules.specs.Validity.{takers, rule_of_takers, is_against}
use Rattle.plan_rules.specs.Offers.{Way, Offered, Owning, Replacing, Providing, way_by, owners_of, linked, offers_by, offers_from, is_met, is_taking, is_taking_beside, is_other_taker, rule_of_offers}

-- ---- what meets a requirement

module _ (need : Link) (party : Package) (number : ℕ) where
  any_owner : (t : Bool) → list_any (is_met need) (cond t (record { number = number; party = party; way = Owning } ∷ []) []) ≡ (t && satisfies need.wants party.version)
  any_owner true = or_false (satisfies need.wants party.version)
    where
      or_false : (t : Bool) → (t || false) ≡ t
      or_false true = refl
      or_false false = refl
  any_owner false = refl

  link_step : (way : Link → Way) → ((link : Link) → is_met need (record { number = number; party = party; way = way link }) ≡ overlaps need.wants link.wants) → (t : Bool) (link : Link) (links : List Link)
      → list_any (is_met need) (linked need.name number party way links) ≡ list_any (stands_for need) links
      → list_any (is_met need) (map (λ it. record { number = number; party = party; way = way it }) (cond t (link ∷ filter (names need.name) links) (filter (names need.name) links)))
      ≡ ((t && overlaps need.wants link.wants) || list_any (stands_for need) links)
  link_step way met true link links rest = rw (met link, rest) refl
  link_step way met false link links rest = rest

  any_link : (way : Link → Way) → ((link : Link) → is_met need (record { number = number; party = party; way = way link }) ≡ overlaps need.wants link.wants) → (links : List Link)
      → list_any (is_met need) (linked need.name number party way links) ≡ list_any (stands_for need) links
  any_link way met [] = refl
  any_link way met (link ∷ links) = link_step way met (names need.name link) link links (any_link way met links)

  or_assoc : (a b c : Bool) → (a || (b || c)) ≡ ((a || b) || c)
  or_assoc true b c = refl
  or_assoc false b c = refl

  pub any_offer : list_any (is_met need) (offers_by need.name number party) ≡ meets need party
  unfolding meets
  any_offer = list_any-append (is_met need) (owners_of need.name number party) (linked need.name number party (way_by Replace) party.replace ++ linked need.name number party (way_by Provide) party.provide)
      ∙ ap (λ t. list_any (is_met need) (owners_of need.name number party) || t)
      (list_any-append (is_met need) (linked need.name number party (way_by Replace) party.replace) (linked need.name number party (way_by Provide) party.provide))
      ∙ rw (any_owner (owns need.name party), any_link (way_by Replace) (λ link. refl) party.replace, any_link (way_by Provide) (λ link. refl) party.provide) (or_assoc (owns_as_wanted need party) (replaces_as_wanted need party) (provides_as_wanted need party))

pub any_offers : (need : Link) (number : ℕ) (list : List Package) → list_any (is_met need) (offers_from need.name number list) ≡ list_any (meets need) list
any_offers need number [] = refl
any_offers need number (party ∷ parties) = list_any-append (is_met need) (offers_by need.name number party) (offers_from need.name (suc number) parties)
    ∙ rw (any_offer need party number, any_offers need (suc number) parties) refl

pub any_map : {X Y : Type 0} (p : Y → Bool) (f : X → Y) (xs : List X) → list_any (λ x. p (f x)) xs ≡ list_any p (map f xs)
any_map p f [] = refl
any_map p f (x ∷ xs) = ap (λ t. p (f x) || t) (any_map p f xs)

-- ---- who owns or replaces the name

or_none : {X : Type 0} (o : Option X) → option_or o None ≡ o
or_none None = refl
or_none (Some x) = refl

map_or : {X Y : Type 0} (f : X → Y) (first second : Option X) → option_map f (option_or first second) ≡ option_or (option_map f first) (option_map f second)
map_or f None second = refl
map_or f (Some x) second = refl

-- a link that provides takes nothing
module _ (p : Offered → Bool) (name : List ℕ) (number : ℕ) (party : Package) (none : (link : Link) → p (record { number = number; party = party; way = Providing link }) ≡ false) where
  provided_step : (t : Bool) (link : Link) (links : List Link) → find p (linked name number party (way_by Provide) links) ≡ None
      → find p (map (λ it. record { number = number; party = party; way = way_by Provide it }) (cond t (link ∷ filter (names name) links) (filter (names name) links))) ≡ None
  provided_step true link links rest = rw (none link) rest
  provided_step false link links rest = rest

  none_provided : (links : List Link) → find p (linked name number party (way_by Provide) links) ≡ None
  none_provided [] = refl
  none_provided (link ∷ links) = provided_step (names name link) link links (none_provided links)

-- of links by which it replaces, the first that passes shows the package
module _ {Y : Type 0} (f : Offered → Y) (y : Y) (p : Offered → Bool) (q : Link → Bool) (name : List ℕ) (number : ℕ) (party : Package) (shows : (way : Way) → f (record { number = number; party = party; way = way }) ≡ y)
    (same : (link : Link) → p (record { number = number; party = party; way = Replacing link }) ≡ q link) where
  replaced_step : (t s : Bool) (link : Link) (links : List Link) → q link ≡ s
      → option_map f (find p (linked name number party (way_by Replace) links)) ≡ cond (list_any (λ it. names name it && q it) links) (Some y) None
      → option_map f (find p (map (λ it. record { number = number; party = party; way = way_by Replace it }) (cond t (link ∷ filter (names name) links) (filter (names name) links))))
      ≡ cond ((t && s) || list_any (λ it. names name it && q it) links) (Some y) None
  replaced_step true true link links e rest = rw (same link, e) (ap Some (shows (Replacing link)))
  replaced_step true false link links e rest = rw (same link, e) rest
  replaced_step false s link links e rest = rest

  first_replaced : (links : List Link) → option_map f (find p (linked name number party (way_by Replace) links)) ≡ cond (list_any (λ it. names name it && q it) links) (Some y) None
  first_replaced [] = refl
  first_replaced (link ∷ links) = replaced_step (names name link) (q link) link links refl (first_replaced links)

-- the first offer of a package that passes, which no providing one does, shows the package
module _ {Y : Type 0} (f : Offered → Y) (y : Y) (p : Offered → Bool) (q : Link → Bool) (name : List ℕ) (number : ℕ) (party : Package) (own : Bool) (shows : (way : Way) → f (record { number = number; party = party; way = way }) ≡ y) where
  first_owner : (t : Bool) → p (record { number = number; party = party; way = Owning }) ≡ own
      → option_map f (find p (cond t (record { number = number; party = party; way = Owning } ∷ []) [])) ≡ cond (t && own) (Some y) None
  first_owner false e = refl
  first_owner true e = either own e
    where
      either : (s : Bool) → p (record { number = number; party = party; way = Owning }) ≡ s
          → option_map f (find p (record { number = number; party = party; way = Owning } ∷ [])) ≡ cond s (Some y) None
      either true e = rw e (ap Some (shows Owning))
      either false e = rw e refl

  both_ways : (t s : Bool) → option_or (cond t (Some y) None) (cond s (Some y) None) ≡ cond (t || s) (Some y) None
  both_ways true s = refl
  both_ways false s = refl

  pub first_offer : p (record { number = number; party = party; way = Owning }) ≡ own → ((link : Link) → p (record { number = number; party = party; way = Replacing link }) ≡ q link)
      → ((link : Link) → p (record { number = number; party = party; way = Providing link }) ≡ false)
      → option_map f (find p (offers_by name number party)) ≡ cond ((owns name party && own) || list_any (λ link. names name link && q link) party.replace) (Some y) None
  first_offer owning replacing none =
      ap (option_map f) (find-append p (owners_of name number party) (linked name number party (way_by Replace) party.replace ++ linked name number party (way_by Provide) party.provide)
      ∙ ap (option_or (find p (owners_of name number party))) (find-append p (linked name number party (way_by Replace) party.replace) (linked name number party (way_by Provide) party.provide)
      ∙ ap (option_or (find p (linked name number party (way_by Replace) party.replace))) (none_provided p name number party none party.provide)
      ∙ or_none (find p (linked name number party (way_by Replace) party.replace))))
      ∙ map_or f (find p (owners_of name number party)) (find p (linked name number party (way_by Replace) party.replace))
      ∙ rw (first_owner (owns name party) owning, first_replaced f y p q name number party shows replacing party.replace) (both_ways (owns name party && own) (list_any (λ link. names name link && q link) party.replace))

-- ---- a conflict

and_true_right : (t : Bool) → (t && true) ≡ t
and_true_right true = refl
and_true_right false = refl

and_false_right : (t : Bool) → (t && false) ≡ false
and_false_right true = refl
and_false_right false = refl

module _ (from : List ℕ) (link : Link) where
  abbrev pub other : Package → Bool
  other party = not (bytes_are_equal party.name from)

  none_of : (links : List Link) → list_any (λ it. names link.name it && (overlaps link.wants it.wants && false)) links ≡ false
  none_of [] = refl
  none_of (it ∷ links) = rw (and_false_right (overlaps link.wants it.wants), and_false_right (names link.name it)) (none_of links)

  all_of : (links : List Link) → list_any (λ it. names link.name it && (overlaps link.wants it.wants && true)) links ≡ list_any (stands_for link) links
  all_of [] = refl
  all_of (it ∷ links) = rw (and_true_right (overlaps link.wants it.wants), all_of links) refl

  against_step : (s : Bool) (party : Package)
      → ((owns link.name party && (satisfies link.wants party.version && s)) || list_any (λ it. names link.name it && (overlaps link.wants it.wants && s)) party.replace) ≡ (s && is_against link party)
  against_step true party = rw (and_true_right (satisfies link.wants party.version), all_of party.replace) refl
  against_step false party = rw (and_false_right (satisfies link.wants party.version), and_false_right (owns link.name party), none_of party.replace) refl

  pub other_offer : (number : ℕ) (party : Package) → option_map (λ offer. offer.party) (find (is_other_taker from link) (offers_by link.name number party)) ≡ cond (other party && is_against link party) (Some party) None
  other_offer number party = first_offer (λ offer. offer.party) party (is_other_taker from link) (λ it. overlaps link.wants it.wants && other party) link.name number party (satisfies link.wants party.version && other party) (λ way. refl) refl (λ it. refl) (λ it. refl)
      ∙ ap (λ t. cond t (Some party) None) (against_step (other party) party)

  find_next : (t : Bool) (party : Package) (rest : Option Package) → option_or (cond t (Some party) None) rest ≡ cond t (Some party) rest
  find_next true party rest = refl
  find_next false party rest = refl

  pub other_takers : (number : ℕ) (list : List Package) → option_map (λ offer. offer.party) (find (is_other_taker from link) (offers_from link.name number list))
      ≡ find (λ party. not (bytes_are_equal party.name from) && is_against link party) list
  other_takers number [] = refl
  other_takers number (party ∷ parties) =
      ap (option_map (λ offer. offer.party)) (find-append (is_other_taker from link) (offers_by link.name number party) (offers_from link.name (suc number) parties))
      ∙ map_or (λ offer. offer.party) (find (is_other_taker from link) (offers_by link.name number party)) (find (is_other_taker from link) (offers_from link.name (suc number) parties))
      ∙ rw (other_offer number party, other_takers (suc number) parties) (find_next (other party && is_against link party) party (find (λ it. not (bytes_are_equal it.name from) && is_against link it) parties))

-- ---- a name with two owners

module _ (name : List ℕ) where
  any_names : (links : List Link) → list_any (λ it. names name it && true) links ≡ list_any (names name) links
  any_names [] = refl
  any_names (it ∷ links) = rw (and_true_right (names name it), any_names links) refl

  none_names : (links : List Link) → list_any (λ it. names name it && false) links ≡ false
  none_names [] = refl
  none_names (it ∷ links) = rw (and_false_right (names name it)) (none_names links)

  abbrev pub numbered : Offered → ℕ × Package
  numbered offer = (offer.number, offer.party)

  -- the first that takes the name shows its package and its number
  pub first_taking : (number : ℕ) (party : Package) → option_map numbered (find is_taking (offers_by name number party)) ≡ cond (takes name party) (Some (number, party)) None
  first_taking number party = first_offer numbered (number, party) is_taking (λ it. true) name number party true (λ way. refl) refl (λ it. refl) (λ it. refl)
      ∙ rw (and_true_right (owns name party), any_names party.replace) refl

  -- beside a number
  beside_step : (number other : ℕ) (s : Bool) (party : Package) → (number == other) ≡ s → option_map (λ offer. offer.party) (find (is_taking_beside other) (offers_by name number party)) ≡ cond (not s && takes name party) (Some party) None
  beside_step number other true party e = first_offer (λ offer. offer.party) party (is_taking_beside other) (λ it. false) name number party false (λ way. refl) (ap not e) (λ it. ap not e) (λ it. refl)
      ∙ rw (and_false_right (owns name party), none_names party.replace) refl
  beside_step number other false party e = first_offer (λ offer. offer.party) party (is_taking_beside other) (λ it. true) name number party true (λ way. refl) (ap not e) (λ it. ap not e) (λ it. refl)
      ∙ rw (and_true_right (owns name party), any_names party.replace) refl

  none_shown : {Y : Type 0} (f : Offered → Y) (found : Option Offered) → option_map f found ≡ None → found ≡ None
  none_shown f None e = refl
  none_shown f (Some offer) e = absurd cc

  itself : (number : ℕ) → (number == number) ≡ true
  itself number = grind arith

  later_apart : (number other : ℕ) → other < number → (number == other) ≡ false
  later_apart number other lt = grind (arith, lt)

  -- among later packages the first that takes the name
  later_takers : (other number : ℕ) (list : List Package) → other < number → option_map (λ offer. offer.party) (find (is_taking_beside other) (offers_from name number list)) ≡ find (takes name) list
  later_takers other number [] lt = refl
  later_takers other number (party ∷ parties) lt =
      ap (option_map (λ offer. offer.party)) (find-append (is_taking_beside other) (offers_by name number party) (offers_from name (suc number) parties))
      ∙ map_or (λ offer. offer.party) (find (is_taking_beside other) (offers_by name number party)) (find (is_taking_beside other) (offers_from name (suc number) parties))
      ∙ rw (beside_step number other false party (later_apart number other lt), later_takers other (suc number) parties (omega (arith, lt))) (next (takes name party))
    where
      next : (t : Bool) → option_or (cond t (Some party) None) (find (takes name) parties) ≡ cond t (Some party) (find (takes name) parties)
      next true = refl
      next false = refl

  abbrev second_of : List Offered → Option Offered → Option (Package × Package)
  second_of offers found = option_and_then (λ one. option_map {U = Package × Package} (λ other. (one.party, other.party)) (find (is_taking_beside one.number) offers)) found

  abbrev second_by : List Offered → Option (ℕ × Package) → Option (Package × Package)
  second_by offers found = option_and_then (λ one. option_map {U = Package × Package} (λ other. (one.1, other)) (option_map (λ offer. offer.party) (find (is_taking_beside one.0) offers))) found

  map_map : (party : Package) (found : Option Offered) → option_map {U = Package × Package} (λ other. (party, other.party)) found ≡ option_map {U = Package × Package} (λ other. (party, other)) (option_map (λ offer. offer.party) found)
  map_map party None = refl
  map_map party (Some offer) = refl

  by_number : (offers : List Offered) (found : Option Offered) → second_of offers found ≡ second_by offers (option_map numbered found)
  by_number offers None = refl
  by_number offers (Some one) = map_map one.party (find (is_taking_beside one.number) offers)

  abbrev rule_by : Option (Package × Package) → Option Rule
  rule_by found = option_map (λ both. rules.TwoOwners name both.0.name both.1.name) found

  -- the first of those that take the name, and the next
  filtered_step : (t : Bool) (party second : Package) (others : List Package) → rule_by (option_map {U = Package × Package} (λ other. (party, other)) (find (takes name) others)) ≡ rule_of_takers name (party ∷ takers name others)
      → rule_by (option_map {U = Package × Package} (λ other. (party, other)) (cond t (Some second) (find (takes name) others))) ≡ rule_of_takers name (party ∷ cond t (second ∷ takers name others) (takers name others))
  filtered_step true party second others rest = refl
  filtered_step false party second others rest = rest

  first_filtered : (party : Package) (list : List Package) → rule_by (option_map {U = Package × Package} (λ other. (party, other)) (find (takes name) list)) ≡ rule_of_takers name (party ∷ takers name list)
  first_filtered party [] = refl
  first_filtered party (second ∷ others) = filtered_step (takes name second) party second others (first_filtered party others)

  -- offers of a package that takes nothing don't count
  unseen : (number : ℕ) (party : Package) (behind : List Offered) (found : Option Offered) → takes name party ≡ false → second_of (offers_by name number party ++ behind) found ≡ second_of behind found
  unseen number party behind None e = refl
  unseen number party behind (Some one) e = ap (option_map {U = Package × Package} (λ other. (one.party, other.party)))
      (find-append (is_taking_beside one.number) (offers_by name number party) behind
      ∙ ap (λ o. option_or o (find (is_taking_beside one.number) behind)) (none_shown (λ offer. offer.party) (find (is_taking_beside one.number) (offers_by name number party)) (none (number == one.number) refl)))
    where
      none : (s : Bool) → (number == one.number) ≡ s → option_map (λ offer. offer.party) (find (is_taking_beside one.number) (offers_by name number party)) ≡ None
      none s f = beside_step number one.number s party f ∙ ap (λ t. cond (not s && t) (Some party) None) e ∙ ap (λ t. cond t (Some party) None) (and_false_right (not s))

  taken_step : (t : Bool) (number : ℕ) (party : Package) (parties : List Package) → takes name party ≡ t
      → rule_by (second_of (offers_from name (suc number) parties) (find is_taking (offers_from name (suc number) parties))) ≡ rule_of_takers name (takers name parties)
      → rule_by (second_of (offers_by name number party ++ offers_from name (suc number) parties) (find is_taking (offers_by name number party ++ offers_from name (suc number) parties)))
      ≡ rule_of_takers name (cond t (party ∷ takers name parties) (takers name parties))
  taken_step true number party parties e rest =
      ap rule_by (by_number (offers_by name number party ++ offers_from name (suc number) parties) (find is_taking (offers_by name number party ++ offers_from name (suc number) parties))
      ∙ ap (second_by (offers_by name number party ++ offers_from name (suc number) parties))
      (ap (option_map numbered) (find-append is_taking (offers_by name number party) (offers_from name (suc number) parties))
      ∙ map_or numbered (find is_taking (offers_by name number party)) (find is_taking (offers_from name (suc number) parties))
      ∙ ap (λ o. option_or o (option_map numbered (find is_taking (offers_from name (suc number) parties)))) (first_taking number party ∙ ap (λ t. cond t (Some (number, party)) None) e))
      ∙ ap (option_map {U = Package × Package} (λ other. (party, other)))
      (ap (option_map (λ offer. offer.party)) (find-append (is_taking_beside number) (offers_by name number party) (offers_from name (suc number) parties)
      ∙ ap (λ o. option_or o (find (is_taking_beside number) (offers_from name (suc number) parties)))
      (none_shown (λ offer. offer.party) (find (is_taking_beside number) (offers_by name number party)) (beside_step number number true party (itself number))))
      ∙ later_takers number (suc number) parties (omega arith)))
      ∙ first_filtered party parties
  taken_step false number party parties e rest =
      ap rule_by (ap (second_of (offers_by name number party ++ offers_from name (suc number) parties))
      (find-append is_taking (offers_by name number party) (offers_from name (suc number) parties)
      ∙ ap (λ o. option_or o (find is_taking (offers_from name (suc number) parties))) (none_shown numbered (find is_taking (offers_by name number party)) (first_taking number party ∙ ap (λ t. cond t (Some (number, party)) None) e)))
      ∙ unseen number party (offers_from name (suc number) parties) (find is_taking (offers_from name (suc number) parties)) e)
      ∙ rest

  pub rule_taken : (number : ℕ) (list : List Package) → rule_of_offers name (offers_from name number list) ≡ rule_of_takers name (takers name list)
  rule_taken number [] = refl
  rule_taken number (party ∷ parties) = taken_step (takes name party) number party parties refl (rule_taken (suc number) parties)
