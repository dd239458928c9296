-- For each offer that meets a requirement the first offer of its package: whose it is, and how the package stands for the
-- name.
use Rattle.std.proofs.Common.{◌≡◌, ℕ, zero, suc, ◌+◌, ◌≤◌, Bool, true, false, cond, List, [], ◌∷◌, ◌++◌, map, filter, Option, Some, None, refl, sym, ap, subst, ◌∙◌, arith, inl, inr}
use Rattle.std.specs.Prelude.{◌⊎◌, ◌||◌, ◌==◌}
use Rattle.std.specs.List.{list_any, slice_get}
use Rattle.manifest_read.specs.declared.types.Link.{Link}
use Rattle.manifest_read.specs.declared.types.Package.{Package}
use Rattle.plan_rules.specs.declared.index.LinkKind.TheVariants.{Replace, Provide}
use Rattle.plan_rules.specs.Requirements.{owns, names, meets}
use Rattle.plan_rules.specs.Preference.{way_of}
use Rattle.plan_rules.specs.Offers.{Way, Offered, Owning, Replacing, Providing, way_by, owners_of, linked, offers_by, offers_from, is_met}
use Rattle.plan_rules.specs.Ranks.{head_of, heads}
use Rattle.plan_rules.proofs.Lists.{Among, among_left, among_right, among_either, among_map, map_among, among_any, any_among, among_filter, filter_among}
use Rattle.plan_rules.proofs.Offering.{any_offer}

-- ---- offers of one number that stand next to each other

abbrev is_seen : Option Offered → ℕ → Bool
is_seen None number = false
is_seen (Some last) number = last.number == number

itself : (number : ℕ) → (number == number) ≡ true
itself number = grind arith

apart : (one number other : ℕ) → one ≡ number → suc number ≤ other → (one == other) ≡ false
apart one number other e le = grind (arith, e, le)

head_same : (head offer : Offered) → offer.number ≡ head.number → head_of (Some head) offer ≡ head
head_same head offer e = ap (λ n. cond (head.number == n) head offer) e ∙ ap (λ t. cond t head offer) (itself head.number)

head_new : (last : Option Offered) (offer : Offered) → is_seen last offer.number ≡ false → head_of last offer ≡ offer
head_new None offer e = refl
head_new (Some last) offer e = ap (λ t. cond t last offer) e

abbrev ending : Option Offered → List Offered → Option Offered
ending last [] = last
ending last (offer ∷ others) = Some offer

abbrev pub way_place : Way → ℕ
way_place Owning = 0
way_place (Replacing link) = 1
way_place (Providing link) = 2

module _ (need : Link) where
  abbrev firsts : List Offered → List Offered
  firsts [] = []
  firsts (offer ∷ others) = map (λ it. offer) (filter (is_met need) (offer ∷ others))

  passed_step : (t : Bool) (head offer : Offered) (block more tail : List Offered) → tail ≡ map (λ it. head) (filter (is_met need) block) ++ more
      → cond t (head ∷ tail) tail ≡ map (λ it. head) (cond t (offer ∷ filter (is_met need) block) (filter (is_met need) block)) ++ more
  passed_step true head offer block more tail e = ap (λ some. head ∷ some) e
  passed_step false head offer block more tail e = e

  abbrev behind : Offered → Offered → List Offered → List Offered
  behind offer head tail = cond (is_met need offer) (head ∷ heads need (Some head) tail) (heads need (Some head) tail)

  passed : (head : Offered) (block rest : List Offered) → ((offer : Offered) → Among offer block → offer.number ≡ head.number)
      → heads need (Some head) (block ++ rest) ≡ map (λ it. head) (filter (is_met need) block) ++ heads need (Some head) rest
  passed head [] rest same = refl
  passed head (offer ∷ block) rest same =
      ap (λ h. behind offer h (block ++ rest)) (head_same head offer (same offer (inl refl)))
      ∙ passed_step (is_met need offer) head offer block (heads need (Some head) rest) (heads need (Some head) (block ++ rest)) (passed head block rest (λ it there. same it (inr there)))

  block_heads : (number : ℕ) (last : Option Offered) (block rest : List Offered) → is_seen last number ≡ false → ((offer : Offered) → Among offer block → offer.number ≡ number)
      → heads need last (block ++ rest) ≡ firsts block ++ heads need (ending last block) rest
  block_heads number last [] rest unseen same = refl
  block_heads number last (offer ∷ block) rest unseen same =
      ap (λ h. behind offer h (block ++ rest)) (head_new last offer (ap (is_seen last) (same offer (inl refl)) ∙ unseen))
      ∙ passed_step (is_met need offer) offer offer block (heads need (Some offer) rest) (heads need (Some offer) (block ++ rest)) (passed offer block rest (λ it there. same it (inr there) ∙ sym (same offer (inl refl))))

  -- ---- the first of a block

  abbrev place_first : List Offered → ℕ
  place_first [] = 2
  place_first (offer ∷ others) = way_place offer.way

  record IsFirstOf (block : List Offered) (head : Offered) : Type 0 where
    there : Among head block
    place : place_first block ≡ way_place head.way
    met : list_any (is_met need) block ≡ true

  first_of : (block : List Offered) (head : Offered) → Among head (firsts block) → IsFirstOf block head
  first_of [] head found = absurd found
  first_of (offer ∷ others) head found =
      let one = among_map (λ it. offer) (filter (is_met need) (offer ∷ others)) head found in
      let met = among_filter (is_met need) (offer ∷ others) one.0 one.1 in
      record { there = inl one.2; place = ap (λ it. way_place it.way) one.2; met = any_among (is_met need) (offer ∷ others) one.0 met.0 met.1 }

  some_first : (block : List Offered) → list_any (is_met need) block ≡ true → (head : Offered) × Among head (firsts block)
  some_first [] met = absurd cc
  some_first (offer ∷ others) met =
      let one = among_any (is_met need) (offer ∷ others) met in
      (offer, map_among (λ it. offer) (filter (is_met need) (offer ∷ others)) one.0 (filter_among (is_met need) (offer ∷ others) one.0 one.1 one.2))

  -- ---- of one package

  module _ (number : ℕ) (party : Package) where
    record IsOwn (offer : Offered) : Type 0 where
      number_is : offer.number ≡ number
      party_is : offer.party ≡ party

    own_owner : (t : Bool) (offer : Offered) → Among offer (cond t (record { number = number; party = party; way = Owning } ∷ []) []) → IsOwn offer
    own_owner true offer (inl e) = record { number_is = sym (ap (λ it. it.number) e); party_is = sym (ap (λ it. it.party) e) }
    own_owner true offer (inr none) = absurd none
    own_owner false offer none = absurd none

    own_link : (way : Link → Way) (links : List Link) (offer : Offered) → Among offer (linked need.name number party way links) → IsOwn offer
    own_link way links offer found =
        let one = among_map (λ link. record { number = number; party = party; way = way link }) (filter (names need.name) links) offer found in
        record { number_is = sym (ap (λ it. it.number) one.2); party_is = sym (ap (λ it. it.party) one.2) }

    abbrev replaced : List Offered
    replaced = linked need.name number party (way_by Replace) party.replace

    abbrev provided : List Offered
    provided = linked need.name number party (way_by Provide) party.provide

    own_links : (offer : Offered) → Among offer replaced ⊎ Among offer provided → IsOwn offer
    own_links offer (inl found) = own_link (way_by Replace) party.replace offer found
    own_links offer (inr found) = own_link (way_by Provide) party.provide offer found

    own_either : (offer : Offered) → Among offer (owners_of need.name number party) ⊎ Among offer (replaced ++ provided) → IsOwn offer
    own_either offer (inl found) = own_owner (owns need.name party) offer found
    own_either offer (inr found) = own_links offer (among_either offer replaced provided found)

    own : (offer : Offered) → Among offer (offers_by need.name number party) → IsOwn offer
    own offer found = own_either offer (among_either offer (owners_of need.name number party) (replaced ++ provided) found)

    place_owner : (t : Bool) (more : List Offered) → place_first (cond t (record { number = number; party = party; way = Owning } ∷ []) [] ++ more) ≡ cond t 0 (place_first more)
    place_owner true more = refl
    place_owner false more = refl

    abbrev by_link : (Link → Way) → Link → Offered
    by_link way link = record { number = number; party = party; way = way link }

    provided_step : (t : Bool) (link : Link) (links : List Link) → place_first (map (by_link (way_by Provide)) (filter (names need.name) links)) ≡ 2
        → place_first (map (by_link (way_by Provide)) (cond t (link ∷ filter (names need.name) links) (filter (names need.name) links))) ≡ 2
    provided_step true link links rest = refl
    provided_step false link links rest = rest

    place_provided : (links : List Link) → place_first (map (by_link (way_by Provide)) (filter (names need.name) links)) ≡ 2
    place_provided [] = refl
    place_provided (link ∷ links) = provided_step (names need.name link) link links (place_provided links)

    replaced_step : (t : Bool) (link : Link) (links : List Link) (more : List Offered) → place_first (map (by_link (way_by Replace)) (filter (names need.name) links) ++ more) ≡ cond (list_any (names need.name) links) 1 2
        → place_first (map (by_link (way_by Replace)) (cond t (link ∷ filter (names need.name) links) (filter (names need.name) links)) ++ more) ≡ cond (t || list_any (names need.name) links) 1 2
    replaced_step true link links more rest = refl
    replaced_step false link links more rest = rest

    place_replaced : (links : List Link) (more : List Offered) → place_first more ≡ 2 → place_first (map (by_link (way_by Replace)) (filter (names need.name) links) ++ more) ≡ cond (list_any (names need.name) links) 1 2
    place_replaced [] more e = e
    place_replaced (link ∷ links) more e = replaced_step (names need.name link) link links more (place_replaced links more e)

    place_is : place_first (offers_by need.name number party) ≡ way_of need party
    place_is = place_owner (owns need.name party) (replaced ++ provided) ∙ ap (cond (owns need.name party) 0) (place_replaced party.replace provided (place_provided party.provide))

  -- ---- package by package

  pub record IsHeadAt (number : ℕ) (list : List Package) (head : Offered) : Type 0 where
    pub at : ℕ
    pub number_is : head.number ≡ number + at
    pub party_is : slice_get list at ≡ Some head.party
    pub place_is : way_place head.way ≡ way_of need head.party
    pub meets_is : meets need head.party ≡ true

  unseen_behind : (number : ℕ) (last : Option Offered) (block : List Offered) → ((other : ℕ) → number ≤ other → is_seen last other ≡ false) → ((offer : Offered) → Among offer block → offer.number ≡ number)
      → (other : ℕ) → suc number ≤ other → is_seen (ending last block) other ≡ false
  unseen_behind number last [] unseen same other le = unseen other (omega (arith, le))
  unseen_behind number last (offer ∷ block) unseen same other le = apart offer.number number other (same offer (inl refl)) le

  package_heads : (number : ℕ) (party : Package) (last : Option Offered) (rest : List Offered) → ((other : ℕ) → number ≤ other → is_seen last other ≡ false)
      → heads need last (offers_by need.name number party ++ rest) ≡ firsts (offers_by need.name number party) ++ heads need (ending last (offers_by need.name number party)) rest
  package_heads number party last rest unseen = block_heads number last (offers_by need.name number party) rest (unseen number (omega arith)) (λ offer there. (own number party offer there).number_is)

  here : (number : ℕ) (party : Package) (parties : List Package) (head : Offered) → Among head (firsts (offers_by need.name number party)) → IsHeadAt number (party ∷ parties) head
  here number party parties head found =
      let first = first_of (offers_by need.name number party) head found in
      let mine = own number party head first.there in
      record {
        at = 0;
        number_is = omega (arith, mine.number_is);
        party_is = ap Some (sym mine.party_is);
        place_is = sym first.place ∙ place_is number party ∙ ap (way_of need) (sym mine.party_is);
        meets_is = ap (meets need) mine.party_is ∙ sym (any_offer need party number) ∙ first.met;
      }

  later : (number : ℕ) (party : Package) (parties : List Package) (head : Offered) → IsHeadAt (suc number) parties head → IsHeadAt number (party ∷ parties) head
  later number party parties head one = record { at = suc one.at; number_is = omega (arith, one.number_is); party_is = one.party_is; place_is = one.place_is; meets_is = one.meets_is }

  at_either : (number : ℕ) (party : Package) (parties : List Package) (head : Offered) (rest : List Offered) → (Among head rest → IsHeadAt (suc number) parties head)
      → Among head (firsts (offers_by need.name number party)) ⊎ Among head rest → IsHeadAt number (party ∷ parties) head
  at_either number party parties head rest by (inl found) = here number party parties head found
  at_either number party parties head rest by (inr found) = later number party parties head (by found)

  pub heads_at : (number : ℕ) (list : List Package) (last : Option Offered) → ((other : ℕ) → number ≤ other → is_seen last other ≡ false)
      → (head : Offered) → Among head (heads need last (offers_from need.name number list)) → IsHeadAt number list head
  heads_at number [] last unseen head found = absurd found
  heads_at number (party ∷ parties) last unseen head found =
      let block = offers_by need.name number party in
      let rest = heads need (ending last block) (offers_from need.name (suc number) parties) in
      let next : (other : ℕ) → suc number ≤ other → is_seen (ending last block) other ≡ false = unseen_behind number last block unseen (λ offer there. (own number party offer there).number_is) in
      at_either number party parties head rest (λ there. heads_at (suc number) parties (ending last block) next head there)
      (among_either head (firsts block) rest (subst (Among head) (package_heads number party last (offers_from need.name (suc number) parties) unseen) found))

  same_package : (x y : Package) → Some x ≡ Some y → x ≡ y
  same_package x y e = cc

  pub heads_of : (number : ℕ) (list : List Package) (last : Option Offered) → ((other : ℕ) → number ≤ other → is_seen last other ≡ false)
      → (at : ℕ) (one : Package) → slice_get list at ≡ Some one → meets need one ≡ true → (head : Offered) × Among head (heads need last (offers_from need.name number list)) × (head.number ≡ number + at)
  heads_of number [] last unseen at one there met = absurd cc
  heads_of number (party ∷ parties) last unseen zero one there met =
      let block = offers_by need.name number party in
      let rest = offers_from need.name (suc number) parties in
      let found = some_first block (any_offer need party number ∙ ap (meets need) (same_package party one there) ∙ met) in
      let mine = own number party found.0 (first_of block found.0 found.1).there in
      (found.0, subst (Among found.0) (sym (package_heads number party last rest unseen)) (among_left found.0 (firsts block) (heads need (ending last block) rest) found.1), omega (arith, mine.number_is))
  heads_of number (party ∷ parties) last unseen (suc at) one there met =
      let block = offers_by need.name number party in
      let rest = offers_from need.name (suc number) parties in
      let next : (other : ℕ) → suc number ≤ other → is_seen (ending last block) other ≡ false = unseen_behind number last block unseen (λ offer found. (own number party offer found).number_is) in
      let found = heads_of (suc number) parties (ending last block) next at one there met in
      (found.0, subst (Among found.0) (sym (package_heads number party last rest unseen)) (among_right found.0 (firsts block) (heads need (ending last block) rest) found.1), omega (arith, found.2))
