-- Whether a marked package is a rival of one, told from what stands at their names.
use Rattle.std.proofs.Common.{◌≡◌, ℕ, suc, Bool, true, false, cond, not, List, [], ◌∷◌, ◌++◌, map, filter, find, Option, Some, None, refl, sym, ap, ◌∙◌}
use Rattle.std.specs.Prelude.{◌&&◌, ◌||◌, option_map, is_some}
use Rattle.std.specs.List.{list_any}
use Rattle.std.proofs.lemmas.List.Folds.{list_any-append}
use Rattle.std.proofs.lemmas.Slice.Eq.{bytes_eq-Decides}
use Rattle.std.specs.Cmp.Lexicographic.{same_text}
use Rattle.path_name.specs.Orders.{bytes_are_equal}
use Rattle.constraint_set.specs.Satisfaction.{satisfies}
use Rattle.constraint_set.specs.Overlap.{overlaps}
use Rattle.manifest_read.specs.declared.types.Link.{Link}
use Rattle.manifest_read.specs.declared.types.Package.{Package}
use Rattle.plan_rules.specs.declared.index.LinkKind.TheVariants.{Replace, Provide}
use Rattle.plan_rules.specs.declared.rivals.Side.{Side}
use Rattle.plan_rules.specs.Sets.{Chosen}
use Rattle.plan_rules.specs.Requirements.{owns, names, takes, stands_for}
use Rattle.plan_rules.specs.Validity.{is_against}
use Rattle.plan_rules.specs.Offers.{Offered, Owning, rows_at, shown, way_by, owners_of, linked, offers_by, offers_from, is_taking, is_other_taker}
use Rattle.plan_rules.specs.Fitting.{share_a_name, conflicts_with, are_rivals}
use Rattle.plan_rules.specs.Rivals.{is_marked, any_marked, Opposed, opposed, conflicts_by, conflicts_from, IsSideOf, is_taking_among, is_hit_among, opposes_owner, opposes_replacer, taking_at, hit_at, owner_opposed, replacer_opposed, shares_in, conflicts_in, opposed_in, rivals_in}
use Rattle.plan_rules.proofs.Rows.{any_filter}
use Rattle.plan_rules.proofs.Offering.{any_map, numbered, first_taking, other_offer}

-- ---- truth values

pub and_none : (t : Bool) → (t && false) ≡ false
and_none true = refl
and_none false = refl

and_or : (s a b : Bool) → ((s && a) || (s && b)) ≡ (s && (a || b))
and_or true a b = refl
and_or false a b = refl

pub or_both : (a b c d : Bool) → ((a || b) || (c || d)) ≡ ((a || c) || (b || d))
or_both true b c d = refl
or_both false true true d = refl
or_both false true false d = refl
or_both false false c d = refl

pub both_true : (s t : Bool) → (s ≡ true → t ≡ true) → (t ≡ true → s ≡ true) → s ≡ t
both_true true t there back = sym (there refl)
both_true false true there back = back refl
both_true false false there back = refl

same_bytes : (a b : List ℕ) → bytes_are_equal a b ≡ bytes_are_equal b a
same_bytes a b = both_true (bytes_are_equal a b) (bytes_are_equal b a) (turned a b) (turned b a)
  where
    turned : (x y : List ℕ) → bytes_are_equal x y ≡ true → bytes_are_equal y x ≡ true
    turned x y e = (bytes_eq-Decides y x).1 (sym (same_text x y (sym e)))

-- ---- one of a list

module _ {X : Type 0} where
  any_same : (p q : X → Bool) → ((x : X) → p x ≡ q x) → (xs : List X) → list_any p xs ≡ list_any q xs
  any_same p q same [] = refl
  any_same p q same (x ∷ xs) = rw (same x, any_same p q same xs) refl

  any_and : (s : Bool) (p : X → Bool) (xs : List X) → list_any (λ x. s && p x) xs ≡ (s && list_any p xs)
  any_and s p [] = sym (and_none s)
  any_and s p (x ∷ xs) = rw (any_and s p xs) (and_or s (p x) (list_any p xs))

  any_or : (p q : X → Bool) (xs : List X) → (list_any p xs || list_any q xs) ≡ list_any (λ x. p x || q x) xs
  any_or p q [] = refl
  any_or p q (x ∷ xs) = or_both (p x) (list_any p xs) (q x) (list_any q xs) ∙ ap (λ t. (p x || q x) || t) (any_or p q xs)

  any_false : (xs : List X) → list_any (λ x. false) xs ≡ false
  any_false [] = refl
  any_false (x ∷ xs) = any_false xs

  found_step : (p : X → Bool) (t : Bool) (x : X) (xs : List X) → list_any p xs ≡ is_some (find p xs) → (t || list_any p xs) ≡ is_some (cond t (Some x) (find p xs))
  found_step p true x xs rest = refl
  found_step p false x xs rest = rest

  pub any_found : (p : X → Bool) (xs : List X) → list_any p xs ≡ is_some (find p xs)
  any_found p [] = refl
  any_found p (x ∷ xs) = found_step p (p x) x xs (any_found p xs)

any_swap : {X Y : Type 0} (p : X → Y → Bool) (xs : List X) (ys : List Y) → list_any (λ x. list_any (p x) ys) xs ≡ list_any (λ y. list_any (λ x. p x y) xs) ys
any_swap p [] ys = sym (any_false ys)
any_swap p (x ∷ xs) ys = ap (λ t. list_any (p x) ys || t) (any_swap p xs ys) ∙ any_or (p x) (λ y. list_any (λ z. p z y) xs) ys

pub some_shown : {X Y : Type 0} (f : X → Y) (o : Option X) → is_some (option_map f o) ≡ is_some o
some_shown f None = refl
some_shown f (Some x) = refl

some_by : {Y : Type 0} (t : Bool) (y : Y) → is_some (cond t (Some y) None) ≡ t
some_by true y = refl
some_by false y = refl

taking_same : (name : List ℕ) (number : ℕ) (party : Package) → list_any is_taking (offers_by name number party) ≡ takes name party
taking_same name number party = any_found is_taking (offers_by name number party) ∙ sym (some_shown (numbered name) (find is_taking (offers_by name number party)))
    ∙ ap is_some (first_taking name number party) ∙ some_by (takes name party) (number, party)

hit_same : (from : List ℕ) (link : Link) (number : ℕ) (party : Package) → list_any (is_other_taker from link) (offers_by link.name number party) ≡ (not (bytes_are_equal party.name from) && is_against link party)
hit_same from link number party = any_found (is_other_taker from link) (offers_by link.name number party) ∙ sym (some_shown (λ offer. offer.party) (find (is_other_taker from link) (offers_by link.name number party)))
    ∙ ap is_some (other_offer from link number party) ∙ some_by (not (bytes_are_equal party.name from) && is_against link party) party

-- ---- one of those that are marked

module _ (marks : Chosen) where
  marked_none : (number : ℕ) (list : List Package) → any_marked (λ party. false) marks number list ≡ false
  marked_none number [] = refl
  marked_none number (party ∷ parties) = rw (and_none (is_marked marks number)) (marked_none (suc number) parties)

  marked_or : (p q : Package → Bool) (number : ℕ) (list : List Package) → (any_marked p marks number list || any_marked q marks number list) ≡ any_marked (λ party. p party || q party) marks number list
  marked_or p q number [] = refl
  marked_or p q number (party ∷ parties) =
      or_both (is_marked marks number && p party) (any_marked p marks (suc number) parties) (is_marked marks number && q party) (any_marked q marks (suc number) parties)
      ∙ rw (and_or (is_marked marks number) (p party) (q party), marked_or p q (suc number) parties) refl

  marked_same : (p q : Package → Bool) → ((party : Package) → p party ≡ q party) → (number : ℕ) (list : List Package) → any_marked p marks number list ≡ any_marked q marks number list
  marked_same p q same number [] = refl
  marked_same p q same number (party ∷ parties) = rw (same party, marked_same p q same (suc number) parties) refl

  marked_any : {X : Type 0} (p : X → Package → Bool) (number : ℕ) (list : List Package) (xs : List X) → list_any (λ x. any_marked (p x) marks number list) xs ≡ any_marked (λ party. list_any (λ x. p x party) xs) marks number list
  marked_any p number list [] = sym (marked_none number list)
  marked_any p number list (x ∷ xs) = ap (λ t. any_marked (p x) marks number list || t) (marked_any p number list xs) ∙ marked_or (p x) (λ party. list_any (λ z. p z party) xs) number list

  -- ---- of offers

  module _ (q : Offered → Bool) (name : List ℕ) where
    abbrev among : Offered → Bool
    among offer = is_marked marks offer.number && q offer

    marked_map : {X : Type 0} (number : ℕ) (f : X → Offered) → ((x : X) → (f x).number ≡ number) → (xs : List X) → list_any among (map f xs) ≡ (is_marked marks number && list_any q (map f xs))
    marked_map number f same [] = sym (and_none (is_marked marks number))
    marked_map number f same (x ∷ xs) = ap (λ n. (is_marked marks n && q (f x)) || list_any among (map f xs)) (same x) ∙ ap (λ t. (is_marked marks number && q (f x)) || t) (marked_map number f same xs) ∙ and_or (is_marked marks number) (q (f x)) (list_any q (map f xs))

    marked_owner : (number : ℕ) (party : Package) (t : Bool) → list_any among (cond t (record { number = number; party = party; way = Owning } ∷ []) []) ≡ (is_marked marks number && list_any q (cond t (record { number = number; party = party; way = Owning } ∷ []) []))
    marked_owner number party true = marked_map number (λ it. record { number = number; party = it; way = Owning }) (λ it. refl) (party ∷ [])
    marked_owner number party false = sym (and_none (is_marked marks number))

    marked_append : (number : ℕ) (xs ys : List Offered) → list_any among xs ≡ (is_marked marks number && list_any q xs) → list_any among ys ≡ (is_marked marks number && list_any q ys) → list_any among (xs ++ ys) ≡ (is_marked marks number && list_any q (xs ++ ys))
    marked_append number xs ys left right = list_any-append among xs ys ∙ rw (left, right) (and_or (is_marked marks number) (list_any q xs) (list_any q ys)) ∙ ap (λ t. is_marked marks number && t) (sym (list_any-append q xs ys))

    marked_by : (number : ℕ) (party : Package) → list_any among (offers_by name number party) ≡ (is_marked marks number && list_any q (offers_by name number party))
    marked_by number party = marked_append number (owners_of name number party) (linked name number party (way_by Replace) party.replace ++ linked name number party (way_by Provide) party.provide)
        (marked_owner number party (owns name party))
        (marked_append number (linked name number party (way_by Replace) party.replace) (linked name number party (way_by Provide) party.provide)
        (marked_map number (λ link. record { number = number; party = party; way = way_by Replace link }) (λ link. refl) (filter (names name) party.replace))
        (marked_map number (λ link. record { number = number; party = party; way = way_by Provide link }) (λ link. refl) (filter (names name) party.provide)))

    pub marked_offers : (p : Package → Bool) → ((number : ℕ) (party : Package) → list_any q (offers_by name number party) ≡ p party) → (number : ℕ) (list : List Package) → list_any among (offers_from name number list) ≡ any_marked p marks number list
    marked_offers p same number [] = refl
    marked_offers p same number (party ∷ parties) = list_any-append among (offers_by name number party) (offers_from name (suc number) parties)
        ∙ rw (marked_by number party, same number party, marked_offers p same (suc number) parties) refl

  -- ---- of conflicts

  module _ (k : Package → Bool) (h : Link → Bool) (name : List ℕ) where
    abbrev opposing : Opposed → Bool
    opposing opponent = is_marked marks opponent.number && (k opponent.party && h opponent.link)

    opposing_by : (number : ℕ) (party : Package) → list_any opposing (conflicts_by name number party) ≡ (is_marked marks number && (k party && list_any (λ link. names name link && h link) party.conflict))
    opposing_by number party =
        sym (any_map opposing (λ link. record { number = number; party = party; link = link }) (filter (names name) party.conflict))
        ∙ any_and (is_marked marks number) (λ link. k party && h link) (filter (names name) party.conflict)
        ∙ ap (λ t. is_marked marks number && t) (any_and (k party) h (filter (names name) party.conflict) ∙ ap (λ t. k party && t) (sym (any_filter (names name) h party.conflict)))

    opposing_from : (number : ℕ) (list : List Package) → list_any opposing (conflicts_from name number list) ≡ any_marked (λ party. k party && list_any (λ link. names name link && h link) party.conflict) marks number list
    opposing_from number [] = refl
    opposing_from number (party ∷ parties) = list_any-append opposing (conflicts_by name number party) (conflicts_from name (suc number) parties)
        ∙ rw (opposing_by number party, opposing_from (suc number) parties) refl

-- ---- from what stands at names

module _ (side : Side) (marks : Chosen) (one : Package) (list : List Package) (known : IsSideOf side list) where
  taken : (name : List ℕ) → taking_at side marks name ≡ any_marked (takes name) marks 0 list
  taken name = any_map (is_taking_among marks) shown (rows_at side.index.offers name) ∙ ap (list_any (is_taking_among marks)) (known.index name)
      ∙ marked_offers marks is_taking name (takes name) (taking_same name) 0 list

  hit : (link : Link) → hit_at side marks one.name link ≡ any_marked (λ other. not (bytes_are_equal other.name one.name) && is_against link other) marks 0 list
  hit link = any_map (is_hit_among marks one.name link) shown (rows_at side.index.offers link.name) ∙ ap (list_any (is_hit_among marks one.name link)) (known.index link.name)
      ∙ marked_offers marks (is_other_taker one.name link) link.name (λ other. not (bytes_are_equal other.name one.name) && is_against link other) (hit_same one.name link) 0 list

  shares_marked : shares_in side marks one ≡ any_marked (λ other. takes one.name other || list_any (λ link. takes link.name other) one.replace) marks 0 list
  shares_marked = rw (taken one.name, any_same (λ link. taking_at side marks link.name) (λ link. any_marked (takes link.name) marks 0 list) (λ link. taken link.name) one.replace, marked_any marks (λ link. takes link.name) 0 list one.replace)
      (marked_or marks (takes one.name) (λ other. list_any (λ link. takes link.name other) one.replace) 0 list)

  shares_are : shares_in side marks one ≡ any_marked (share_a_name one) marks 0 list
  shares_are = shares_marked ∙ marked_same marks (λ other. takes one.name other || list_any (λ link. takes link.name other) one.replace) (share_a_name one)
      (λ other. ap (λ t. takes one.name other || t) (any_map (λ name. takes name other) (λ link. link.name) one.replace)) 0 list

  conflicts_are : conflicts_in side marks one ≡ any_marked (conflicts_with one) marks 0 list
  conflicts_are = any_same (hit_at side marks one.name) (λ link. any_marked (λ other. not (bytes_are_equal other.name one.name) && is_against link other) marks 0 list) hit one.conflict
      ∙ marked_any marks (λ link other. not (bytes_are_equal other.name one.name) && is_against link other) 0 list one.conflict
      ∙ marked_same marks (λ other. list_any (λ link. not (bytes_are_equal other.name one.name) && is_against link other) one.conflict) (conflicts_with one)
      (λ other. any_and (not (bytes_are_equal other.name one.name)) (λ link. is_against link other) one.conflict) 0 list

  abbrev is_other : Package → Bool
  is_other other = not (bytes_are_equal one.name other.name)

  abbrev hits_owner : Link → Bool
  hits_owner link = names one.name link && satisfies link.wants one.version

  abbrev hits_replacer : Link → Link → Bool
  hits_replacer mine link = names mine.name link && overlaps link.wants mine.wants

  owner : owner_opposed side marks one ≡ any_marked (λ other. is_other other && list_any hits_owner other.conflict) marks 0 list
  owner = any_map (opposes_owner marks one) opposed (rows_at side.opponents one.name) ∙ ap (list_any (opposes_owner marks one)) (known.opponents one.name)
      ∙ opposing_from marks is_other (λ link. satisfies link.wants one.version) one.name 0 list

  replacer : (mine : Link) → replacer_opposed side marks one mine ≡ any_marked (λ other. is_other other && list_any (hits_replacer mine) other.conflict) marks 0 list
  replacer mine = any_map (opposes_replacer marks one mine) opposed (rows_at side.opponents mine.name) ∙ ap (list_any (opposes_replacer marks one mine)) (known.opponents mine.name)
      ∙ opposing_from marks is_other (λ link. overlaps link.wants mine.wants) mine.name 0 list

  against_one : (link : Link) → (hits_owner link || list_any (λ mine. hits_replacer mine link) one.replace) ≡ is_against link one
  against_one link = rw (same_bytes link.name one.name, any_same (λ mine. hits_replacer mine link) (stands_for link) (λ mine. ap (λ t. t && overlaps link.wants mine.wants) (same_bytes link.name mine.name)) one.replace) refl

  opposed_by : (other : Package) → ((is_other other && list_any hits_owner other.conflict) || list_any (λ mine. is_other other && list_any (hits_replacer mine) other.conflict) one.replace) ≡ conflicts_with other one
  opposed_by other =
      ap (λ t. (is_other other && list_any hits_owner other.conflict) || t) (any_and (is_other other) (λ mine. list_any (hits_replacer mine) other.conflict) one.replace)
      ∙ and_or (is_other other) (list_any hits_owner other.conflict) (list_any (λ mine. list_any (hits_replacer mine) other.conflict) one.replace)
      ∙ ap (λ t. is_other other && t) (ap (λ t. list_any hits_owner other.conflict || t) (any_swap hits_replacer one.replace other.conflict)
      ∙ any_or hits_owner (λ link. list_any (λ mine. hits_replacer mine link) one.replace) other.conflict
      ∙ any_same (λ link. hits_owner link || list_any (λ mine. hits_replacer mine link) one.replace) (λ link. is_against link one) against_one other.conflict)

  opposed_marked : opposed_in side marks one ≡ any_marked (λ other. (is_other other && list_any hits_owner other.conflict) || list_any (λ mine. is_other other && list_any (hits_replacer mine) other.conflict) one.replace) marks 0 list
  opposed_marked = rw (
    owner,
    any_same (replacer_opposed side marks one) (λ mine. any_marked (λ other. is_other other && list_any (hits_replacer mine) other.conflict) marks 0 list) replacer one.replace,
    marked_any marks (λ mine other. is_other other && list_any (hits_replacer mine) other.conflict) 0 list one.replace,
  )
      (marked_or marks (λ other. is_other other && list_any hits_owner other.conflict) (λ other. list_any (λ mine. is_other other && list_any (hits_replacer mine) other.conflict) one.replace) 0 list)

  opposed_are : opposed_in side marks one ≡ any_marked (λ other. conflicts_with other one) marks 0 list
  opposed_are = opposed_marked
      ∙ marked_same marks (λ other. (is_other other && list_any hits_owner other.conflict) || list_any (λ mine. is_other other && list_any (hits_replacer mine) other.conflict) one.replace) (λ other. conflicts_with other one) opposed_by 0 list

  pub rivals_are : rivals_in side marks one ≡ any_marked (are_rivals one) marks 0 list
  rivals_are = rw (shares_are, conflicts_are, opposed_are, marked_or marks (conflicts_with one) (λ other. conflicts_with other one) 0 list)
      (marked_or marks (share_a_name one) (λ other. conflicts_with one other || conflicts_with other one) 0 list)
