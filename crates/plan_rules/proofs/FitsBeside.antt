-- A candidate fits beside a list exactly where the list with it breaks no rule.
use Rattle.std.proofs.Common.{◌≡◌, ℕ, zero, suc, ◌+◌, ◌<◌, ◌≤◌, Bool, true, false, cond, not, List, [], ◌∷◌, ◌++◌, length, map, find, Option, Some, None, refl, sym, ap, subst, ◌∙◌, arith, inl, inr}
use Rattle.std.specs.Prelude.{◌⊎◌, ◌&&◌, ◌||◌, ◌==◌, option_map}
use Rattle.std.specs.List.{list_any, slice_get}
use Rattle.std.specs.Option.{option_or}
use Rattle.std.proofs.lemmas.Bool.{false≢true}
use Rattle.std.proofs.lemmas.Slice.Eq.{bytes_eq-Decides}
use Rattle.std.specs.Cmp.Lexicographic.{same_text}
use Rattle.path_name.specs.Orders.{bytes_are_equal}
use Rattle.manifest_read.specs.declared.types.Package.{Package}
use Rattle.manifest_read.specs.declared.types.Link.{Link}
use Rattle.pkg_pool.specs.Stability.{is_allowed}
use Rattle.pkg_pool.specs.declared.pool.Pool.{Pool}
use Rattle.pkg_pool.specs.declared.pool.Candidate.{Candidate}
use Rattle.plan_rules.specs.declared.rule.Rule.TheVariants as rules
use Rattle.plan_rules.specs.Sets.{Chosen, has, is_in, set_from, set_of}
use Rattle.plan_rules.specs.Requirements.{owns, names, replaces, takes}
use Rattle.plan_rules.specs.Validity.{chosen, members, parties, links_of, requirements, taken_names, is_against, is_listed_as, against, conflict_rule, is_barred, not_allowed, two_owners, conflict, platform}
use Rattle.plan_rules.specs.FirstChoice.{packages_of}
use Rattle.plan_rules.specs.Fitting.{BreaksNone, share_a_name, conflicts_with, are_rivals, suits_platform, fits}
use Rattle.plan_rules.proofs.Lists.{Among, among_left, among_right, among_either, among_map, map_among, among_flat_map, flat_map_among, find_none, none_found, any_among, among_any, count, count_one, counted, count_map}
use Rattle.plan_rules.proofs.SetMembers.{IsAt, IsMember, among_members, members_among, by_name_count, among_parties, parties_among}
use Rattle.plan_rules.proofs.KeptRules.{map_none, not_false, not_true, first_none, none_first, owners_kept, owners_keep}
use Rattle.plan_rules.proofs.FirstChoices.{in_middle, in_more, has_one}
use Rattle.plan_rules.proofs.Plans.{among_in, in_among, among_chosen_packages, chosen_packages_among, in_range, package_in_range}

-- ---- a list with one more number

other_number : (m extra : ℕ) (list : List ℕ) → (extra == m) ≡ false → is_in m (list ++ extra ∷ []) ≡ is_in m list
other_number m extra [] apart = rw apart refl
other_number m extra (first ∷ others) apart = ap (λ rest. first == m || rest) (other_number m extra others apart)

apart_numbers : (m extra : ℕ) → extra < m → (extra == m) ≡ false
apart_numbers m extra less = grind (arith, less)

apart_above : (m extra : ℕ) → m < extra → (extra == m) ≡ false
apart_above m extra less = grind (arith, less)

same_tail : (count at extra : ℕ) (list : List ℕ) → extra < at → set_from count at (list ++ extra ∷ []) ≡ set_from count at list
same_tail zero at extra list less = refl
same_tail (suc count) at extra list less = rw (other_number at extra list (apart_numbers at extra less), same_tail count (suc at) extra list (omega (arith, less))) refl

chosen_here : (q : Candidate → Bool) (s t : Bool) (x : Candidate) (small large : List Candidate) (n : ℕ) → s ≡ t → count q large ≡ n + count q small → count q (cond s (x ∷ large) large) ≡ n + count q (cond t (x ∷ small) small)
chosen_here q s true x small large n e rest = rw e (omega (arith, rest))
chosen_here q s false x small large n e rest = rw e rest

is_same : (a b : ℕ) → (a == b) ≡ true → a ≡ b
is_same a b e = grind (arith, e)

in_list : (count at m : ℕ) (list : List ℕ) → has (set_from count at list) m ≡ true → is_in (at + m) list ≡ true
in_list zero at m list e = absurd (false≢true e)
in_list (suc count) at zero list e = ap (λ n. is_in n list) (omega arith) ∙ e
in_list (suc count) at (suc m) list e = ap (λ n. is_in n list) (omega arith) ∙ in_list count (suc at) m list e

first_is : (x one : Candidate) → Some x ≡ Some one → x ≡ one
first_is x one e = cc

-- a name among those that a package takes is taken by it
text_same : (a b : List ℕ) → a ≡ b → bytes_are_equal a b ≡ true
text_same a b e = (bytes_eq-Decides a b).1 e

takes_taken : (name : List ℕ) (party : Package) → Among name (taken_names party) → takes name party ≡ true
takes_taken name party (inl e) = rw (text_same party.name name e) refl
takes_taken name party (inr there) =
    let link = among_map (λ it. it.name) party.replace name there in
    either_true (owns name party) (replaces name party) (any_among (names name) party.replace link.0 link.1 (text_same link.0.name name link.2))
  where
    either_true : (s t : Bool) → t ≡ true → (s || t) ≡ true
    either_true true t e = refl
    either_true false t e = e

taken_name : (name : List ℕ) (party : Package) → takes name party ≡ true → Among name (taken_names party)
taken_name name party e = by (owns name party) refl e
  where
    by : (t : Bool) → owns name party ≡ t → (t || replaces name party) ≡ true → Among name (taken_names party)
    by true own rest = inl (same_text party.name name (sym own))
    by false own rest =
        let link = among_any (names name) party.replace rest in
        inr (subst (λ it. Among it (map (λ l. l.name) party.replace)) (same_text link.0.name name (sym link.2)) (map_among (λ l. l.name) party.replace link.0 link.1))

counted_one : (t : Bool) (n : ℕ) → t ≡ true → cond t 1 0 + n ≡ suc n
counted_one true n e = omega arith
counted_one false n e = absurd (false≢true e)

counted_none : (t : Bool) (n : ℕ) → t ≡ false → cond t 1 0 + n ≡ n
counted_none true n e = absurd (false≢true (sym e))
counted_none false n e = omega arith

-- what one more candidate adds to a count
chosen_more : (q : Candidate → Bool) (candidates : List Candidate) (at number : ℕ) (list : List ℕ) (one : Candidate) → slice_get candidates number ≡ Some one → is_in (at + number) list ≡ false
    → count q (chosen (set_from (length candidates) at (list ++ (at + number) ∷ [])) candidates) ≡ cond (q one) 1 0 + count q (chosen (set_from (length candidates) at list) candidates)
chosen_more q [] at number list one e new = absurd cc
chosen_more q (x ∷ xs) at zero list one e new =
    let same : at + 0 ≡ at = omega arith in
    let gone : is_in at list ≡ false = ap (λ n. is_in n list) (sym same) ∙ new in
    rw (same, in_middle list [] at, gone, same_tail (length xs) (suc at) at list (omega arith), first_is x one e) refl
chosen_more q (x ∷ xs) at (suc number) list one e new =
    let same : at + suc number ≡ suc at + number = omega arith in
    chosen_here q (is_in at (list ++ (at + suc number) ∷ [])) (is_in at list) x (chosen (set_from (length xs) (suc at) list) xs) (chosen (set_from (length xs) (suc at) (list ++ (at + suc number) ∷ [])) xs) (cond (q one) 1 0)
    (other_number at (at + suc number) list (apart_above at (at + suc number) (omega arith)))
    (ap (λ n. count q (chosen (set_from (length xs) (suc at) (list ++ n ∷ [])) xs)) same ∙ chosen_more q xs (suc at) number list one e (ap (λ n. is_in n list) (sym same) ∙ new))

module _ (pool : Pool) (before : List ℕ) (number : ℕ) (one : Candidate) (found : slice_get pool.candidates number ≡ Some one) where
  abbrev set : Chosen
  set = set_of (length pool.candidates) before

  abbrev larger : Chosen
  larger = set_of (length pool.candidates) (before ++ number ∷ [])

  members_more : (q : Candidate → Bool) → is_in number before ≡ false → count q (members pool larger) ≡ cond (q one) 1 0 + count q (members pool set)
  unfolding members
  members_more q new =
      let same : 0 + number ≡ number = omega arith in
      let more = subst (λ n. count q (chosen (set_of (length pool.candidates) (before ++ n ∷ [])) pool.candidates) ≡ cond (q one) 1 0 + count q (chosen set pool.candidates)) same
      (chosen_more q pool.candidates 0 number before one found (ap (λ n. is_in n before) same ∙ new)) in
      omega (arith, by_name_count q [] (chosen larger pool.candidates), by_name_count q [] (chosen set pool.candidates), more)

  parties_more : (q : Package → Bool) → is_in number before ≡ false → count q (parties pool larger) ≡ cond (q one.«package») 1 0 + count q (parties pool set)
  parties_more q new = omega (arith, count_map q (λ it. it.«package») (members pool larger), count_map q (λ it. it.«package») (members pool set), members_more (λ it. q it.«package») new)

  -- ---- who is there

  longer : (count at m : ℕ) (list : List ℕ) → has (set_from count at (list ++ number ∷ [])) m ≡ true → (has (set_from count at list) m ≡ true) ⊎ (at + m ≡ number)
  longer zero at m list e = absurd (false≢true e)
  longer (suc count) at zero list e = by (number == at) refl
    where
      by : (t : Bool) → (number == at) ≡ t → (is_in at list ≡ true) ⊎ (at + 0 ≡ number)
      by true same = inr (omega (arith, is_same number at same))
      by false apart = inl (sym (other_number at number list apart) ∙ e)
  longer (suc count) at (suc m) list e = by (longer count (suc at) m list e)
    where
      by : (has (set_from count (suc at) list) m ≡ true) ⊎ (suc at + m ≡ number) → (has (set_from count (suc at) list) m ≡ true) ⊎ (at + suc m ≡ number)
      by (inl there) = inl there
      by (inr same) = inr (omega (arith, same))

  shorter : (count at m : ℕ) (list : List ℕ) → has (set_from count at list) m ≡ true → has (set_from count at (list ++ number ∷ [])) m ≡ true
  shorter zero at m list e = e
  shorter (suc count) at zero list e = in_more list (number ∷ []) at e
  shorter (suc count) at (suc m) list e = shorter count (suc at) m list e

  same_candidate : (m : ℕ) (other : Candidate) → m ≡ number → slice_get pool.candidates m ≡ Some other → one ≡ other
  same_candidate m other e there = first_is one other (sym found ∙ ap (slice_get pool.candidates) (sym e) ∙ there)

  member_or : (other : Candidate) → Among other (members pool larger) → Among other (members pool set) ⊎ (one ≡ other)
  member_or other there = by (among_members pool larger other there)
    where
      by : IsAt other larger pool.candidates → Among other (members pool set) ⊎ (one ≡ other)
      by at = step (longer (length pool.candidates) 0 at.0 before at.2)
        where
          step : (has set at.0 ≡ true) ⊎ (0 + at.0 ≡ number) → Among other (members pool set) ⊎ (one ≡ other)
          step (inl in_set) = inl (members_among pool set other (at.0, at.1, in_set))
          step (inr same) = inr (same_candidate at.0 other (omega (arith, same)) at.1)

  member_still : (other : Candidate) → Among other (members pool set) → Among other (members pool larger)
  member_still other there = let at = among_members pool set other there in members_among pool larger other (at.0, at.1, shorter (length pool.candidates) 0 at.0 before at.2)

  one_member : Among one (members pool larger)
  one_member = members_among pool larger one (number, found, has_one (length pool.candidates) (before ++ number ∷ []) number (in_range pool.candidates number one found) (in_middle before [] number))

  party_or : (party : Package) → Among party (parties pool larger) → Among party (parties pool set) ⊎ (one.«package» ≡ party)
  party_or party (inl root) = inl (inl root)
  party_or party (inr there) = by (among_map (λ it. it.«package») (members pool larger) party there)
    where
      by : (other : Candidate) × Among other (members pool larger) × (other.«package» ≡ party) → Among party (parties pool set) ⊎ (one.«package» ≡ party)
      by at = step (member_or at.0 at.1)
        where
          step : Among at.0 (members pool set) ⊎ (one ≡ at.0) → Among party (parties pool set) ⊎ (one.«package» ≡ party)
          step (inl in_set) = inl (inr (subst (λ it. Among it (map (λ member. member.«package») (members pool set))) at.2 (map_among (λ member. member.«package») (members pool set) at.0 in_set)))
          step (inr same) = inr (ap (λ it. it.«package») same ∙ at.2)

  party_still : (party : Package) → Among party (parties pool set) → Among party (parties pool larger)
  party_still party (inl root) = inl root
  party_still party (inr there) = by (among_map (λ it. it.«package») (members pool set) party there)
    where
      by : (other : Candidate) × Among other (members pool set) × (other.«package» ≡ party) → Among party (parties pool larger)
      by at = inr (subst (λ it. Among it (map (λ member. member.«package») (members pool larger))) at.2 (map_among (λ member. member.«package») (members pool larger) at.0 (member_still at.0 at.1)))

  one_party : Among one.«package» (parties pool larger)
  one_party = inr (map_among (λ it. it.«package») (members pool larger) one one_member)

  -- the root and the packages of the list are the parties of its set
  listed_party : (party : Package) → Among party (packages_of pool before) → Among party (parties pool set)
  listed_party party (inl root) = inl root
  listed_party party (inr there) =
      let at = among_chosen_packages pool before party there in
      parties_among pool set party (inr (at.0, at.2, has_one (length pool.candidates) before at.0 (package_in_range pool at.0 party at.2) (in_among at.0 before at.1)))

  party_listed : (party : Package) → Among party (parties pool set) → Among party (packages_of pool before)
  party_listed party there = by (among_parties pool set party there)
    where
      by : (pool.root.«package» ≡ party) ⊎ IsMember pool set party → Among party (packages_of pool before)
      by (inl root) = inl root
      by (inr member) = inr (chosen_packages_among pool before member.0 party (among_in member.0 before (ap (λ n. is_in n before) (omega arith) ∙ in_list (length pool.candidates) 0 member.0 before member.2)) member.1)

  -- ---- each rule

  none_or : {X : Type 0} (first second : Option X) → first ≡ None → second ≡ None → option_or first second ≡ None
  none_or first second e f = rw (e, f) refl

  left_none : {X : Type 0} (first second : Option X) → option_or first second ≡ None → first ≡ None
  left_none None second e = refl
  left_none (Some x) second e = absurd cc

  right_none : {X : Type 0} (first second : Option X) → option_or first second ≡ None → second ≡ None
  right_none None second e = e
  right_none (Some x) second e = absurd cc

  -- what each rule says of the members one by one
  allowed_of : BreaksNone pool (before ++ number ∷ []) → is_allowed pool.root one ≡ true
  allowed_of none = not_false (is_allowed pool.root one) (find_none (λ member. not (is_allowed pool.root member)) (members pool larger) one
      (map_none (λ member. rules.NotAllowed member.«package».name) (find (λ member. not (is_allowed pool.root member)) (members pool larger)) none.allowed) one_member)

  against_larger : BreaksNone pool (before ++ number ∷ []) → (from : List ℕ × Link) → Among from (links_of (λ party. party.conflict) (parties pool larger)) → against pool.root.platform (parties pool larger) from ≡ None
  against_larger none from there = map_none (λ other. rules.Conflict from.0 from.1.name other) (against pool.root.platform (parties pool larger) from)
      (first_none (conflict_rule pool.root.platform (parties pool larger)) (links_of (λ party. party.conflict) (parties pool larger)) from none.conflict there)

  abbrev is_hit : List ℕ × Link → Package → Bool
  is_hit from party = not (bytes_are_equal party.name from.0) && is_against from.1 party

  none_hit : (list : List Package) (from : List ℕ × Link) → against pool.root.platform list from ≡ None → find (is_hit from) list ≡ None
  none_hit list from none = map_none (λ party. party.name) (find (is_hit from) list)
      (left_none (option_map (λ party. party.name) (find (is_hit from) list)) (option_map (λ row. row.name) (find (is_listed_as from.1) pool.root.platform)) none)

  none_listed : (list : List Package) (from : List ℕ × Link) → against pool.root.platform list from ≡ None → find (is_listed_as from.1) pool.root.platform ≡ None
  none_listed list from none = map_none (λ row. row.name) (find (is_listed_as from.1) pool.root.platform)
      (right_none (option_map (λ party. party.name) (find (is_hit from) list)) (option_map (λ row. row.name) (find (is_listed_as from.1) pool.root.platform)) none)

  conflict_of : (party : Package) (list : List Package) (link : Link) → Among party list → Among link party.conflict → Among (party.name, link) (links_of (λ it. it.conflict) list)
  conflict_of party list link there has_link = flat_map_among (λ it. map (λ l. (it.name, l)) it.conflict) list party (party.name, link) there (map_among (λ l. (party.name, l)) party.conflict link has_link)

  any_none : {X : Type 0} (p : X → Bool) (xs : List X) → find p xs ≡ None → list_any p xs ≡ false
  any_none p xs none = by (list_any p xs) refl
    where
      by : (t : Bool) → list_any p xs ≡ t → list_any p xs ≡ false
      by false e = e
      by true e = let x = among_any p xs e in absurd (false≢true (sym (find_none p xs x.0 none x.1) ∙ x.2))

  each_none : {X : Type 0} (p : X → Bool) (xs : List X) → ((x : X) → Among x xs → p x ≡ false) → list_any p xs ≡ false
  each_none p xs none = any_none p xs (none_found p xs none)

  required_of : (link : Link) → Among link one.«package».require → Among (one.«package».name, link) (requirements pool larger)
  required_of link there = among_right (one.«package».name, link) (map (λ it. (pool.root.«package».name, it)) (pool.root.«package».require ++ pool.root.require_dev)) (links_of (λ party. party.require) (map (λ member. member.«package») (members pool larger)))
      (flat_map_among (λ party. map (λ it. (party.name, it)) party.require) (map (λ member. member.«package») (members pool larger)) one.«package» (one.«package».name, link)
      (map_among (λ member. member.«package») (members pool larger) one one_member) (map_among (λ it. (one.«package».name, it)) one.«package».require link there))

  barred_of : BreaksNone pool (before ++ number ∷ []) → (wanted : List ℕ × Link) → Among wanted (requirements pool larger) → is_barred pool.root.platform wanted ≡ false
  barred_of none wanted there = find_none (is_barred pool.root.platform) (requirements pool larger) wanted
      (map_none (λ it. rules.Platform it.0 it.1.name) (find (is_barred pool.root.platform) (requirements pool larger)) none.platform) there

  both_true : (s t : Bool) → s ≡ true → t ≡ true → (s && t) ≡ true
  both_true s t e f = rw (e, f) refl

  both_false : (s t : Bool) → s ≡ false → t ≡ false → (s || t) ≡ false
  both_false s t e f = rw (e, f) refl

  suits_of : BreaksNone pool (before ++ number ∷ []) → suits_platform pool.root.platform one.«package» ≡ true
  suits_of none = both_true (not (list_any (λ link. list_any (is_listed_as link) pool.root.platform) one.«package».conflict)) (not (list_any (λ link. is_barred pool.root.platform (one.«package».name, link)) one.«package».require))
      (ap not (each_none (λ link. list_any (is_listed_as link) pool.root.platform) one.«package».conflict
      (λ link there. any_none (is_listed_as link) pool.root.platform (none_listed (parties pool larger) (one.«package».name, link) (against_larger none (one.«package».name, link) (conflict_of one.«package» (parties pool larger) link one_party there))))))
      (ap not (each_none (λ link. is_barred pool.root.platform (one.«package».name, link)) one.«package».require (λ link there. barred_of none (one.«package».name, link) (required_of link there))))

  -- two parties that take one name
  shares_none : is_in number before ≡ false → BreaksNone pool (before ++ number ∷ []) → (other : Package) → Among other (parties pool set) → share_a_name one.«package» other ≡ false
  shares_none new none other there = each_none (λ name. takes name other) (taken_names one.«package») (λ name taken. by name taken (takes name other) refl)
    where
      by : (name : List ℕ) → Among name (taken_names one.«package») → (t : Bool) → takes name other ≡ t → t ≡ false
      by name taken false e = refl
      by name taken true e = absurd (omega (arith, owners_kept (parties pool larger) none.owners name, parties_more (takes name) new, count_one (takes name) (parties pool set) other there e, counted_one (takes name one.«package») (count (takes name) (parties pool set)) (takes_taken name one.«package» taken)))

  hits_none : BreaksNone pool (before ++ number ∷ []) → (party other : Package) → Among party (parties pool larger) → Among other (parties pool larger) → conflicts_with party other ≡ false
  hits_none none party other there beside = by (bytes_are_equal other.name party.name) refl
    where
      each : bytes_are_equal other.name party.name ≡ false → (link : Link) → Among link party.conflict → is_against link other ≡ false
      each apart link has_link = subst (λ t. (not t && is_against link other) ≡ false) apart
          (find_none (is_hit (party.name, link)) (parties pool larger) other (none_hit (parties pool larger) (party.name, link) (against_larger none (party.name, link) (conflict_of party (parties pool larger) link there has_link))) beside)

      by : (t : Bool) → bytes_are_equal other.name party.name ≡ t → (not t && list_any (λ link. is_against link other) party.conflict) ≡ false
      by true same = refl
      by false apart = each_none (λ link. is_against link other) party.conflict (each apart)

  pub larger_fits : is_in number before ≡ false → BreaksNone pool (before ++ number ∷ []) → fits pool before one ≡ true
  unfolding fits
  larger_fits new none = both_true (is_allowed pool.root one) (suits_platform pool.root.platform one.«package» && not (list_any (are_rivals one.«package») (packages_of pool before))) (allowed_of none)
      (both_true (suits_platform pool.root.platform one.«package») (not (list_any (are_rivals one.«package») (packages_of pool before))) (suits_of none)
      (ap not (each_none (are_rivals one.«package») (packages_of pool before) (λ other there.
      both_false (share_a_name one.«package» other) (conflicts_with one.«package» other || conflicts_with other one.«package»)
      (shares_none new none other (listed_party other there))
      (both_false (conflicts_with one.«package» other) (conflicts_with other one.«package»)
      (hits_none none one.«package» other one_party (party_still other (listed_party other there)))
      (hits_none none other one.«package» (party_still other (listed_party other there)) one_party))))))

  -- ---- a candidate that fits

  left_true : (s t : Bool) → (s && t) ≡ true → s ≡ true
  left_true true t e = refl
  left_true false t e = e

  right_true : (s t : Bool) → (s && t) ≡ true → t ≡ true
  right_true true t e = e
  right_true false t e = absurd (false≢true e)

  left_false : (s t : Bool) → (s || t) ≡ false → s ≡ false
  left_false true t e = e
  left_false false t e = refl

  right_false : (s t : Bool) → (s || t) ≡ false → t ≡ false
  right_false true t e = absurd (false≢true (sym e))
  right_false false t e = e

  not_any : {X : Type 0} (p : X → Bool) (xs : List X) (x : X) → not (list_any p xs) ≡ true → Among x xs → p x ≡ false
  not_any p xs x none there = by (p x) refl
    where
      by : (t : Bool) → p x ≡ t → t ≡ false
      by false e = refl
      by true e = absurd (false≢true (sym (ap not (any_among p xs x there e)) ∙ none))

  pub record IsFitting : Type 0 where
    pub allowed : is_allowed pool.root one ≡ true
    pub listed : (link : Link) → Among link one.«package».conflict → list_any (is_listed_as link) pool.root.platform ≡ false
    pub barred : (link : Link) → Among link one.«package».require → is_barred pool.root.platform (one.«package».name, link) ≡ false
    pub rivals : (other : Package) → Among other (parties pool set) → are_rivals one.«package» other ≡ false

  fitting_of : fits pool before one ≡ true → IsFitting
  unfolding fits
  fitting_of e =
      let first = is_allowed pool.root one in
      let conflicts = not (list_any (λ link. list_any (is_listed_as link) pool.root.platform) one.«package».conflict) in
      let requires = not (list_any (λ link. is_barred pool.root.platform (one.«package».name, link)) one.«package».require) in
      let rivals = not (list_any (are_rivals one.«package») (packages_of pool before)) in
      let rest = right_true first ((conflicts && requires) && rivals) e in
      let suits = left_true (conflicts && requires) rivals rest in
      record {
        allowed = left_true first ((conflicts && requires) && rivals) e;
        listed = λ link there. not_any (λ it. list_any (is_listed_as it) pool.root.platform) one.«package».conflict link (left_true conflicts requires suits) there;
        barred = λ link there. not_any (λ it. is_barred pool.root.platform (one.«package».name, it)) one.«package».require link (right_true conflicts requires suits) there;
        rivals = λ other there. not_any (are_rivals one.«package») (packages_of pool before) other (right_true (conflicts && requires) rivals rest) (party_listed other there);
      }

  module _ (new : is_in number before ≡ false) (none : BreaksNone pool before) (fit : IsFitting) where
    all_allowed : not_allowed pool (members pool larger) ≡ None
    all_allowed = ap (option_map (λ member. rules.NotAllowed member.«package».name)) (none_found (λ member. not (is_allowed pool.root member)) (members pool larger) (λ other there. by other (member_or other there)))
      where
        by : (other : Candidate) → Among other (members pool set) ⊎ (one ≡ other) → not (is_allowed pool.root other) ≡ false
        by other (inl there) = find_none (λ member. not (is_allowed pool.root member)) (members pool set) other
            (map_none (λ member. rules.NotAllowed member.«package».name) (find (λ member. not (is_allowed pool.root member)) (members pool set)) none.allowed) there
        by other (inr same) = not_true (is_allowed pool.root other) (ap (is_allowed pool.root) (sym same) ∙ fit.allowed)

    -- what the candidate takes, nobody else does
    takes_alone : (name : List ℕ) → takes name one.«package» ≡ true → count (takes name) (parties pool set) ≡ 0
    takes_alone name taken = by (count (takes name) (parties pool set)) refl
      where
        shared : (other : Package) → Among other (parties pool set) → takes name other ≡ true → ⊥
        shared other there e = false≢true (sym (left_false (share_a_name one.«package» other) (conflicts_with one.«package» other || conflicts_with other one.«package») (fit.rivals other there))
            ∙ any_among (λ it. takes it other) (taken_names one.«package») name (taken_name name one.«package» taken) e)

        by : (n : ℕ) → count (takes name) (parties pool set) ≡ n → count (takes name) (parties pool set) ≡ 0
        by zero e = e
        by (suc n) e = let other = counted (takes name) (parties pool set) (omega (arith, e)) in absurd (shared other.0 other.1 other.2)

    all_owners : two_owners (parties pool larger) ≡ None
    all_owners = owners_keep (parties pool larger) (λ name. by name (takes name one.«package») refl)
      where
        by : (name : List ℕ) (t : Bool) → takes name one.«package» ≡ t → count (takes name) (parties pool larger) ≤ 1
        by name false e = omega (arith, parties_more (takes name) new, counted_none (takes name one.«package») (count (takes name) (parties pool set)) e, owners_kept (parties pool set) none.owners name)
        by name true e = omega (arith, parties_more (takes name) new, counted_one (takes name one.«package») (count (takes name) (parties pool set)) e, takes_alone name e)

    -- none is against a link of a party
    listed_none : {X : Type 0} (p : X → Bool) (xs : List X) → list_any p xs ≡ false → find p xs ≡ None
    listed_none p xs e = none_found p xs (λ x there. by x (p x) refl there)
      where
        by : (x : _) (t : Bool) → p x ≡ t → Among x xs → t ≡ false
        by x false f there = refl
        by x true f there = absurd (false≢true (sym e ∙ any_among p xs x there f))

    hit_by : (from : List ℕ × Link) (party other : Package) → party.name ≡ from.0 → Among from.1 party.conflict → conflicts_with party other ≡ false → is_hit from other ≡ false
    hit_by from party other named has_link apart = by (bytes_are_equal other.name party.name) refl apart
      where
        by : (t : Bool) → bytes_are_equal other.name party.name ≡ t → (not t && list_any (λ link. is_against link other) party.conflict) ≡ false → is_hit from other ≡ false
        by true same rest = rw (ap (bytes_are_equal other.name) (sym named) ∙ same) refl
        by false differs rest = rw (ap (bytes_are_equal other.name) (sym named) ∙ differs) (not_any (λ link. is_against link other) party.conflict from.1 (ap not rest) has_link)

    against_none : (list : List Package) (from : List ℕ × Link) → find (is_hit from) list ≡ None → find (is_listed_as from.1) pool.root.platform ≡ None → against pool.root.platform list from ≡ None
    against_none list from hits rows = rw (hits, rows) refl

    itself_is_no_hit : (party : Package) → conflicts_with party party ≡ false
    itself_is_no_hit party = rw (text_same party.name party.name refl) refl

    conflict_none : (from : List ℕ × Link) → Among from (links_of (λ party. party.conflict) (parties pool larger)) → against pool.root.platform (parties pool larger) from ≡ None
    conflict_none from there = by (among_flat_map (λ party. map (λ link. (party.name, link)) party.conflict) (parties pool larger) from there)
      where
        name_of : (party : Package) (link : Link) → (party.name, link) ≡ from → party.name ≡ from.0
        name_of party link e = ap (λ it. it.0) e

        old : (party : Package) → Among party (parties pool set) → Among from (map (λ link. (party.name, link)) party.conflict) → against pool.root.platform (parties pool larger) from ≡ None
        old party in_set has_link =
            let link = among_map (λ l. (party.name, l)) party.conflict from has_link in
            let before_none : against pool.root.platform (parties pool set) from ≡ None = map_none (λ other. rules.Conflict from.0 from.1.name other) (against pool.root.platform (parties pool set) from)
            (first_none (conflict_rule pool.root.platform (parties pool set)) (links_of (λ it. it.conflict) (parties pool set)) from none.conflict
            (flat_map_among (λ it. map (λ l. (it.name, l)) it.conflict) (parties pool set) party from in_set has_link)) in
            against_none (parties pool larger) from
            (none_found (is_hit from) (parties pool larger) (λ other beside. step other (party_or other beside) link before_none))
            (none_listed (parties pool set) from before_none)
          where
            step : (other : Package) → Among other (parties pool set) ⊎ (one.«package» ≡ other) → (l : Link) × Among l party.conflict × ((party.name, l) ≡ from) → against pool.root.platform (parties pool set) from ≡ None → is_hit from other ≡ false
            step other (inl beside) link before_none = find_none (is_hit from) (parties pool set) other (none_hit (parties pool set) from before_none) beside
            step other (inr same) link before_none = subst (λ it. is_hit from it ≡ false) same
                (hit_by from party one.«package» (name_of party link.0 link.2) (subst (λ l. Among l party.conflict) (ap (λ it. it.1) link.2) link.1)
                (right_false (conflicts_with one.«package» party) (conflicts_with party one.«package»)
                (right_false (share_a_name one.«package» party) (conflicts_with one.«package» party || conflicts_with party one.«package») (fit.rivals party in_set))))

        fresh : Among from (map (λ link. (one.«package».name, link)) one.«package».conflict) → against pool.root.platform (parties pool larger) from ≡ None
        fresh has_link =
            let link = among_map (λ l. (one.«package».name, l)) one.«package».conflict from has_link in
            let has : Among from.1 one.«package».conflict = subst (λ l. Among l one.«package».conflict) (ap (λ it. it.1) link.2) link.1 in
            against_none (parties pool larger) from
            (none_found (is_hit from) (parties pool larger) (λ other beside. hit_by from one.«package» other (name_of one.«package» link.0 link.2) has (step other (party_or other beside))))
            (listed_none (is_listed_as from.1) pool.root.platform (fit.listed from.1 has))
          where
            step : (other : Package) → Among other (parties pool set) ⊎ (one.«package» ≡ other) → conflicts_with one.«package» other ≡ false
            step other (inl beside) = left_false (conflicts_with one.«package» other) (conflicts_with other one.«package»)
                (right_false (share_a_name one.«package» other) (conflicts_with one.«package» other || conflicts_with other one.«package») (fit.rivals other beside))
            step other (inr same) = subst (λ it. conflicts_with one.«package» it ≡ false) same (itself_is_no_hit one.«package»)

        by : (party : Package) × Among party (parties pool larger) × Among from (map (λ link. (party.name, link)) party.conflict) → against pool.root.platform (parties pool larger) from ≡ None
        by at = step (party_or at.0 at.1)
          where
            step : Among at.0 (parties pool set) ⊎ (one.«package» ≡ at.0) → against pool.root.platform (parties pool larger) from ≡ None
            step (inl in_set) = old at.0 in_set at.2
            step (inr same) = fresh (subst (λ it. Among from (map (λ link. (it.name, link)) it.conflict)) (sym same) at.2)

    all_conflicts : conflict pool larger ≡ None
    all_conflicts = none_first (conflict_rule pool.root.platform (parties pool larger)) (links_of (λ party. party.conflict) (parties pool larger))
        (λ from there. ap (option_map (λ other. rules.Conflict from.0 from.1.name other)) (conflict_none from there))

    barred_none : (wanted : List ℕ × Link) → Among wanted (requirements pool set) → is_barred pool.root.platform wanted ≡ false
    barred_none wanted there = find_none (is_barred pool.root.platform) (requirements pool set) wanted
        (map_none (λ it. rules.Platform it.0 it.1.name) (find (is_barred pool.root.platform) (requirements pool set)) none.platform) there

    all_platform : platform pool larger ≡ None
    all_platform = ap (option_map (λ wanted. rules.Platform wanted.0 wanted.1.name)) (none_found (is_barred pool.root.platform) (requirements pool larger) (λ wanted there. by wanted
        (among_either wanted (map (λ link. (pool.root.«package».name, link)) (pool.root.«package».require ++ pool.root.require_dev)) (links_of (λ party. party.require) (map (λ member. member.«package») (members pool larger))) there)))
      where
        of_member : (wanted : List ℕ × Link) → (party : Package) × Among party (map (λ member. member.«package») (members pool larger)) × Among wanted (map (λ link. (party.name, link)) party.require) → is_barred pool.root.platform wanted ≡ false
        of_member wanted at = step (among_map (λ member. member.«package») (members pool larger) at.0 at.1)
          where
            step : (other : Candidate) × Among other (members pool larger) × (other.«package» ≡ at.0) → is_barred pool.root.platform wanted ≡ false
            step other = again (member_or other.0 other.1)
              where
                again : Among other.0 (members pool set) ⊎ (one ≡ other.0) → is_barred pool.root.platform wanted ≡ false
                again (inl in_set) = barred_none wanted (among_right wanted (map (λ link. (pool.root.«package».name, link)) (pool.root.«package».require ++ pool.root.require_dev)) (links_of (λ party. party.require) (map (λ member. member.«package») (members pool set)))
                    (flat_map_among (λ party. map (λ link. (party.name, link)) party.require) (map (λ member. member.«package») (members pool set)) at.0 wanted
                    (subst (λ it. Among it (map (λ member. member.«package») (members pool set))) other.2 (map_among (λ member. member.«package») (members pool set) other.0 in_set)) at.2))
                again (inr same) =
                    let is_one : one.«package» ≡ at.0 = ap (λ it. it.«package») same ∙ other.2 in
                    let link = among_map (λ l. (one.«package».name, l)) one.«package».require wanted (subst (λ it. Among wanted (map (λ l. (it.name, l)) it.require)) (sym is_one) at.2) in
                    ap (is_barred pool.root.platform) (sym link.2) ∙ fit.barred link.0 link.1

        by : (wanted : List ℕ × Link) → Among wanted (map (λ link. (pool.root.«package».name, link)) (pool.root.«package».require ++ pool.root.require_dev)) ⊎ Among wanted (links_of (λ party. party.require) (map (λ member. member.«package») (members pool larger))) → is_barred pool.root.platform wanted ≡ false
        by wanted (inl there) = barred_none wanted (among_left wanted (map (λ link. (pool.root.«package».name, link)) (pool.root.«package».require ++ pool.root.require_dev)) (links_of (λ party. party.require) (map (λ member. member.«package») (members pool set))) there)
        by wanted (inr there) = of_member wanted (among_flat_map (λ party. map (λ link. (party.name, link)) party.require) (map (λ member. member.«package») (members pool larger)) wanted there)

  pub larger_breaks_none : is_in number before ≡ false → BreaksNone pool before → fits pool before one ≡ true → BreaksNone pool (before ++ number ∷ [])
  larger_breaks_none new none fitting =
      let fit = fitting_of fitting in
      record { allowed = all_allowed new none fit; owners = all_owners new none fit; conflict = all_conflicts new none fit; platform = all_platform new none fit }
