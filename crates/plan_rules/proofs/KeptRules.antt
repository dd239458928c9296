-- What it means that a set breaks no rule, rule by rule.
use Rattle.std.proofs.Common.{◌≡◌, ℕ, zero, suc, ◌≤◌, Bool, true, false, cond, not, List, [], ◌∷◌, length, map, filter, find, Option, Some, None, refl, sym, ap, subst, ◌∙◌, arith, inl, inr}
use Rattle.std.specs.Prelude.{◌⊎◌, ◌&&◌, ◌||◌, is_none, is_some, option_map}
use Rattle.std.specs.List.{list_any, list_all, flat_map}
use Rattle.std.specs.Option.{option_or, option_and_then}
use Rattle.std.specs.Ordering.{is_le, ordering_reverse}
use Rattle.std.specs.declared.cmp.Ordering.{Ordering}
use Rattle.std.specs.declared.cmp.Ordering.TheVariants.{Less, Equal, Greater}
use Rattle.std.specs.Cmp.Lexicographic.{same_text}
use Rattle.std.proofs.lemmas.Bool.{false≢true}
use Rattle.path_name.specs.Orders.{byte_cmp, byte_cmp_total}
use Rattle.manifest_read.specs.declared.types.Package.{Package}
use Rattle.manifest_read.specs.declared.types.Link.{Link}
use Rattle.pkg_pool.specs.Stability.{is_allowed}
use Rattle.pkg_pool.specs.declared.pool.Pool.{Pool}
use Rattle.pkg_pool.specs.declared.pool.Candidate.{Candidate}
use Rattle.plan_rules.specs.declared.rule.Rule.{Rule}
use Rattle.plan_rules.specs.declared.rule.Rule.TheVariants as rules
use Rattle.plan_rules.specs.Sets.{Chosen}
use Rattle.plan_rules.specs.Requirements.{owns, names, replaces, takes}
use Rattle.plan_rules.specs.Validity.{members, parties, first_rule, not_allowed, taken_names, takers, least, rule_of_takers, has_two, two_owners, links_of, requirements, is_unmet, unmet, against, conflict_rule, conflict, is_barred, platform, first_broken, is_valid}
use Rattle.plan_rules.proofs.Lists.{Among, find_none, none_found, among_any, among_filter, filter_empty, filter_among, map_among, flat_map_among, count, counted, length_filter}

-- A set breaks no rule.
pub record Keeps (pool : Pool) (set : Chosen) : Type 0 where
  pub allowed : (one : Candidate) → Among one (members pool set) → is_allowed pool.root one ≡ true
  pub owners : (name : List ℕ) → count (takes name) (parties pool set) ≤ 1
  pub met : (wanted : List ℕ × Link) → Among wanted (requirements pool set) → is_unmet (parties pool set) wanted ≡ false
  pub conflicts : (from : List ℕ × Link) → Among from (links_of (λ party. party.conflict) (parties pool set)) → against pool.root.platform (parties pool set) from ≡ None
  pub platform : (wanted : List ℕ × Link) → Among wanted (requirements pool set) → is_barred pool.root.platform wanted ≡ false

-- ---- options

or_none_left : {X : Type 0} (first second : Option X) → option_or first second ≡ None → first ≡ None
or_none_left None second e = refl
or_none_left (Some x) second e = absurd cc

or_none_right : {X : Type 0} (first second : Option X) → option_or first second ≡ None → second ≡ None
or_none_right None second e = e
or_none_right (Some x) second e = absurd cc

pub map_none : {X Y : Type 0} (f : X → Y) (o : Option X) → option_map f o ≡ None → o ≡ None
map_none f None e = refl
map_none f (Some x) e = absurd cc

none_is : {X : Type 0} (o : Option X) → is_none o ≡ true → o ≡ None
none_is None e = refl
none_is (Some x) e = absurd (false≢true e)

pub not_false : (t : Bool) → not t ≡ false → t ≡ true
not_false true e = refl
not_false false e = absurd cc

-- ---- the first rule of a list

module _ {X : Type 0} (broken : X → Option Rule) where
  pub first_none : (xs : List X) (y : X) → first_rule broken xs ≡ None → Among y xs → broken y ≡ None
  first_none [] y none found = absurd found
  first_none (x ∷ xs) y none (inl same) = ap broken (sym same) ∙ or_none_left (broken x) (first_rule broken xs) none
  first_none (x ∷ xs) y none (inr there) = first_none xs y (or_none_right (broken x) (first_rule broken xs) none) there

  pub none_first : (xs : List X) → ((y : X) → Among y xs → broken y ≡ None) → first_rule broken xs ≡ None
  none_first [] none = refl
  none_first (x ∷ xs) none = rw (none x (inl refl)) (none_first xs (λ y there. none y (inr there)))

-- ---- the byte-least name

either_way : (o : Ordering) → (is_le (ordering_reverse o) ≡ true) ⊎ (is_le o ≡ true)
either_way Less = inr refl
either_way Equal = inl refl
either_way Greater = inl refl

pub below_or_above : (a b : List ℕ) → (is_le (byte_cmp a b) ≡ true) ⊎ (is_le (byte_cmp b a) ≡ true)
below_or_above a b = subst (λ o. (is_le o ≡ true) ⊎ (is_le (byte_cmp b a) ≡ true)) (sym (byte_cmp_total.antisymm a b)) (either_way (byte_cmp b a))

from_equal : (a b c : List ℕ) → byte_cmp b c ≡ Equal → byte_cmp a c ≡ byte_cmp a b
from_equal a b c e = byte_cmp_total.antisymm a c ∙ ap ordering_reverse (byte_cmp_total.congr c b a (byte_cmp_total.antisymm c b ∙ ap ordering_reverse e)) ∙ sym (byte_cmp_total.antisymm a b)

le_by : (a b c : List ℕ) (o p : Ordering) → byte_cmp a b ≡ o → byte_cmp b c ≡ p → is_le o ≡ true → is_le p ≡ true → is_le (byte_cmp a c) ≡ true
le_by a b c Less Less e f below above = ap is_le (byte_cmp_total.trans a b c e f)
le_by a b c Less Equal e f below above = ap is_le (from_equal a b c f ∙ e)
le_by a b c Equal p e f below above = ap is_le (byte_cmp_total.congr a b c e ∙ f) ∙ above
le_by a b c o Greater e f below above = absurd (false≢true above)
le_by a b c Greater p e f below above = absurd (false≢true below)

le_on : (a b c : List ℕ) → is_le (byte_cmp a b) ≡ true → is_le (byte_cmp b c) ≡ true → is_le (byte_cmp a c) ≡ true
le_on a b c below above = le_by a b c (byte_cmp a b) (byte_cmp b c) refl refl below above

pub le_itself : (a : List ℕ) → is_le (byte_cmp a a) ≡ true
le_itself a = step (below_or_above a a)
  where
    step : (is_le (byte_cmp a a) ≡ true) ⊎ (is_le (byte_cmp a a) ≡ true) → is_le (byte_cmp a a) ≡ true
    step (inl e) = e
    step (inr e) = e

both_true : (s t : Bool) → s ≡ true → t ≡ true → (s && t) ≡ true
both_true s t e f = rw e f

abbrev pub is_least : List (List ℕ) → List ℕ → Bool
is_least some name = list_all (λ other. is_le (byte_cmp name other)) some

all_above : (name least : List ℕ) (some : List (List ℕ)) → is_le (byte_cmp name least) ≡ true → is_least some least ≡ true → is_least some name ≡ true
all_above name least [] below all = refl
all_above name least (first ∷ others) below all = both_true (is_le (byte_cmp name first)) (is_least others name)
    (le_on name least first below (left (is_le (byte_cmp least first)) (is_least others least) all)) (all_above name least others below (right (is_le (byte_cmp least first)) (is_least others least) all))
  where
    left : (s t : Bool) → (s && t) ≡ true → s ≡ true
    left true t e = refl
    left false t e = e

    right : (s t : Bool) → (s && t) ≡ true → t ≡ true
    right true t e = e
    right false t e = absurd (false≢true e)

-- a list with an item has a least one
has_least : (first : List ℕ) (others : List (List ℕ)) → (name : List ℕ) × Among name (first ∷ others) × (is_least (first ∷ others) name ≡ true)
has_least first [] = (first, inl refl, both_true (is_le (byte_cmp first first)) true (le_itself first) refl)
has_least first (second ∷ others) = step (has_least second others)
  where
    decide : (name : List ℕ) → Among name (second ∷ others) → is_least (second ∷ others) name ≡ true → (is_le (byte_cmp first name) ≡ true) ⊎ (is_le (byte_cmp name first) ≡ true)
        → (one : List ℕ) × Among one (first ∷ second ∷ others) × (is_least (first ∷ second ∷ others) one ≡ true)
    decide name there all (inl below) = (first, inl refl, both_true (is_le (byte_cmp first first)) (is_least (second ∷ others) first) (le_itself first) (all_above first name (second ∷ others) below all))
    decide name there all (inr above) = (name, inr there, both_true (is_le (byte_cmp name first)) (is_least (second ∷ others) name) above all)

    step : (name : List ℕ) × Among name (second ∷ others) × (is_least (second ∷ others) name ≡ true) → (one : List ℕ) × Among one (first ∷ second ∷ others) × (is_least (first ∷ second ∷ others) one ≡ true)
    step found = decide found.0 found.1 found.2 (below_or_above first found.0)

least_none : (some : List (List ℕ)) → least some ≡ None → some ≡ []
least_none [] e = refl
least_none (first ∷ others) e = let one = has_least first others in absurd (false≢true (sym (find_none (is_least (first ∷ others)) (first ∷ others) one.0 e one.1) ∙ one.2))

-- what is found passes, and is of the list
found_step : {X : Type 0} (p : X → Bool) (t : Bool) (x y : X) (xs : List X) → p x ≡ t → cond t (Some x) (find p xs) ≡ Some y → (find p xs ≡ Some y → Among y xs × (p y ≡ true)) → Among y (x ∷ xs) × (p y ≡ true)
found_step p true x y xs e found later = let same : x ≡ y = cc in (inl same, ap p (sym same) ∙ e)
found_step p false x y xs e found later = let both = later found in (inr both.0, both.1)

pub find_some : {X : Type 0} (p : X → Bool) (xs : List X) (y : X) → find p xs ≡ Some y → Among y xs × (p y ≡ true)
find_some p [] y e = absurd cc
find_some p (x ∷ xs) y e = found_step p (p x) x y xs refl e (λ later. find_some p xs y later)

-- ---- two owners

pub two_takers : (name : List ℕ) (list : List Package) → is_some (rule_of_takers name list) ≡ true → 2 ≤ length list
two_takers name [] e = absurd (false≢true e)
two_takers name (first ∷ []) e = absurd (false≢true e)
two_takers name (first ∷ second ∷ others) e = omega arith

takers_two : (name : List ℕ) (list : List Package) → 2 ≤ length list → is_some (rule_of_takers name list) ≡ true
takers_two name [] e = absurd (omega (arith, e))
takers_two name (first ∷ []) e = absurd (omega (arith, e))
takers_two name (first ∷ second ∷ others) e = refl

pub few_takers : (list : List Package) (name : List ℕ) → has_two list name ≡ false → count (takes name) list ≤ 1
few_takers list name none = by (count (takes name) list) refl
  where
    by : (n : ℕ) → count (takes name) list ≡ n → count (takes name) list ≤ 1
    by zero e = omega (arith, e)
    by (suc zero) e = omega (arith, e)
    by (suc (suc n)) e = absurd (false≢true (sym none ∙ takers_two name (takers name list) (omega (arith, e, length_filter (takes name) list))))

-- a name that one of them takes is among the names that they take
by_link : (name : List ℕ) (links : List Link) → list_any (names name) links ≡ true → Among name (map (λ link. link.name) links)
by_link name links e =
    let link = among_any (names name) links e in
    subst (λ other. Among other (map (λ it. it.name) links)) (same_text link.0.name name (sym link.2)) (map_among (λ it. it.name) links link.0 link.1)

either_name : (name : List ℕ) (party : Package) (t : Bool) → owns name party ≡ t → (t || replaces name party) ≡ true → Among name (taken_names party)
either_name name party true e f = inl (same_text party.name name (sym e))
either_name name party false e f = inr (by_link name party.replace f)

pub taken_by : (name : List ℕ) (list : List Package) → 1 ≤ count (takes name) list → Among name (flat_map taken_names list)
taken_by name list some =
    let one = counted (takes name) list some in
    flat_map_among taken_names list one.0 name one.1 (either_name name one.0 (owns name one.0) refl one.2)

some_rule : (name : List ℕ) (list : List Package) → is_some (rule_of_takers name list) ≡ true → rule_of_takers name list ≡ None → ⊥
some_rule name list some none = false≢true (sym (ap is_some none) ∙ some)

-- of names with two takers there is a least one, which makes a rule
no_least : (list : List Package) → two_owners list ≡ None → least (filter (has_two list) (flat_map taken_names list)) ≡ None
no_least list none = by (least (filter (has_two list) (flat_map taken_names list))) refl
  where
    by : (found : Option (List ℕ)) → least (filter (has_two list) (flat_map taken_names list)) ≡ found → least (filter (has_two list) (flat_map taken_names list)) ≡ None
    by None e = e
    by (Some name) e =
        let there = find_some (is_least (filter (has_two list) (flat_map taken_names list))) (filter (has_two list) (flat_map taken_names list)) name e in
        absurd (some_rule name (takers name list) (among_filter (has_two list) (flat_map taken_names list) name there.0).1 (sym (ap (option_and_then (λ it. rule_of_takers it (takers it list))) e) ∙ none))

pub owners_kept : (list : List Package) → two_owners list ≡ None → (name : List ℕ) → count (takes name) list ≤ 1
owners_kept list none name = few_takers list name (by (has_two list name) refl)
  where
    among_none : Among name [] → ⊥
    among_none found = found

    by : (t : Bool) → has_two list name ≡ t → has_two list name ≡ false
    by false e = e
    by true e = absurd (among_none (subst (λ some. Among name some) (least_none (filter (has_two list) (flat_map taken_names list)) (no_least list none))
        (filter_among (has_two list) (flat_map taken_names list) name (taken_by name list (omega (arith, length_filter (takes name) list, two_takers name (takers name list) e))) e)))

pub owners_keep : (list : List Package) → ((name : List ℕ) → count (takes name) list ≤ 1) → two_owners list ≡ None
owners_keep list few = ap (λ some. option_and_then (λ name. rule_of_takers name (takers name list)) (least some)) (filter_empty (has_two list) (flat_map taken_names list) (λ name there. by name (has_two list name) refl))
  where
    by : (name : List ℕ) (t : Bool) → has_two list name ≡ t → has_two list name ≡ false
    by name true e = absurd (omega (arith, few name, length_filter (takes name) list, two_takers name (takers name list) e))
    by name false e = e

-- ---- all rules

pub keeps : (pool : Pool) (set : Chosen) → is_valid pool set ≡ true → Keeps pool set
unfolding first_broken
keeps pool set valid =
    let none = none_is (first_broken pool set) valid in
    let a = not_allowed pool (members pool set) in
    let b = two_owners (parties pool set) in
    let c = unmet pool set in
    let d = conflict pool set in
    let after_a = or_none_right a (option_or b (option_or c (option_or d (platform pool set)))) none in
    let after_b = or_none_right b (option_or c (option_or d (platform pool set))) after_a in
    let after_c = or_none_right c (option_or d (platform pool set)) after_b in
    record {
      allowed = λ one there. not_false (is_allowed pool.root one) (find_none (λ member. not (is_allowed pool.root member)) (members pool set) one
          (map_none (λ member. rules.NotAllowed member.«package».name) (find (λ member. not (is_allowed pool.root member)) (members pool set)) (or_none_left a (option_or b (option_or c (option_or d (platform pool set)))) none)) there);
      owners = owners_kept (parties pool set) (or_none_left b (option_or c (option_or d (platform pool set))) after_a);
      met = λ wanted there. find_none (is_unmet (parties pool set)) (requirements pool set) wanted
          (map_none (λ it. rules.Unmet it.0 it.1.name) (find (is_unmet (parties pool set)) (requirements pool set)) (or_none_left c (option_or d (platform pool set)) after_b)) there;
      conflicts = λ from there. map_none (λ other. rules.Conflict from.0 from.1.name other) (against pool.root.platform (parties pool set) from)
          (first_none (conflict_rule pool.root.platform (parties pool set)) (links_of (λ party. party.conflict) (parties pool set)) from (or_none_left d (platform pool set) after_c) there);
      platform = λ wanted there. find_none (is_barred pool.root.platform) (requirements pool set) wanted
          (map_none (λ it. rules.Platform it.0 it.1.name) (find (is_barred pool.root.platform) (requirements pool set)) (or_none_right d (platform pool set) after_c)) there;
    }

pub not_true : (t : Bool) → t ≡ true → not t ≡ false
not_true t e = ap not e

pub kept : (pool : Pool) (set : Chosen) → Keeps pool set → is_valid pool set ≡ true
unfolding first_broken
kept pool set keeps =
    let a : not_allowed pool (members pool set) ≡ None = ap (option_map (λ member. rules.NotAllowed member.«package».name))
    (none_found (λ member. not (is_allowed pool.root member)) (members pool set) (λ one there. not_true (is_allowed pool.root one) (keeps.allowed one there))) in
    let b : two_owners (parties pool set) ≡ None = owners_keep (parties pool set) keeps.owners in
    let c : unmet pool set ≡ None = ap (option_map (λ wanted. rules.Unmet wanted.0 wanted.1.name)) (none_found (is_unmet (parties pool set)) (requirements pool set) keeps.met) in
    let d : conflict pool set ≡ None = none_first (conflict_rule pool.root.platform (parties pool set)) (links_of (λ party. party.conflict) (parties pool set))
    (λ from there. ap (option_map (λ other. rules.Conflict from.0 from.1.name other)) (keeps.conflicts from there)) in
    let e : platform pool set ≡ None = ap (option_map (λ wanted. rules.Platform wanted.0 wanted.1.name)) (none_found (is_barred pool.root.platform) (requirements pool set) keeps.platform) in
    rw (a, b, c, d, e) refl
