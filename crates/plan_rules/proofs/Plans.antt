-- Plans of first choices over the rules: one need after the other, and sets that break no rule.
use Rattle.std.proofs.Common.{◌≡◌, ℕ, zero, suc, ◌+◌, ◌<◌, Bool, true, false, not, List, [], ◌∷◌, ◌++◌, length, map, Option, Some, None, refl, sym, ap, subst, ◌∙◌, arith, inl, inr}
use Rattle.std.specs.Prelude.{◌⊎◌, ◌&&◌, ◌||◌, ◌==◌, option_map}
use Rattle.std.specs.List.{list_any, flat_map, filter_map, cons_option, slice_get}
use Rattle.std.specs.Option.{option_map_or}
use Rattle.std.proofs.lemmas.Bool.{false≢true}
use Rattle.manifest_read.specs.declared.types.Package.{Package}
use Rattle.manifest_read.specs.declared.types.Link.{Link}
use Rattle.pkg_pool.specs.declared.pool.Pool.{Pool}
use Rattle.pkg_pool.specs.declared.pool.Candidate.{Candidate}
use Rattle.plan_rules.specs.Sets.{Chosen, IsWithin, has, is_in, set_from, set_of, has_all}
use Rattle.plan_rules.specs.Requirements.{meets, is_on_package}
use Rattle.plan_rules.specs.declared.rule.Rule.TheVariants as rules
use Rattle.plan_rules.specs.Validity.{members, parties, links_of, requirements, is_unmet, unmet, is_valid}
use Rattle.plan_rules.specs.Preference.{package_at, is_alternative}
use Rattle.plan_rules.specs.FirstChoice.{packages_of, queue, waits, first_unmet}
use Rattle.plan_rules.proofs.Lists.{Among, among_left, among_right, among_either, among_map, map_among, among_flat_map, flat_map_among, find_none, none_found, any_among, among_any}
use Rattle.plan_rules.proofs.SetMembers.{IsMember, among_parties, parties_among, member_of, member_package}
use Rattle.plan_rules.proofs.KeptRules.{Keeps, keeps, kept, find_some}
use Rattle.plan_rules.proofs.Subsets.{smaller}
use Rattle.plan_rules.proofs.FirstChoices.{has_one}

-- ---- numbers

is_number : (a b : ℕ) → (a == b) ≡ true → a ≡ b
is_number a b e = grind (arith, e)

left_true : (s t : Bool) → (s && t) ≡ true → s ≡ true
left_true true t e = refl
left_true false t e = e

right_true : (s t : Bool) → (s && t) ≡ true → t ≡ true
right_true true t e = e
right_true false t e = absurd (false≢true e)

in_step : (t : Bool) (first number : ℕ) (others : List ℕ) → (first == number) ≡ t → (t || is_in number others) ≡ true → (is_in number others ≡ true → Among number others) → Among number (first ∷ others)
in_step true first number others e found later = inl (is_number first number e)
in_step false first number others e found later = inr (later found)

pub among_in : (number : ℕ) (list : List ℕ) → is_in number list ≡ true → Among number list
among_in number [] e = absurd (false≢true e)
among_in number (first ∷ others) e = in_step (first == number) first number others refl e (λ later. among_in number others later)

pub has_among : (set : Chosen) (list : List ℕ) (number : ℕ) → has_all set list ≡ true → Among number list → has set number ≡ true
has_among set [] number all found = absurd found
has_among set (first ∷ others) number all (inl e) = ap (has set) (sym e) ∙ left_true (has set first) (has_all set others) all
has_among set (first ∷ others) number all (inr there) = has_among set others number (right_true (has set first) (has_all set others) all) there

pub has_in : (count at : ℕ) (list : List ℕ) (number : ℕ) → has (set_from count at list) number ≡ true → is_in (at + number) list ≡ true
has_in zero at list number e = absurd (false≢true e)
has_in (suc count) at list zero e = ap (λ n. is_in n list) (omega arith) ∙ e
has_in (suc count) at list (suc number) e = ap (λ n. is_in n list) (omega arith) ∙ has_in count (suc at) list number e

pub own_within : (count : ℕ) (list : List ℕ) (set : Chosen) → has_all set list ≡ true → IsWithin (set_of count list) set
own_within count list set all number e = has_among set list number all (among_in number list (ap (λ n. is_in n list) (omega arith) ∙ has_in count 0 list number e))

or_true : (t : Bool) → (t || true) ≡ true
or_true true = refl
or_true false = refl

same_number : (n : ℕ) → (n == n) ≡ true
same_number n = grind (arith)

pub in_among : (number : ℕ) (list : List ℕ) → Among number list → is_in number list ≡ true
in_among number [] found = absurd found
in_among number (first ∷ others) (inl e) = rw (ap (λ n. n == number) e ∙ same_number number) refl
in_among number (first ∷ others) (inr there) = rw (in_among number others there) (or_true (first == number))

-- ---- packages of a list

-- the packages of the pool at some numbers
abbrev pub chosen_packages : Pool → List ℕ → List Package
chosen_packages pool list = filter_map (package_at pool) list

at_step : (pool : Pool) (o : Option Package) (number : ℕ) (others : List ℕ) (rest : List Package) (party : Package) → package_at pool number ≡ o → Among party (cons_option o rest)
    → (Among party rest → (at : ℕ) × Among at others × (package_at pool at ≡ Some party)) → (at : ℕ) × Among at (number ∷ others) × (package_at pool at ≡ Some party)
at_step pool None number others rest party e found later = let one = later found in (one.0, inr one.1, one.2)
at_step pool (Some other) number others rest party e (inl same) later = (number, inl refl, e ∙ ap Some same)
at_step pool (Some other) number others rest party e (inr there) later = let one = later there in (one.0, inr one.1, one.2)

pub among_chosen_packages : (pool : Pool) (list : List ℕ) (party : Package) → Among party (chosen_packages pool list) → (at : ℕ) × Among at list × (package_at pool at ≡ Some party)
among_chosen_packages pool [] party found = absurd found
among_chosen_packages pool (number ∷ others) party found = at_step pool (package_at pool number) number others (chosen_packages pool others) party refl found (λ later. among_chosen_packages pool others party later)

onto : (o : Option Package) (rest : List Package) (party : Package) → Among party rest → Among party (cons_option o rest)
onto None rest party found = found
onto (Some other) rest party found = inr found

pub chosen_packages_among : (pool : Pool) (list : List ℕ) (number : ℕ) (party : Package) → Among number list → package_at pool number ≡ Some party → Among party (chosen_packages pool list)
chosen_packages_among pool [] number party found e = absurd found
chosen_packages_among pool (first ∷ others) number party (inl same) e = rw (ap (package_at pool) same ∙ e) (inl refl)
chosen_packages_among pool (first ∷ others) number party (inr there) e = onto (package_at pool first) (chosen_packages pool others) party (chosen_packages_among pool others number party there e)

pub in_range : {X : Type 0} (xs : List X) (number : ℕ) (x : X) → slice_get xs number ≡ Some x → number < length xs
in_range [] number x e = absurd cc
in_range (y ∷ ys) zero x e = omega arith
in_range (y ∷ ys) (suc number) x e = omega (arith, in_range ys number x e)

pub package_in_range : (pool : Pool) (number : ℕ) (party : Package) → package_at pool number ≡ Some party → number < length pool.candidates
package_in_range pool number party e = by (slice_get pool.candidates number) refl e
  where
    by : (o : Option Candidate) → slice_get pool.candidates number ≡ o → option_map (λ it. it.«package») o ≡ Some party → number < length pool.candidates
    by None f g = absurd cc
    by (Some one) f g = in_range pool.candidates number one f

-- what an alternative is
pub alternative : (pool : Pool) (need : Link) (number : ℕ) → is_alternative pool need number ≡ true → (party : Package) × (package_at pool number ≡ Some party) × (meets need party ≡ true)
unfolding is_alternative
alternative pool need number e = by (package_at pool number) refl e
  where
    by : (o : Option Package) → package_at pool number ≡ o → option_map_or (meets need) o false ≡ true → (party : Package) × (package_at pool number ≡ Some party) × (meets need party ≡ true)
    by None f g = absurd (false≢true g)
    by (Some party) f g = (party, f, g)

pub is_one : (pool : Pool) (need : Link) (number : ℕ) (party : Package) → package_at pool number ≡ Some party → meets need party ≡ true → is_alternative pool need number ≡ true
unfolding is_alternative
is_one pool need number party e f = rw e f

pub below : (pool : Pool) (need : Link) (number : ℕ) → is_alternative pool need number ≡ true → number < length pool.candidates
below pool need number e = let one = alternative pool need number e in package_in_range pool number one.0 one.1

-- ---- what is unmet

waits_not : (list : List Package) (link : Link) → waits list link ≡ true → (party : Package) → Among party list → meets link party ≡ true → ⊥
waits_not list link e party there f = false≢true (sym (ap not (any_among (meets link) list party there f)) ∙ right_true (is_on_package link) (not (list_any (meets link) list)) e)

unmet_is : (pool : Pool) (before : List ℕ) (need : Link) → first_unmet pool before ≡ Some need → Among need (queue pool before) × (waits (packages_of pool before) need ≡ true)
unfolding first_unmet
unmet_is pool before need e = find_some (waits (packages_of pool before)) (queue pool before) need e

none_unmet : (pool : Pool) (before : List ℕ) (link : Link) → first_unmet pool before ≡ None → Among link (queue pool before) → waits (packages_of pool before) link ≡ false
unfolding first_unmet
none_unmet pool before link e there = find_none (waits (packages_of pool before)) (queue pool before) link e there

-- what is in the queue is required in each set that has the list
abbrev pub IsRequired : Pool → Chosen → Link → Type 0
IsRequired pool set link = (from : List ℕ) × Among (from, link) (requirements pool set)

queue_required : (pool : Pool) (before : List ℕ) (set : Chosen) (link : Link) → has_all set before ≡ true → Among link (queue pool before) → IsRequired pool set link
queue_required pool before set link all found = step (among_either link (pool.root.«package».require ++ pool.root.require_dev) (flat_map (λ party. party.require) (chosen_packages pool before)) found)
  where
    step : Among link (pool.root.«package».require ++ pool.root.require_dev) ⊎ Among link (flat_map (λ party. party.require) (chosen_packages pool before)) → IsRequired pool set link
    step (inl there) = (
      pool.root.«package».name,
      among_left (pool.root.«package».name, link) (map (λ it. (pool.root.«package».name, it)) (pool.root.«package».require ++ pool.root.require_dev)) (links_of (λ party. party.require) (map (λ member. member.«package») (members pool set)))
          (map_among (λ it. (pool.root.«package».name, it)) (pool.root.«package».require ++ pool.root.require_dev) link there),
    )
    step (inr there) =
        let one = among_flat_map (λ party. party.require) (chosen_packages pool before) link there in
        let at = among_chosen_packages pool before one.0 one.1 in (
          one.0.name,
          among_right (one.0.name, link) (map (λ it. (pool.root.«package».name, it)) (pool.root.«package».require ++ pool.root.require_dev)) (links_of (λ party. party.require) (map (λ member. member.«package») (members pool set)))
              (flat_map_among (λ party. map (λ it. (party.name, it)) party.require) (map (λ member. member.«package») (members pool set)) one.0 (one.0.name, link)
              (member_package pool set one.0 (at.0, at.2, has_among set before at.0 all at.1)) (map_among (λ it. (one.0.name, it)) one.0.require link one.2)),
        )

-- a package that a set requires to be met is met
met_in : (pool : Pool) (set : Chosen) (link : Link) → Keeps pool set → IsRequired pool set link → is_on_package link ≡ true → (party : Package) × Among party (parties pool set) × (meets link party ≡ true)
met_in pool set link keeps required on = among_any (meets link) (parties pool set) (by (list_any (meets link) (parties pool set)) refl)
  where
    by : (t : Bool) → list_any (meets link) (parties pool set) ≡ t → list_any (meets link) (parties pool set) ≡ true
    by true e = e
    by false e = absurd (false≢true (sym (keeps.met (required.0, link) required.1) ∙ rw (on, e) refl))

pub met : (pool : Pool) (before : List ℕ) (need : Link) (set : Chosen) → length set ≡ length pool.candidates → is_valid pool set ≡ true → has_all set before ≡ true → first_unmet pool before ≡ Some need
    → (choice : ℕ) × (is_alternative pool need choice ≡ true) × (has set choice ≡ true)
met pool before need set size valid all e =
    let unmet = unmet_is pool before need e in
    let found = met_in pool set need (keeps pool set valid) (queue_required pool before set need all unmet.0) (left_true (is_on_package need) (not (list_any (meets need) (packages_of pool before))) unmet.1) in
    by unmet.1 found.0 found.2 (among_parties pool set found.0 found.1)
  where
    by : waits (packages_of pool before) need ≡ true → (party : Package) → meets need party ≡ true → (pool.root.«package» ≡ party) ⊎ IsMember pool set party → (choice : ℕ) × (is_alternative pool need choice ≡ true) × (has set choice ≡ true)
    by waiting party meets_it (inl root) = absurd (waits_not (packages_of pool before) need waiting party (inl root) meets_it)
    by waiting party meets_it (inr member) = (member.0, is_one pool need member.0 party member.1 meets_it, member.2)

pub fresh : (pool : Pool) (before : List ℕ) (need : Link) (choice : ℕ) → first_unmet pool before ≡ Some need → is_alternative pool need choice ≡ true → is_in choice before ≡ false
fresh pool before need choice e f = by (is_in choice before) refl
  where
    by : (t : Bool) → is_in choice before ≡ t → is_in choice before ≡ false
    by false g = g
    by true g = let one = alternative pool need choice f in
        absurd (waits_not (packages_of pool before) need (unmet_is pool before need e).1 one.0 (inr (chosen_packages_among pool before choice one.0 (among_in choice before g) one.1)) one.2)

-- ---- a list without an unmet requirement

own_parties : (pool : Pool) (before : List ℕ) (party : Package) → Among party (packages_of pool before) → Among party (parties pool (set_of (length pool.candidates) before))
own_parties pool before party (inl root) = inl root
own_parties pool before party (inr there) =
    let at = among_chosen_packages pool before party there in
    parties_among pool (set_of (length pool.candidates) before) party (inr (at.0, at.2, has_one (length pool.candidates) before at.0 (package_in_range pool at.0 party at.2) (in_among at.0 before at.1)))

-- what the set of a list requires is in its queue
required_queue : (pool : Pool) (before : List ℕ) (wanted : List ℕ × Link) → Among wanted (requirements pool (set_of (length pool.candidates) before)) → Among wanted.1 (queue pool before)
required_queue pool before wanted found = step (among_either wanted (map (λ it. (pool.root.«package».name, it)) (pool.root.«package».require ++ pool.root.require_dev)) (links_of (λ party. party.require) (map (λ member. member.«package») (members pool (set_of (length pool.candidates) before)))) found)
  where
    step : Among wanted (map (λ it. (pool.root.«package».name, it)) (pool.root.«package».require ++ pool.root.require_dev)) ⊎ Among wanted (links_of (λ party. party.require) (map (λ member. member.«package») (members pool (set_of (length pool.candidates) before)))) → Among wanted.1 (queue pool before)
    step (inl there) =
        let link = among_map (λ it. (pool.root.«package».name, it)) (pool.root.«package».require ++ pool.root.require_dev) wanted there in
        among_left wanted.1 (pool.root.«package».require ++ pool.root.require_dev) (flat_map (λ party. party.require) (chosen_packages pool before))
        (subst (λ it. Among it (pool.root.«package».require ++ pool.root.require_dev)) (ap (λ it. it.1) link.2) link.1)
    step (inr there) =
        let one = among_flat_map (λ party. map (λ it. (party.name, it)) party.require) (map (λ member. member.«package») (members pool (set_of (length pool.candidates) before))) wanted there in
        let link = among_map (λ it. (one.0.name, it)) one.0.require wanted one.2 in
        let member = member_of pool (set_of (length pool.candidates) before) one.0 one.1 in
        among_right wanted.1 (pool.root.«package».require ++ pool.root.require_dev) (flat_map (λ party. party.require) (chosen_packages pool before))
        (flat_map_among (λ party. party.require) (chosen_packages pool before) one.0 wanted.1
        (chosen_packages_among pool before member.0 one.0 (among_in member.0 before (ap (λ n. is_in n before) (omega arith) ∙ has_in (length pool.candidates) 0 before member.0 member.2)) member.1)
        (subst (λ it. Among it one.0.require) (ap (λ it. it.1) link.2) link.1))

fewer_wait : (on : Bool) (small large : Bool) → (on && not small) ≡ false → (small ≡ true → large ≡ true) → (on && not large) ≡ false
fewer_wait false small large e more = refl
fewer_wait true true large e more = rw (more refl) refl
fewer_wait true false large e more = absurd cc

pub done : (pool : Pool) (before : List ℕ) (set : Chosen) → length set ≡ length pool.candidates → is_valid pool set ≡ true → has_all set before ≡ true → first_unmet pool before ≡ None → is_valid pool (set_of (length pool.candidates) before) ≡ true
done pool before set size valid all e =
    kept pool (set_of (length pool.candidates) before) (smaller pool (set_of (length pool.candidates) before) set (own_within (length pool.candidates) before set all) (keeps pool set valid)
    (λ wanted there. fewer_wait (is_on_package wanted.1) (list_any (meets wanted.1) (packages_of pool before)) (list_any (meets wanted.1) (parties pool (set_of (length pool.candidates) before)))
    (none_unmet pool before wanted.1 e (required_queue pool before wanted there))
    (λ found. let one = among_any (meets wanted.1) (packages_of pool before) found in any_among (meets wanted.1) (parties pool (set_of (length pool.candidates) before)) one.0 (own_parties pool before one.0 one.1) one.2)))

-- where nothing waits behind a list, its set has all that it requires
pub unmet_of_lists : (pool : Pool) (list : List ℕ) → first_unmet pool list ≡ None → unmet pool (set_of (length pool.candidates) list) ≡ None
unmet_of_lists pool list e = ap (option_map (λ wanted. rules.Unmet wanted.0 wanted.1.name))
    (none_found (is_unmet (parties pool (set_of (length pool.candidates) list))) (requirements pool (set_of (length pool.candidates) list))
    (λ wanted there. fewer_wait (is_on_package wanted.1) (list_any (meets wanted.1) (packages_of pool list)) (list_any (meets wanted.1) (parties pool (set_of (length pool.candidates) list)))
    (none_unmet pool list wanted.1 e (required_queue pool list wanted there))
    (λ found. let one = among_any (meets wanted.1) (packages_of pool list) found in any_among (meets wanted.1) (parties pool (set_of (length pool.candidates) list)) one.0 (own_parties pool list one.0 one.1) one.2)))
