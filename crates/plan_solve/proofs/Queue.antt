-- The queue of requirements behind a list and one more, the first one that waits, and the marks of a list.
use Rattle.std.proofs.Common.{◌≡◌, ℕ, zero, suc, ◌+◌, ◌-◌, ◌<◌, Bool, true, false, cond, not, List, [], ◌∷◌, ◌++◌, length, map, find, take, drop, set, Option, Some, None, refl, sym, ap, ◌∙◌, append_assoc, arith, inl, inr}
use Rattle.std.specs.Prelude.{◌⊎◌, ◌&&◌, ◌||◌}
use Rattle.std.specs.List.{slice_get, list_any, flat_map, filter_map, cons_option}
use Rattle.std.specs.Option.{option_map_or}
use Rattle.std.proofs.Math.Seq.{take-append_seam}
use Rattle.std.proofs.Math.Numerals.{add-one}
use Rattle.std.proofs.lemmas.List.{append-nil, length-append}
use Rattle.std.proofs.lemmas.List.Elements.{filter_map-append}
use Rattle.std.proofs.lemmas.List.Folds.{list_any-append}
use Rattle.std.proofs.lemmas.Grind.{flat_map-append}
use Rattle.std.proofs.lemmas.Option.{slice_get_within}
use Rattle.std.proofs.lemmas.Bool.{false≢true}
use Rattle.manifest_read.specs.declared.types.Link.{Link}
use Rattle.manifest_read.specs.declared.types.Package.{Package}
use Rattle.pkg_pool.specs.declared.pool.Pool.{Pool}
use Rattle.plan_rules.specs.Sets.{Chosen, has, is_in, set_of}
use Rattle.plan_rules.specs.Requirements.{meets, is_on_package}
use Rattle.plan_rules.specs.Preference.{package_at}
use Rattle.plan_rules.specs.FirstChoice.{first_unmet, packages_of, queue, waits}
use Rattle.plan_rules.proofs.Beside.{chosen_are}
use Rattle.plan_rules.proofs.Marked.{one_marked}
use Rattle.plan_rules.proofs.Plans.{has_in}
use Rattle.plan_solve.specs.declared.members.Members.{Members}
use Rattle.plan_solve.specs.Search.{AreMembers, NoneWaits, first_place, waits_by, requires_of, links_of}

-- ---- one more member

required : (o : Option Package) → flat_map (λ party. party.require) (cons_option o []) ≡ option_map_or (λ party. party.require) o []
required None = refl
required (Some party) = append-nil party.require

-- what it requires comes last
pub queue_more : (pool : Pool) (before : List ℕ) (number : ℕ) → queue pool (before ++ number ∷ []) ≡ queue pool before ++ requires_of pool number
queue_more pool before number =
    ap (λ rest. (pool.root.«package».require ++ pool.root.require_dev) ++ rest)
    (ap (flat_map (λ party. party.require)) (filter_map-append (package_at pool) before (number ∷ []))
    ∙ flat_map-append (λ party. party.require) (filter_map (package_at pool) before) (cons_option (package_at pool number) [])
    ∙ ap (λ rest. flat_map (λ party. party.require) (filter_map (package_at pool) before) ++ rest) (required (package_at pool number)))
    ∙ sym (append_assoc (pool.root.«package».require ++ pool.root.require_dev) (flat_map (λ party. party.require) (filter_map (package_at pool) before)) (requires_of pool number))

pub queue_none : (pool : Pool) → queue pool [] ≡ pool.root.«package».require ++ pool.root.require_dev
queue_none pool = append-nil (pool.root.«package».require ++ pool.root.require_dev)

-- what comes last taken away again
pub front_taken : {X : Type 0} (front back whole : List X) → whole ≡ front ++ back → take (length whole - length back) whole ≡ front
front_taken front back whole e =
    ap (λ n. take n whole) (omega (arith, ap length e, length-append front back)) ∙ ap (take (length front)) e ∙ take-append_seam front back

-- ---- a mark taken back

mark_back : (marks : Chosen) (number : ℕ) → has marks number ≡ false → set (set marks number true) number false ≡ marks
mark_back [] number e = refl
mark_back (mark ∷ others) zero e = ap (λ t. t ∷ others) (sym e)
mark_back (mark ∷ others) (suc number) e = ap (λ rest. mark ∷ rest) (mark_back others number e)

not_marked : (count : ℕ) (before : List ℕ) (number : ℕ) → is_in number before ≡ false → has (set_of count before) number ≡ false
not_marked count before number new = by (has (set_of count before) number) refl
  where
    by : (t : Bool) → has (set_of count before) number ≡ t → t ≡ false
    by false e = refl
    by true e = absurd (false≢true (sym new ∙ ap (λ n. is_in n before) (omega arith) ∙ has_in count 0 before number e))

pub one_unmarked : (count : ℕ) (before : List ℕ) (number : ℕ) → is_in number before ≡ false → set (set_of count (before ++ number ∷ [])) number false ≡ set_of count before
one_unmarked count before number new = ap (λ marks. set marks number false) (one_marked count number before) ∙ mark_back (set_of count before) number (not_marked count before number new)

-- ---- what waits

-- told by marks
pub waits_same : (pool : Pool) (before : List ℕ) (need : Link) → waits_by pool (set_of (length pool.candidates) before) need ≡ waits (packages_of pool before) need
waits_same pool before need = ap (λ t. is_on_package need && not (meets need pool.root.«package» || t)) (chosen_are pool before (meets need))

still_met : (on small more : Bool) → (on && not small) ≡ false → (on && not (small || more)) ≡ false
still_met on true more e = e
still_met false false more e = refl
still_met true false more e = absurd (false≢true (sym e))

-- what is met stays so
met_more : (pool : Pool) (before : List ℕ) (number : ℕ) (need : Link) → waits (packages_of pool before) need ≡ false → waits (packages_of pool (before ++ number ∷ [])) need ≡ false
met_more pool before number need met =
    ap (λ t. is_on_package need && not t) (ap (λ list. list_any (meets need) (pool.root.«package» ∷ list)) (filter_map-append (package_at pool) before (number ∷ []))
    ∙ list_any-append (meets need) (packages_of pool before) (cons_option (package_at pool number) []))
    ∙ still_met (is_on_package need) (list_any (meets need) (packages_of pool before)) (list_any (meets need) (cons_option (package_at pool number) [])) met

get_front : {X : Type 0} (xs ys : List X) (place : ℕ) → place < length xs → slice_get (xs ++ ys) place ≡ slice_get xs place
get_front [] ys place less = absurd (omega (arith, less))
get_front (x ∷ xs) ys zero less = refl
get_front (x ∷ xs) ys (suc place) less = get_front xs ys place (omega (arith, less))

-- none before a place of the queue waits with one more member either
pub none_waits_more : (pool : Pool) (before : List ℕ) (number place : ℕ) (need : Link) → slice_get (queue pool before) place ≡ Some need → NoneWaits pool before place → NoneWaits pool (before ++ number ∷ []) place
none_waits_more pool before number place need there none at link less found =
    met_more pool before number link (none at link less
    (sym (get_front (queue pool before) (requires_of pool number) at (omega (arith, less, slice_get_within (queue pool before) place need there)))
    ∙ ap (λ list. slice_get list at) (sym (queue_more pool before number)) ∙ found))

-- ---- the first that passes

module _ {X : Type 0} (passes : X → Bool) where
  pub record IsFirstAt (xs : List X) (place : ℕ) : Type 0 where
    pub item : X
    pub there : slice_get xs place ≡ Some item
    pub passed : passes item ≡ true
    pub earlier : (at : ℕ) (x : X) → at < place → slice_get xs at ≡ Some x → passes x ≡ false

  first_is : (x y : X) → Some x ≡ Some y → x ≡ y
  first_is x y e = cc

  one_later : (x : X) (xs : List X) (place : ℕ) → passes x ≡ false → IsFirstAt xs place → IsFirstAt (x ∷ xs) (suc place)
  one_later x xs place e first = record { item = first.item; there = first.there; passed = first.passed; earlier = each }
    where
      each : (at : ℕ) (y : X) → at < suc place → slice_get (x ∷ xs) at ≡ Some y → passes y ≡ false
      each zero y less found = ap passes (sym (first_is x y found)) ∙ e
      each (suc at) y less found = first.earlier at y (omega (arith, less)) found

  -- a place of those from a number on
  abbrev IsPlaceFrom : ℕ → List X → ℕ → Type 0
  IsPlaceFrom from xs place = (behind : ℕ) × (place ≡ from + behind) × IsFirstAt xs behind

  found_from : (from : ℕ) (xs : List X) (place : ℕ) → first_place passes from xs ≡ Some place → IsPlaceFrom from xs place
  found_from from [] place e = absurd cc
  found_from from (x ∷ xs) place e = by (passes x) refl e (found_from (suc from) xs place)
    where
      by : (t : Bool) → passes x ≡ t → cond t (Some from) (first_place passes (suc from) xs) ≡ Some place → (first_place passes (suc from) xs ≡ Some place → IsPlaceFrom (suc from) xs place) → IsPlaceFrom from (x ∷ xs) place
      by true f found later = (0, omega (arith, same from place found), record { item = x; there = refl; passed = f; earlier = λ at y less there. absurd (omega (arith, less)) })
        where
          same : (a b : ℕ) → Some a ≡ Some b → a ≡ b
          same a b e = cc
      by false f found later = let one = later found in (suc one.0, omega (arith, one.1), one_later x xs one.0 f one.2)

  none_from : (from : ℕ) (xs : List X) → first_place passes from xs ≡ None → (at : ℕ) (x : X) → slice_get xs at ≡ Some x → passes x ≡ false
  none_from from [] e at x found = absurd cc
  none_from from (x ∷ xs) e at y found = by (passes x) refl e at found (none_from (suc from) xs)
    where
      by : (t : Bool) → passes x ≡ t → cond t (Some from) (first_place passes (suc from) xs) ≡ None → (k : ℕ) → slice_get (x ∷ xs) k ≡ Some y
          → (first_place passes (suc from) xs ≡ None → (j : ℕ) (z : X) → slice_get xs j ≡ Some z → passes z ≡ false) → passes y ≡ false
      by true f none k there later = absurd cc
      by false f none zero there later = ap passes (sym (first_is x y there)) ∙ f
      by false f none (suc k) there later = later none k y there

  get_drop : (from at : ℕ) (xs : List X) → slice_get (drop from xs) at ≡ slice_get xs (from + at)
  get_drop zero at xs = ap (slice_get xs) (zero_more at)
    where
      zero_more : (n : ℕ) → n ≡ zero + n
      zero_more n = omega arith
  get_drop (suc from) at [] = refl
  get_drop (suc from) at (x ∷ xs) = get_drop from at xs ∙ ap (slice_get (x ∷ xs)) (one_more from at)
    where
      one_more : (m n : ℕ) → suc (m + n) ≡ suc m + n
      one_more m n = omega arith

  -- the place of the first, one place on
  place_step : (start : ℕ) (xs : List X) (at : ℕ) (x : X) → slice_get xs at ≡ Some x
      → first_place passes start (drop at xs) ≡ cond (passes x) (Some start) (first_place passes (suc start) (drop (suc at) xs))
  place_step start [] at x found = absurd cc
  place_step start (y ∷ ys) zero x found = ap (λ z. cond (passes z) (Some start) (first_place passes (suc start) ys)) (first_is y x found)
  place_step start (y ∷ ys) (suc at) x found = place_step start ys at x found

  pub place_here : (xs : List X) (at : ℕ) (x : X) → slice_get xs at ≡ Some x → passes x ≡ true → first_place passes at (drop at xs) ≡ Some at
  place_here xs at x found e = place_step at xs at x found ∙ ap (λ t. cond t (Some at) (first_place passes (suc at) (drop (suc at) xs))) e

  pub place_later : (xs : List X) (at : ℕ) (x : X) → slice_get xs at ≡ Some x → passes x ≡ false → first_place passes at (drop at xs) ≡ first_place passes (at + 1) (drop (at + 1) xs)
  place_later xs at x found e = place_step at xs at x found ∙ ap (λ t. cond t (Some at) (first_place passes (suc at) (drop (suc at) xs))) e ∙ ap (λ n. first_place passes n (drop n xs)) (sym (add-one at))

  below_or_from : (at from : ℕ) → (at < from) ⊎ ((behind : ℕ) × (at ≡ from + behind))
  below_or_from at zero = inr (at, omega arith)
  below_or_from zero (suc from) = inl (omega arith)
  below_or_from (suc at) (suc from) = by (below_or_from at from)
    where
      by : (at < from) ⊎ ((behind : ℕ) × (at ≡ from + behind)) → (suc at < suc from) ⊎ ((behind : ℕ) × (suc at ≡ suc from + behind))
      by (inl less) = inl (omega (arith, less))
      by (inr some) = inr (some.0, omega (arith, some.1))

  module _ (xs : List X) (from : ℕ) (none : (at : ℕ) (x : X) → at < from → slice_get xs at ≡ Some x → passes x ≡ false) where
    pub first_at : (place : ℕ) → first_place passes from (drop from xs) ≡ Some place → IsFirstAt xs place
    first_at place e =
        let one = found_from from (drop from xs) place e in
        record {
          item = one.2.item;
          there = ap (slice_get xs) one.1 ∙ sym (get_drop from one.0 xs) ∙ one.2.there;
          passed = one.2.passed;
          earlier = λ at x less found. by one.0 one.2 at x (omega (arith, one.1, less)) found (below_or_from at from);
        }
      where
        by : (behind : ℕ) → IsFirstAt (drop from xs) behind → (at : ℕ) (x : X) → at < from + behind → slice_get xs at ≡ Some x → (at < from) ⊎ ((k : ℕ) × (at ≡ from + k)) → passes x ≡ false
        by behind first at x less found (inl before) = none at x before found
        by behind first at x less found (inr some) = first.earlier some.0 x (omega (arith, some.1, less)) (get_drop from some.0 xs ∙ ap (slice_get xs) (sym some.1) ∙ found)

    pub none_at : first_place passes from (drop from xs) ≡ None → (at : ℕ) (x : X) → slice_get xs at ≡ Some x → passes x ≡ false
    none_at e at x found = by (below_or_from at from)
      where
        by : (at < from) ⊎ ((k : ℕ) × (at ≡ from + k)) → passes x ≡ false
        by (inl before) = none at x before found
        by (inr some) = none_from from (drop from xs) e some.0 x (get_drop from some.0 xs ∙ ap (slice_get xs) (sym some.1) ∙ found)

  find_step : (x : X) (xs : List X) (o : Option X) → passes x ≡ false → find passes xs ≡ o → find passes (x ∷ xs) ≡ o
  find_step x xs o e rest = rw e rest

  pub find_at : (xs : List X) (place : ℕ) → (first : IsFirstAt xs place) → find passes xs ≡ Some first.item
  find_at [] place first = absurd cc
  find_at (x ∷ xs) zero first = rw (ap passes (first_is x first.item first.there) ∙ first.passed) first.there
  find_at (x ∷ xs) (suc place) first = find_step x xs (Some first.item) (first.earlier 0 x (omega arith) refl)
      (find_at xs place (record { item = first.item; there = first.there; passed = first.passed; earlier = λ at y less found. first.earlier (suc at) y (omega (arith, less)) found }))

  pub find_none_at : (xs : List X) → ((at : ℕ) (x : X) → slice_get xs at ≡ Some x → passes x ≡ false) → find passes xs ≡ None
  find_none_at [] all = refl
  find_none_at (x ∷ xs) all = find_step x xs None (all 0 x refl) (find_none_at xs (λ at y found. all (suc at) y found))

-- ---- the first requirement that waits

-- the requirements behind a list, as they stand with its members
abbrev pub listed : Members → List Link
listed members = links_of members.queue.items

-- a requirement that waits at a place, behind others that don't
pub record WaitsAt (pool : Pool) (before : List ℕ) (place : ℕ) : Type 0 where
  pub need : Link
  pub there : slice_get (queue pool before) place ≡ Some need
  pub unmet : first_unmet pool before ≡ Some need
  pub earlier : NoneWaits pool before place

module _ (pool : Pool) (before : List ℕ) (members : Members) (from : ℕ) (known : AreMembers pool before members) (none : NoneWaits pool before from) where
  abbrev passes : Link → Bool
  passes = waits_by pool members.marks.items

  same : (need : Link) → passes need ≡ waits (packages_of pool before) need
  same need = ap (λ marks. waits_by pool marks need) known.marks ∙ waits_same pool before need

  earlier : (at : ℕ) (need : Link) → at < from → slice_get (queue pool before) at ≡ Some need → passes need ≡ false
  earlier at need less found = same need ∙ none at need less found

  in_queue : first_place passes from (drop from (listed members)) ≡ first_place passes from (drop from (queue pool before))
  in_queue = ap (λ list. first_place passes from (drop from list)) known.queue

  pub nothing_waits : first_place passes from (drop from (listed members)) ≡ None → first_unmet pool before ≡ None
  unfolding first_unmet
  nothing_waits e = find_none_at (waits (packages_of pool before)) (queue pool before)
      (λ at need found. sym (same need) ∙ none_at passes (queue pool before) from earlier (sym in_queue ∙ e) at need found)

  pub waits_at : (place : ℕ) → first_place passes from (drop from (listed members)) ≡ Some place → WaitsAt pool before place
  unfolding first_unmet
  waits_at place e =
      let first = first_at passes (queue pool before) from earlier place (sym in_queue ∙ e) in
      record {
        need = first.item;
        there = first.there;
        unmet = find_at (waits (packages_of pool before)) (queue pool before) place (record { item = first.item; there = first.there; passed = sym (same first.item) ∙ first.passed; earlier = λ at need less found. sym (same need) ∙ first.earlier at need less found });
        earlier = λ at need less found. sym (same need) ∙ first.earlier at need less found;
      }

pub same_item : {X : Type 0} (x y : X) → Some x ≡ Some y → x ≡ y
same_item x y e = cc
