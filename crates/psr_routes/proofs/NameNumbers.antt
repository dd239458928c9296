-- Numbers of names are ordered as the names are.
use Rattle.std.proofs.Common.{◌≡◌, ℕ, zero, suc, ◌+◌, ◌<◌, ◌≤◌, Bool, true, false, cond, List, [], ◌∷◌, ◌++◌, length, get_or, take, map, Some, refl, sym, ap, subst, ◌∙◌, arith, inl, inr}
use Rattle.std.specs.Prelude.{◌⊎◌, ◌||◌}
use Rattle.std.specs.Borrow.{Bor}
use Rattle.std.specs.List.{All, AllWithin, Contains, list_any, count_by, slice_get}
use Rattle.std.specs.List.Sorted.{IsSorted}
use Rattle.std.specs.Ordering.{nat_cmp, is_lt, ordering_reverse}
use Rattle.std.specs.Cmp.Lexicographic.{bytes_decides}
use Rattle.std.specs.declared.cmp.Ordering.{Ordering}
use Rattle.std.specs.declared.cmp.Ordering.TheVariants.{Less, Equal, Greater}
use Rattle.std.proofs.lemmas.Bool.{false≢true}
use Rattle.std.proofs.lemmas.Bool.Decides.{nat_tests}
use Rattle.std.proofs.lemmas.Cmp.{tied_itself}
use Rattle.std.proofs.lemmas.List.Sums.{sum_by-cons}
use Rattle.std.specs.List.{flat_map}
use Rattle.std.specs.List.Sorted.{IsPermutation, IsPartitionedBy}
use Rattle.std.proofs.lemmas.List.{length-map, get_or-map, map-append, take_more, flat_map_more}
use Rattle.std.proofs.lemmas.List.Folds.{Any-from_list_any, list_any_at}
use Rattle.std.proofs.lemmas.List.Sorted.{sorted_far, ranks_by, sum_by-IsPermutation, list_any-IsPermutation, IsPermutation-map}
use Rattle.std.proofs.lemmas.List.Elements.{All-append, All-nil, All-cons, Contains-append_left, Contains-append_right, Contains-append_cases, Contains-push, Contains-push_cases, at_from_Contains, Contains-get_or}
use Rattle.path_name.specs.Orders.{byte_cmp, bytes_are_equal, byte_cmp_total, byte_cmp_exact}
use Rattle.manifest_read.specs.declared.types.Link.{Link}
use Rattle.psr_routes.specs.declared.types.Placed.{Placed}
use Rattle.psr_routes.specs.declared.needs.Needs.{Needs}
use Rattle.psr_routes.specs.Numbers.{lent, names_of, IsInOrder, IsPointOf, number_in, is_borne, number_if_borne, required_by, IsOf}
use Rattle.psr_routes.specs.Waiting.{count_of, number_at, required_at, Fits}
use Rattle.psr_routes.proofs.Queues.{below_or_not}
use Rattle.psr_routes.proofs.NextPackage.{Agrees, at_within}

either : (a b : Bool) → (a || b) ≡ true → (a ≡ true) ⊎ ((a ≡ false) × (b ≡ true))
either true b e = inl refl
either false b e = inr (refl, e)

or_true : (t : Bool) → (t || true) ≡ true
or_true true = refl
or_true false = refl

not_less_itself : (name : List ℕ) → is_lt (byte_cmp name name) ≡ false
not_less_itself name = ap is_lt (tied_itself byte_cmp_total name)

less_is : (o : Ordering) → is_lt o ≡ true → o ≡ Less
less_is Less e = refl
less_is Equal e = absurd (false≢true e)
less_is Greater e = absurd (false≢true e)

-- ---- more names are less than a greater one

number_cons : (x : List ℕ) (names : List (List ℕ)) (name : List ℕ) → number_in (x ∷ names) name ≡ cond (is_lt (byte_cmp x name)) 1 0 + number_in names name
number_cons x names name = sum_by-cons (λ other. cond (is_lt (byte_cmp other name)) 1 0) x names

no_fewer : (t u : Bool) (few many all more : ℕ) → all ≡ cond t 1 0 + few → more ≡ cond u 1 0 + many → (t ≡ true → u ≡ true) → few ≤ many → all ≤ more
no_fewer true true few many all more e f so h = omega (arith, e, f, h)
no_fewer true false few many all more e f so h = absurd (false≢true (so refl))
no_fewer false true few many all more e f so h = omega (arith, e, f, h)
no_fewer false false few many all more e f so h = omega (arith, e, f, h)

fewer : (t u : Bool) (few many all more : ℕ) → all ≡ cond t 1 0 + few → more ≡ cond u 1 0 + many → (t ≡ true → u ≡ true) → few < many → all < more
fewer true true few many all more e f so h = omega (arith, e, f, h)
fewer true false few many all more e f so h = absurd (false≢true (so refl))
fewer false true few many all more e f so h = omega (arith, e, f, h)
fewer false false few many all more e f so h = omega (arith, e, f, h)

one_fewer : (t u : Bool) (few many all more : ℕ) → all ≡ cond t 1 0 + few → more ≡ cond u 1 0 + many → t ≡ false → u ≡ true → few ≤ many → all < more
one_fewer true u few many all more e f miss hit h = absurd (false≢true (sym miss))
one_fewer false true few many all more e f miss hit h = omega (arith, e, f, h)
one_fewer false false few many all more e f miss hit h = absurd (false≢true hit)

less_too : (other name longer : List ℕ) → byte_cmp name longer ≡ Less → is_lt (byte_cmp other name) ≡ true → is_lt (byte_cmp other longer) ≡ true
less_too other name longer less e = ap is_lt (byte_cmp_total.trans other name longer (less_is (byte_cmp other name) e) less)

no_more : (names : List (List ℕ)) (name greater : List ℕ) → byte_cmp name greater ≡ Less → number_in names name ≤ number_in names greater
no_more [] name greater less = omega arith
no_more (x ∷ names) name greater less = no_fewer (is_lt (byte_cmp x name)) (is_lt (byte_cmp x greater)) (number_in names name) (number_in names greater) (number_in (x ∷ names) name) (number_in (x ∷ names) greater)
    (number_cons x names name) (number_cons x names greater) (less_too x name greater less) (no_more names name greater less)

-- strictly, where the lesser one is among the names
lesser : (names : List (List ℕ)) (name greater : List ℕ) → byte_cmp name greater ≡ Less → is_borne names name ≡ true → number_in names name < number_in names greater
lesser [] name greater less borne = absurd (false≢true borne)
lesser (x ∷ names) name greater less borne = elim (either (bytes_are_equal name x) (is_borne names name) borne) [
  | inl here ↦
      let same : name ≡ x = (bytes_decides name x).0 here in
      one_fewer (is_lt (byte_cmp x name)) (is_lt (byte_cmp x greater)) (number_in names name) (number_in names greater) (number_in (x ∷ names) name) (number_in (x ∷ names) greater)
      (number_cons x names name) (number_cons x names greater)
      (ap (λ y. is_lt (byte_cmp y name)) (sym same) ∙ not_less_itself name) (ap (λ y. is_lt (byte_cmp y greater)) (sym same) ∙ ap is_lt less) (no_more names name greater less)
  | inr there ↦ fewer (is_lt (byte_cmp x name)) (is_lt (byte_cmp x greater)) (number_in names name) (number_in names greater) (number_in (x ∷ names) name) (number_in (x ∷ names) greater)
      (number_cons x names name) (number_cons x names greater) (less_too x name greater less) (lesser names name greater less there.1)
]

count_one : (t : Bool) (few all most : ℕ) → all ≡ cond t 1 0 + few → few ≤ most → all ≤ most + 1
count_one true few all most e h = omega (arith, e, h)
count_one false few all most e h = omega (arith, e, h)

count_less : (t : Bool) (few all most : ℕ) → all ≡ cond t 1 0 + few → few < most → all < most + 1
count_less true few all most e h = omega (arith, e, h)
count_less false few all most e h = omega (arith, e, h)

count_none : (t : Bool) (few all most : ℕ) → all ≡ cond t 1 0 + few → t ≡ false → few ≤ most → all < most + 1
count_none true few all most e f h = absurd (false≢true (sym f))
count_none false few all most e f h = omega (arith, e, h)

upto_all : (names : List (List ℕ)) (name : List ℕ) → number_in names name ≤ length names
upto_all [] name = omega arith
upto_all (x ∷ names) name = omega (arith, count_one (is_lt (byte_cmp x name)) (number_in names name) (number_in (x ∷ names) name) (length names) (number_cons x names name) (upto_all names name))

pub below_all : (names : List (List ℕ)) (name : List ℕ) → is_borne names name ≡ true → number_in names name < length names
below_all [] name borne = absurd (false≢true borne)
below_all (x ∷ names) name borne = elim (either (bytes_are_equal name x) (is_borne names name) borne) [
  | inl here ↦
      let same : name ≡ x = (bytes_decides name x).0 here in
      omega (arith, count_none (is_lt (byte_cmp x name)) (number_in names name) (number_in (x ∷ names) name) (length names) (number_cons x names name) (ap (λ y. is_lt (byte_cmp y name)) (sym same) ∙ not_less_itself name) (upto_all names name))
  | inr there ↦ omega (arith, count_less (is_lt (byte_cmp x name)) (number_in names name) (number_in (x ∷ names) name) (length names) (number_cons x names name) (below_all names name there.1))
]

less_numbers : (a b : ℕ) → a < b → nat_cmp a b ≡ Less
less_numbers a b h = grind (arith, nat_tests)

equal_numbers : (a b : ℕ) → a ≡ b → nat_cmp a b ≡ Equal
equal_numbers a b h = grind (arith, nat_tests)

greater_numbers : (a b : ℕ) → b < a → nat_cmp a b ≡ Greater
greater_numbers a b h = grind (arith, nat_tests)

pub same_order : (names : List (List ℕ)) (name other : List ℕ) → is_borne names name ≡ true → is_borne names other ≡ true → nat_cmp (number_in names name) (number_in names other) ≡ byte_cmp name other
same_order names name other borne also = by (byte_cmp name other) refl
  where
    by : (o : Ordering) → byte_cmp name other ≡ o → nat_cmp (number_in names name) (number_in names other) ≡ o
    by Less e = less_numbers (number_in names name) (number_in names other) (lesser names name other e borne)
    by Equal e = equal_numbers (number_in names name) (number_in names other) (ap (number_in names) (byte_cmp_exact name other e))
    by Greater e = greater_numbers (number_in names name) (number_in names other) (lesser names other name (byte_cmp_total.antisymm other name ∙ ap ordering_reverse e) also)

same_name : (names : List (List ℕ)) (name other : List ℕ) → is_borne names name ≡ true → is_borne names other ≡ true → number_in names name ≡ number_in names other → name ≡ other
same_name names name other borne also e = byte_cmp_exact name other (sym (same_order names name other borne also) ∙ equal_numbers (number_in names name) (number_in names other) e)

-- ---- numbers that links require

one_number : (names : List (List ℕ)) (name : List ℕ) → is_borne names name ≡ true → number_if_borne names name ≡ number_in names name ∷ []
one_number names name borne = rw borne refl

pub is_required : (names : List (List ℕ)) (links : List Link) (name : List ℕ) → is_borne names name ≡ true → list_any (λ link. bytes_are_equal link.name name) links ≡ true → Contains (required_by names links) (number_in names name)
is_required names [] name borne any = absurd (false≢true any)
is_required names (link ∷ links) name borne any = elim (either (bytes_are_equal link.name name) (list_any (λ l. bytes_are_equal l.name name) links) any) [
  | inl here ↦ Contains-append_left (number_if_borne names link.name) (required_by names links) (number_in names name)
      (subst (λ list. Contains list (number_in names name)) (sym (ap (number_if_borne names) ((bytes_decides link.name name).0 here) ∙ one_number names name borne)) (Contains-push [] (number_in names name)))
  | inr there ↦ Contains-append_right (number_if_borne names link.name) (required_by names links) (number_in names name) (is_required names links name borne there.1)
]

pub requires_it : (names : List (List ℕ)) (links : List Link) (name : List ℕ) → is_borne names name ≡ true → Contains (required_by names links) (number_in names name) → list_any (λ link. bytes_are_equal link.name name) links ≡ true
requires_it names [] name borne found = absurd (omega (arith, found.1))
requires_it names (link ∷ links) name borne found = elim (Contains-append_cases (number_if_borne names link.name) (required_by names links) (number_in names name) found) [
  | inl here ↦ by (is_borne names link.name) refl here
  | inr there ↦ rw (requires_it names links name borne there) (or_true (bytes_are_equal link.name name))
]
  where
    by : (t : Bool) → is_borne names link.name ≡ t → Contains (cond t (number_in names link.name ∷ []) []) (number_in names name) → (bytes_are_equal link.name name || list_any (λ l. bytes_are_equal l.name name) links) ≡ true
    by true e there = elim (Contains-push_cases [] (number_in names link.name) (number_in names name) there) [
      | inl none ↦ absurd (omega (arith, none.1))
      | inr same ↦ rw ((bytes_decides link.name name).1 (same_name names link.name name e borne same)) refl
    ]
    by false e there = absurd (omega (arith, there.1))

pub required_below : (names : List (List ℕ)) (links : List Link) → All (λ n. n < length names) (required_by names links)
required_below names [] = All-nil (λ n. n < length names)
required_below names (link ∷ links) = All-append (λ n. n < length names) (number_if_borne names link.name) (required_by names links) (by (is_borne names link.name) refl) (required_below names links)
  where
    by : (t : Bool) → is_borne names link.name ≡ t → All (λ n. n < length names) (cond t (number_in names link.name ∷ []) [])
    by true e = All-cons (λ n. n < length names) (number_in names link.name) [] (below_all names link.name e) (All-nil (λ n. n < length names))
    by false e = All-nil (λ n. n < length names)

-- ---- of packages

mapped_at : {X Y : Type 0} (f : X → Y) (xs : List X) (k : ℕ) (x : X) (d : Y) → slice_get xs k ≡ Some x → get_or (map f xs) k d ≡ f x
mapped_at f [] k x d e = absurd cc
mapped_at f (y ∷ xs) zero x d e = ap f cc
mapped_at f (y ∷ xs) (suc k) x d e = mapped_at f xs k x d e

some_same : (a b : Placed) → Some a ≡ Some b → a ≡ b
some_same a b e = cc

bears : (members : List Placed) (k : ℕ) (one : Placed) → slice_get members k ≡ Some one → is_borne (names_of members) one.package.name ≡ true
bears [] k one e = absurd cc
bears (x ∷ members) zero one e =
    rw ((bytes_decides one.package.name x.package.name).1 (ap (λ (p : Placed). p.package.name) (sym (some_same x one e)))) refl
bears (x ∷ members) (suc k) one e = rw (bears members k one e) (or_true (bytes_are_equal one.package.name x.package.name))

module _ (members : List Placed) (needs : Needs) (of : IsOf members needs) where
  number_is : (place : ℕ) (one : Placed) → slice_get members place ≡ Some one → number_at needs place ≡ number_in (names_of members) one.package.name
  number_is place one at = ap (λ list. get_or list place 0) of.numbers ∙ mapped_at (λ x. number_in (names_of members) x.package.name) members place one 0 at

  required_is : (place : ℕ) (one : Placed) → slice_get members place ≡ Some one → required_at needs place ≡ required_by (names_of members) one.package.require
  required_is place one at = ap (λ lists. get_or lists place []) of.required ∙ mapped_at (λ x. required_by (names_of members) x.package.require) members place one [] at

  many : count_of needs ≡ length members
  many = ap length of.numbers ∙ length-map members (λ x. number_in (names_of members) x.package.name)

  pub agrees : Agrees members needs
  agrees = record {
    many = many;
    order = λ place other one second at there.
        ap (λ n. nat_cmp n (number_at needs other)) (number_is place one at) ∙ ap (nat_cmp (number_in (names_of members) one.package.name)) (number_is other second there)
        ∙ same_order (names_of members) one.package.name second.package.name (bears members place one at) (bears members other second there);
    named = λ place other one second at there e.
        let found = at_from_Contains (required_by (names_of members) one.package.require) (number_in (names_of members) second.package.name) (is_required (names_of members) one.package.require second.package.name (bears members other second there) e) in
        let same = sym (required_is place one at) in
        (found.0, subst (λ list. found.0 < length list) same found.1, ap (λ list. get_or list found.0 0) (required_is place one at) ∙ found.2 0 ∙ sym (number_is other second there));
    needed = λ place other one second at there k within e.
        requires_it (names_of members) one.package.require second.package.name (bears members other second there)
        (subst (Contains (required_by (names_of members) one.package.require)) (sym (ap (λ list. get_or list k 0) (required_is place one at)) ∙ e ∙ number_is other second there)
        (Contains-get_or (required_by (names_of members) one.package.require) k 0 (subst (λ list. k < length list) (required_is place one at) within)));
  }

  names_long : length (names_of members) ≡ length members
  names_long = length-map members (λ x. x.package.name)

  pub fits : Fits needs
  fits = record {
    lists = sym (length-map needs.required.items (λ list. list.items)) ∙ ap length of.required ∙ length-map members (λ x. required_by (names_of members) x.package.require) ∙ sym many;
    numbers = λ place within.
        let found = at_within members place (omega (arith, within, many)) in
        omega (arith, number_is place found.0 found.1, below_all (names_of members) found.0.package.name (bears members place found.0 found.1), names_long, many);
    required = λ place at within below.
        let found = at_within members place (omega (arith, within, many)) in
        let list = required_is place found.0 found.1 in
        let less : get_or (required_at needs place) at 0 < length (names_of members) = subst (λ numbers. get_or numbers at 0 < length (names_of members)) (sym list) (required_below (names_of members) found.0.package.require at 0 (subst (λ numbers. at < length numbers) list below)) in
        omega (arith, less, names_long, many);
  }

-- ---- names in order

-- so many pass a test as stand before the place from which on none does
count_yes : (t : Bool) (few all place : ℕ) → all ≡ cond t 1 0 + few → t ≡ true → few ≡ place → all ≡ suc place
count_yes true few all place e f h = omega (arith, e, h)
count_yes false few all place e f h = absurd (false≢true f)

count_no : (t : Bool) (few all : ℕ) → all ≡ cond t 1 0 + few → t ≡ false → few ≡ 0 → all ≡ 0
count_no true few all e f h = absurd (false≢true (sym f))
count_no false few all e f h = omega (arith, e, h)

pub point_counts : {X : Type 0} (p : X → Bool) (xs : List X) (place : ℕ) → place ≤ length xs → AllWithin (λ x. p x ≡ true) xs 0 place → AllWithin (λ x. p x ≡ false) xs place (length xs) → count_by p xs ≡ place
point_counts p [] place within before behind = omega (arith, within)
point_counts p (x ∷ xs) zero within before behind =
    count_no (p x) (count_by p xs) (count_by p (x ∷ xs)) (sum_by-cons (λ y. cond (p y) 1 0) x xs) (behind 0 x (omega arith) (omega arith))
    (point_counts p xs 0 (omega arith) (λ k d low high. absurd (omega (arith, high))) (λ k d low high. behind (suc k) d (omega arith) (omega (arith, high))))
point_counts p (x ∷ xs) (suc place) within before behind =
    count_yes (p x) (count_by p xs) (count_by p (x ∷ xs)) place (sum_by-cons (λ y. cond (p y) 1 0) x xs) (before 0 x (omega arith) (omega arith))
    (point_counts p xs place (omega (arith, within)) (λ k d low high. before (suc k) d (omega arith) (omega (arith, high))) (λ k d low high. behind (suc k) d (omega (arith, low)) (omega (arith, high))))

-- ---- names in order

not_after : (a b c : List ℕ) → is_lt (byte_cmp b a) ≡ false → is_lt (byte_cmp b c) ≡ true → is_lt (byte_cmp a c) ≡ true
not_after a b c not_less less = by (byte_cmp a b) refl
  where
    by : (o : Ordering) → byte_cmp a b ≡ o → is_lt (byte_cmp a c) ≡ true
    by Less e = ap is_lt (byte_cmp_total.trans a b c e (less_is (byte_cmp b c) less))
    by Equal e = subst (λ x. is_lt (byte_cmp x c) ≡ true) (sym (byte_cmp_exact a b e)) less
    by Greater e = absurd (false≢true (sym not_less ∙ ap is_lt (byte_cmp_total.antisymm b a ∙ ap ordering_reverse e)))

neither_less : (a b : List ℕ) → is_lt (byte_cmp a b) ≡ false → is_lt (byte_cmp b a) ≡ false → a ≡ b
neither_less a b first second = by (byte_cmp a b) refl
  where
    by : (o : Ordering) → byte_cmp a b ≡ o → a ≡ b
    by Less e = absurd (false≢true (sym first ∙ ap is_lt e))
    by Equal e = byte_cmp_exact a b e
    by Greater e = absurd (false≢true (sym second ∙ ap is_lt (byte_cmp_total.antisymm b a ∙ ap ordering_reverse e)))

far : (names : List (List ℕ)) → IsInOrder names → (i j : ℕ) (d : List ℕ) → i ≤ j → j < length names → is_lt (byte_cmp (get_or names j d) (get_or names i d)) ≡ false
far names sorted i j d behind within = sorted_far (λ x y. is_lt (byte_cmp x y)) (ranks_by byte_cmp_total (λ x. x)) names sorted i j d behind within

lent_at : (xs : List (Bor (List ℕ))) (i : ℕ) (b : Bor (List ℕ)) (d : List ℕ) → i < length xs → get_or (lent xs) i d ≡ (get_or xs i b).now
lent_at xs i b d within = get_or-map (λ name. name.now) xs i b d within

lent_long : (xs : List (Bor (List ℕ))) → length (lent xs) ≡ length xs
lent_long xs = length-map xs (λ name. name.now)

get_or-default : (xs : List (List ℕ)) (i : ℕ) (d e : List ℕ) → i < length xs → get_or xs i d ≡ get_or xs i e
get_or-default [] i d e within = absurd (omega (arith, within))
get_or-default (x ∷ xs) zero d e within = refl
get_or-default (x ∷ xs) (suc i) d e within = get_or-default xs i d e (omega (arith, within))

pub lent_in_order : (xs : List (Bor (List ℕ))) → IsSorted (λ (x y : Bor (List ℕ)). byte_cmp x.now y.now) xs → IsInOrder (lent xs)
lent_in_order [] sorted k d low within = absurd (omega (arith, within))
lent_in_order (x ∷ xs) sorted k d low within =
    let below : k + 1 < length (x ∷ xs) = omega (arith, within, lent_long (x ∷ xs)) in
    ap (λ y. is_lt (byte_cmp y (get_or (lent (x ∷ xs)) k d))) (lent_at (x ∷ xs) (k + 1) x d below)
    ∙ ap (λ y. is_lt (byte_cmp (get_or (x ∷ xs) (k + 1) x).now y)) (lent_at (x ∷ xs) k x d (omega (arith, below)))
    ∙ sorted k x low below

-- names that are less stand before the others
pub partitioned : (xs : List (Bor (List ℕ))) (name : List ℕ) → IsInOrder (lent xs) → IsPartitionedBy (λ (b : Bor (List ℕ)). is_lt (byte_cmp b.now name)) xs
partitioned xs name sorted i j b behind within passes =
    let first = lent_at xs i b b.now (omega (arith, behind, within)) in
    let second = lent_at xs j b b.now within in
    let apart : is_lt (byte_cmp (get_or xs j b).now (get_or xs i b).now) ≡ false =
    sym (ap (λ x. is_lt (byte_cmp x (get_or (lent xs) i b.now))) second ∙ ap (λ x. is_lt (byte_cmp (get_or xs j b).now x)) first) ∙ far (lent xs) sorted i j b.now behind (omega (arith, within, lent_long xs)) in
    not_after (get_or xs i b).now (get_or xs j b).now name apart passes

pub lent_point : (xs : List (Bor (List ℕ))) (name : List ℕ) (i : ℕ) → i ≤ length xs
    → AllWithin (λ (b : Bor (List ℕ)). is_lt (byte_cmp b.now name) ≡ true) xs 0 i → AllWithin (λ (b : Bor (List ℕ)). is_lt (byte_cmp b.now name) ≡ false) xs i (length xs) → IsPointOf (lent xs) name i
lent_point [] name i within before behind = (within, λ k d low high. absurd (omega (arith, high, within)), λ k d low high. absurd (omega (arith, high)))
lent_point (x ∷ xs) name i within before behind = (
  omega (arith, within, lent_long (x ∷ xs)),
  λ k d low high. ap (λ y. is_lt (byte_cmp y name)) (lent_at (x ∷ xs) k x d (omega (arith, high, within))) ∙ before k x low high,
  λ k d low high. ap (λ y. is_lt (byte_cmp y name)) (lent_at (x ∷ xs) k x d (omega (arith, high, lent_long (x ∷ xs)))) ∙ behind k x low (omega (arith, high, lent_long (x ∷ xs))),
)

pub point_is_number : (names : List (List ℕ)) (name : List ℕ) (i : ℕ) → IsPointOf names name i → i ≡ number_in names name
point_is_number names name i point = sym (point_counts (λ other. is_lt (byte_cmp other name)) names i point.0 point.1 point.2)

-- where all are less, none is the name
pub none_borne : (names : List (List ℕ)) (name : List ℕ) (i : ℕ) → IsPointOf names name i → length names ≤ i → is_borne names name ≡ false
none_borne names name i point few = by (is_borne names name) refl
  where
    by : (t : Bool) → is_borne names name ≡ t → t ≡ false
    by true e =
        let found = Any-from_list_any (bytes_are_equal name) names e in
        let same : name ≡ found.1 = (bytes_decides name found.1).0 found.4 in
        let less : is_lt (byte_cmp found.1 name) ≡ true = subst (λ x. is_lt (byte_cmp x name) ≡ true) found.3 (point.1 found.0 found.1 (omega arith) (omega (arith, found.2, few))) in
        absurd (false≢true (sym (not_less_itself name) ∙ subst (λ x. is_lt (byte_cmp x name) ≡ true) (sym same) less))
    by false e = refl

pub borne_at : (names : List (List ℕ)) (name : List ℕ) (i : ℕ) (x : List ℕ) (r : Bool) → IsInOrder names → IsPointOf names name i → i < length names → get_or names i x ≡ x → r ≡ bytes_are_equal x name → r ≡ is_borne names name
borne_at names name i x r sorted point within at is = by r refl
  where
    by : (t : Bool) → r ≡ t → r ≡ is_borne names name
    by true e =
        let same : x ≡ name = (bytes_decides x name).0 (sym is ∙ e) in
        e ∙ sym (list_any_at (bytes_are_equal name) names i x within ((bytes_decides name (get_or names i x)).1 (sym same ∙ sym at)))
    by false e = e ∙ sym (not_found (is_borne names name) refl)
      where
        not_found : (t : Bool) → is_borne names name ≡ t → is_borne names name ≡ false
        not_found false f = f
        not_found true f =
            let found = Any-from_list_any (bytes_are_equal name) names f in
            let same : name ≡ found.1 = (bytes_decides name found.1).0 found.4 in
            let at_found : get_or names found.0 found.1 ≡ name = found.3 ∙ sym same in
            elim (below_or_not found.0 i) [
              | inl before ↦ absurd (false≢true (sym (not_less_itself name) ∙ subst (λ y. is_lt (byte_cmp y name) ≡ true) at_found (point.1 found.0 found.1 (omega arith) before)))
              | inr behind ↦
                  let here : get_or names i found.1 ≡ x = get_or-default names i found.1 x within ∙ at in
                  let not_greater : is_lt (byte_cmp name x) ≡ false = subst (λ y. is_lt (byte_cmp y x) ≡ false) at_found (subst (λ y. is_lt (byte_cmp (get_or names found.0 found.1) y) ≡ false) here (far names sorted i found.0 found.1 behind found.2)) in
                  let not_less : is_lt (byte_cmp x name) ≡ false = subst (λ y. is_lt (byte_cmp y name) ≡ false) here (point.2 i found.1 (omega arith) within) in
                  absurd (false≢true (sym e ∙ is ∙ (bytes_decides x name).1 (neither_less x name not_less not_greater)))
            ]

-- the same of names that are lent
pub borne_in : (xs : List (Bor (List ℕ))) (name : List ℕ) (i : ℕ) (b : Bor (List ℕ)) (r : Bool) → IsInOrder (lent xs) → IsPointOf (lent xs) name i → i < length xs → r ≡ bytes_are_equal (get_or xs i b).now name → r ≡ is_borne (lent xs) name
borne_in xs name i b r sorted point within is = borne_at (lent xs) name i (get_or xs i b).now r sorted point (omega (arith, within, lent_long xs)) (lent_at xs i b (get_or xs i b).now within) is

-- the names of packages, in another order
pub named_order : (members : List Placed) (xs ys : List (Bor (List ℕ))) → lent xs ≡ names_of members → IsPermutation xs ys → IsPermutation (names_of members) (lent ys)
named_order members xs ys named moved = subst (λ list. IsPermutation list (lent ys)) named (IsPermutation-map (λ name. name.now) xs ys moved)

-- one more of a list, as at a step of a loop
pub mapped_more : {X Y : Type 0} (f : X → Y) (xs : List X) (i : ℕ) (x : X) (ys zs : List Y) (y : Y) → i < length xs → x ≡ get_or xs i x → ys ≡ map f (take i xs) → y ≡ f x → zs ≡ ys ++ y ∷ [] → zs ≡ map f (take (i + 1) xs)
mapped_more f xs i x ys zs y within is so_far here pushed =
    pushed ∙ ap (λ list. list ++ y ∷ []) so_far ∙ ap (λ z. map f (take i xs) ++ z ∷ []) here
    ∙ sym (ap (map f) (take_more xs i x within) ∙ map-append f (take i xs) (get_or xs i x ∷ []) ∙ ap (λ z. map f (take i xs) ++ f z ∷ []) (sym is))

pub flat_more : {X Y : Type 0} (f : X → List Y) (xs : List X) (i : ℕ) (x : X) (ys zs : List Y) → i < length xs → x ≡ get_or xs i x → ys ≡ flat_map f (take i xs) → zs ≡ ys ++ f x → zs ≡ flat_map f (take (i + 1) xs)
flat_more f xs i x ys zs within is so_far pushed =
    pushed ∙ ap (λ list. list ++ f x) so_far ∙ flat_map_more f [] (take i xs) x
    ∙ ap (flat_map f) (ap (λ z. take i xs ++ z ∷ []) is ∙ sym (take_more xs i x within))

-- ---- the needs of packages

map_same : {X Y : Type 0} (f g : X → Y) → ((x : X) → f x ≡ g x) → (xs : List X) → map f xs ≡ map g xs
map_same f g same [] = refl
map_same f g same (x ∷ xs) = rw (same x, map_same f g same xs) refl

flat_same : {X Y : Type 0} (f g : X → List Y) → ((x : X) → f x ≡ g x) → (xs : List X) → flat_map f xs ≡ flat_map g xs
flat_same f g same [] = refl
flat_same f g same (x ∷ xs) = rw (same x, flat_same f g same xs) refl

pub is_of : (members : List Placed) (names : List (List ℕ)) (needs : Needs) → IsPermutation (names_of members) names
    → needs.numbers.items ≡ map (λ one. number_in names one.package.name) members
    → map (λ list. list.items) needs.required.items ≡ map (λ one. required_by names one.package.require) members → IsOf members needs
is_of members names needs moved numbers required = record {
  numbers = numbers ∙ map_same (λ one. number_in names one.package.name) (λ one. number_in (names_of members) one.package.name) (λ one. same_number one.package.name) members;
  required = required ∙ map_same (λ one. required_by names one.package.require) (λ one. required_by (names_of members) one.package.require) (λ one. flat_same (λ link. number_if_borne names link.name) (λ link. number_if_borne (names_of members) link.name) (λ link. same_if_borne link.name) one.package.require) members;
}
  where
    same_number : (name : List ℕ) → number_in names name ≡ number_in (names_of members) name
    same_number name = sum_by-IsPermutation (λ other. cond (is_lt (byte_cmp other name)) 1 0) (names_of members) names moved

    same_if_borne : (name : List ℕ) → number_if_borne names name ≡ number_if_borne (names_of members) name
    same_if_borne name = ap (λ t. cond t (number_in names name ∷ []) []) (sym (list_any-IsPermutation (bytes_are_equal name) (names_of members) names moved)) ∙ ap (λ n. cond (is_borne (names_of members) name) (n ∷ []) []) (same_number name)
