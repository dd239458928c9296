-- The rows that are tried are those whose prefix begins the name, in another order.
use Rattle.std.proofs.Common.{◌≡◌, ℕ, zero, suc, ◌<◌, ◌≤◌, Bool, true, false, List, [], ◌∷◌, ◌++◌, length, take, filter, refl, sym, ap, subst, ◌∙◌, append_assoc, arith}
use Rattle.std.specs.Prelude.{◌&&◌, ◌||◌}
use Rattle.std.specs.Cmp.Lexicographic.{bytes_decides}
use Rattle.std.proofs.lemmas.List.{append-nil, length-take, length-take-le}
use Rattle.path_name.specs.Orders.{bytes_are_equal}
use Rattle.class_paths.specs.declared.types.Route.{Route}
use Rattle.class_paths.specs.Candidates.{is_same_kind, of_kind, rows_at, rows_upto, rows_for, tried_rows, is_of, IsFirstOf, IsTriedFirst}
use Rattle.std.proofs.Common.{◌≢◌, get_or, IsTrue, inl, inr}
use Rattle.std.specs.Prelude.{◌⊎◌, ⊤}
use Rattle.std.specs.List.{AllByRecursion, AllPairs}
use Rattle.std.proofs.lemmas.Bool.{false≢true}
use Rattle.std.proofs.lemmas.Bool.Decides.{eqb_tells}
use Rattle.std.proofs.lemmas.List.Elements.{filter_agree, filter-append}
use Rattle.class_paths.specs.declared.types.RouteKind.{RouteKind}
use Rattle.class_paths.specs.declared.types.RouteKind.TheVariants.{Psr4, Psr0}
use Rattle.class_paths.specs.RowPath.{begins}
use Rattle.class_paths.proofs.Members.{Member, member_filter, filter_none}
use Rattle.class_paths.proofs.PrefixOrder.{first_bytes, filter_twice, at_prefix}
use Rattle.std.specs.List.Sorted.{IsPermutation}
use Rattle.std.proofs.lemmas.List.Sorted.{IsPermutation-refl, IsPermutation-sym, IsPermutation-cons, IsPermutation-to_front, IsPermutation-append_left, IsPermutation-append_right, IsPermutation-append, IsPermutation-trans}

module _ {X : Type 0} where
  -- an item in front of two lists, or between them
  between : (x : X) (front back : List X) → IsPermutation (x ∷ front ++ back) (front ++ x ∷ back)
  between x front back =
      subst (λ all. IsPermutation (x ∷ front ++ back) all) (append_assoc front (x ∷ []) back)
      (IsPermutation-append_left back (x ∷ front) (front ++ x ∷ []) (IsPermutation-sym (front ++ x ∷ []) (x ∷ front) (IsPermutation-to_front front x)))

  -- of each item one test of two holds where a third one does, and not both
  pub record AreParts (p q all : X → Bool) : Type 0 where
    pub first : (x : X) → p x ≡ true → (q x ≡ false) × (all x ≡ true)
    pub second : (x : X) → p x ≡ false → all x ≡ q x

  module _ (p q all : X → Bool) (parts : AreParts p q all) where
    part_step : (t u : Bool) (x : X) (xs : List X) → p x ≡ t → q x ≡ u → IsPermutation (filter all xs) (filter p xs ++ filter q xs) → IsPermutation (filter all (x ∷ xs)) (filter p (x ∷ xs) ++ filter q (x ∷ xs))
    part_step true u x xs e f h =
        let holds = parts.first x e in
        rw (e, holds.0, holds.1) (IsPermutation-cons x (filter all xs) (filter p xs ++ filter q xs) h)
    part_step false true x xs e f h =
        rw (e, parts.second x e, f) (IsPermutation-trans (x ∷ filter all xs) (x ∷ filter p xs ++ filter q xs) (filter p xs ++ x ∷ filter q xs)
        (IsPermutation-cons x (filter all xs) (filter p xs ++ filter q xs) h) (between x (filter p xs) (filter q xs)))
    part_step false false x xs e f h = rw (e, parts.second x e, f) h

    -- what passes one test, and then what passes the other
    pub parts_together : (xs : List X) → IsPermutation (filter all xs) (filter p xs ++ filter q xs)
    parts_together [] = IsPermutation-refl []
    parts_together (x ∷ xs) = part_step (p x) (q x) x xs refl refl (parts_together xs)

-- ---- rows of each length, and then of each kind

-- the prefix is some of the name's first bytes, at most as many as len
abbrev pub fits : List ℕ → ℕ → Route → Bool
fits name zero row = bytes_are_equal row.prefix (take zero name)
fits name (suc len) row = bytes_are_equal row.prefix (take (suc len) name) || fits name len row

long_as : (name : List ℕ) (len : ℕ) (row : Route) → len ≤ length name → bytes_are_equal row.prefix (take len name) ≡ true → length row.prefix ≡ len
long_as name len row within e = ap length ((bytes_decides row.prefix (take len name)).0 e) ∙ length-take-le len name within

no_longer_step : (name : List ℕ) (len : ℕ) (row : Route) (t : Bool) → suc len ≤ length name → bytes_are_equal row.prefix (take (suc len) name) ≡ t → (t || fits name len row) ≡ true → (fits name len row ≡ true → length row.prefix ≤ len) → length row.prefix ≤ suc len
no_longer_step name len row true within f e shorter = omega (arith, long_as name (suc len) row within f)
no_longer_step name len row false within f e shorter = let s = shorter e in omega (arith, s)

no_longer : (name : List ℕ) (len : ℕ) (row : Route) → len ≤ length name → fits name len row ≡ true → length row.prefix ≤ len
no_longer name zero row within e = omega (arith, long_as name zero row within e)
no_longer name (suc len) row within e = no_longer_step name len row (bytes_are_equal row.prefix (take (suc len) name)) within refl e (λ f. no_longer name len row (omega (arith, within)) f)

longer_apart : (name : List ℕ) (len : ℕ) → suc len ≤ length name → AreParts (λ row. bytes_are_equal row.prefix (take (suc len) name)) (fits name len) (fits name (suc len))
longer_apart name len within = record {
  first = λ row e. (by row e (fits name len row) refl, rw e refl);
  second = λ row e. rw e refl;
}
  where
    by : (row : Route) → bytes_are_equal row.prefix (take (suc len) name) ≡ true → (t : Bool) → fits name len row ≡ t → t ≡ false
    by row e true f = absurd (omega (arith, long_as name (suc len) row within e, no_longer name len row (omega (arith, within)) f))
    by row e false f = refl

upto_are_fitting : (rows : List Route) (name : List ℕ) (len : ℕ) → len ≤ length name → IsPermutation (filter (fits name len) rows) (rows_upto rows name len)
upto_are_fitting rows name zero within = IsPermutation-refl (rows_at rows name zero)
upto_are_fitting rows name (suc len) within =
    IsPermutation-trans (filter (fits name (suc len)) rows) (rows_at rows name (suc len) ++ filter (fits name len) rows) (rows_at rows name (suc len) ++ rows_upto rows name len)
    (parts_together (λ row. bytes_are_equal row.prefix (take (suc len) name)) (fits name len) (fits name (suc len)) (longer_apart name len within) rows)
    (IsPermutation-append_right (rows_at rows name (suc len)) (filter (fits name len) rows) (rows_upto rows name len) (upto_are_fitting rows name len (omega (arith, within))))

-- ---- the rows whose prefix begins the name are tried

or_true : (t : Bool) → (t || true) ≡ true
or_true true = refl
or_true false = refl

begins_fits : (name : List ℕ) (len : ℕ) (row : Route) → begins row.prefix name ≡ true → length row.prefix ≤ len → fits name len row ≡ true
begins_fits name zero row e within = subst (λ n. bytes_are_equal row.prefix (take n name) ≡ true) (none_left (length row.prefix) within) e
  where
    none_left : (n : ℕ) → n ≤ 0 → n ≡ 0
    none_left n h = omega (arith, h)
begins_fits name (suc len) row e within = elim (eqb_tells (length row.prefix) (suc len)) [
  | inl same ↦ rw (subst (λ n. bytes_are_equal row.prefix (take n name) ≡ true) same.1 e) refl
  | inr other ↦ rw (begins_fits name len row e (omega (arith, within, other.1))) (or_true (bytes_are_equal row.prefix (take (suc len) name)))
]

at_length : (name : List ℕ) (len : ℕ) (row : Route) → len ≤ length name → bytes_are_equal row.prefix (take len name) ≡ true → begins row.prefix name ≡ true
at_length name len row within e = subst (λ n. bytes_are_equal row.prefix (take n name) ≡ true) (sym (long_as name len row within e)) e

fits_begins_step : (name : List ℕ) (len : ℕ) (row : Route) (t : Bool) → suc len ≤ length name → bytes_are_equal row.prefix (take (suc len) name) ≡ t → (t || fits name len row) ≡ true → (fits name len row ≡ true → begins row.prefix name ≡ true) → begins row.prefix name ≡ true
fits_begins_step name len row true within f e shorter = at_length name (suc len) row within f
fits_begins_step name len row false within f e shorter = shorter e

fits_begins : (name : List ℕ) (len : ℕ) (row : Route) → len ≤ length name → fits name len row ≡ true → begins row.prefix name ≡ true
fits_begins name zero row within e = at_length name zero row within e
fits_begins name (suc len) row within e = fits_begins_step name len row (bytes_are_equal row.prefix (take (suc len) name)) within refl e (λ f. fits_begins name len row (omega (arith, within)) f)

begun_within : (name : List ℕ) (row : Route) → begins row.prefix name ≡ true → length row.prefix ≤ length name
begun_within name row e = omega (arith, ap length (first_bytes row.prefix name e) ∙ length-take (length row.prefix) name)

fits_are : (name : List ℕ) (row : Route) → fits name (length name) row ≡ begins row.prefix name
fits_are name row = by (fits name (length name) row) (begins row.prefix name) refl refl
  where
    by : (t u : Bool) → fits name (length name) row ≡ t → begins row.prefix name ≡ u → t ≡ u
    by true true e f = refl
    by true false e f = absurd (false≢true (sym f ∙ fits_begins name (length name) row (omega arith) e))
    by false true e f = absurd (false≢true (sym e ∙ begins_fits name (length name) row f (begun_within name row f)))
    by false false e f = refl

kind_upto : (kind : RouteKind) (rows : List Route) (name : List ℕ) → IsPermutation (filter (λ row. is_same_kind kind row.kind && begins row.prefix name) rows) (rows_upto (of_kind kind rows) name (length name))
kind_upto kind rows name =
    subst (λ list. IsPermutation list (rows_upto (of_kind kind rows) name (length name)))
    (filter_agree (fits name (length name)) (λ row. begins row.prefix name) (fits_are name) (of_kind kind rows) ∙ filter_twice (λ row. begins row.prefix name) (λ row. is_same_kind kind row.kind) rows)
    (upto_are_fitting (of_kind kind rows) name (length name) (omega arith))

kinds_apart : (name : List ℕ) → AreParts {X = Route} (λ row. is_same_kind Psr4 row.kind && begins row.prefix name) (λ row. is_same_kind Psr0 row.kind && begins row.prefix name) (λ row. begins row.prefix name)
kinds_apart name = record {
  first = λ row e. first_of row.kind (begins row.prefix name) e;
  second = λ row e. second_of row.kind (begins row.prefix name) e;
}
  where
    first_of : (kind : RouteKind) (t : Bool) → (is_same_kind Psr4 kind && t) ≡ true → ((is_same_kind Psr0 kind && t) ≡ false) × (t ≡ true)
    first_of Psr4 t e = (refl, e)
    first_of Psr0 t e = absurd (false≢true e)

    second_of : (kind : RouteKind) (t : Bool) → (is_same_kind Psr4 kind && t) ≡ false → t ≡ (is_same_kind Psr0 kind && t)
    second_of Psr4 t e = e
    second_of Psr0 t e = refl

pub tried_are_begun : (rows : List Route) (name : List ℕ) → IsPermutation (rows_for rows name) (tried_rows rows name)
tried_are_begun rows name =
    let p = λ (row : Route). is_same_kind Psr4 row.kind && begins row.prefix name in
    let q = λ (row : Route). is_same_kind Psr0 row.kind && begins row.prefix name in
    IsPermutation-trans (rows_for rows name) (filter p rows ++ filter q rows) (tried_rows rows name)
    (parts_together p q (λ row. begins row.prefix name) (kinds_apart name) rows)
    (IsPermutation-append (filter p rows) (rows_upto (of_kind Psr4 rows) name (length name)) (filter q rows) (rows_upto (of_kind Psr0 rows) name (length name)) (kind_upto Psr4 rows name) (kind_upto Psr0 rows name))

-- ---- in which order

module _ {X : Type 0} (R : X → X → Type 0) where
  abbrev pub Pairs : List X → Type 0
  Pairs [] = ⊤
  Pairs (x ∷ xs) = AllByRecursion (R x) xs × Pairs xs

  at_each : (x : X) (xs : List X) (j : ℕ) (d : X) → j < length xs → AllByRecursion (R x) xs → R x (get_or xs j d)
  at_each x [] j d within all = absurd (omega (arith, within))
  at_each x (y ∷ xs) zero d within all = all.0
  at_each x (y ∷ xs) (suc j) d within all = at_each x xs j d (omega (arith, within)) all.1

  pub all_pairs : (xs : List X) → Pairs xs → AllPairs R xs
  all_pairs [] pairs i j d less within = absurd (omega (arith, within))
  all_pairs (x ∷ xs) pairs zero zero d less within = absurd (omega (arith, less))
  all_pairs (x ∷ xs) pairs zero (suc j) d less within = at_each x xs j d (omega (arith, within)) pairs.0
  all_pairs (x ∷ xs) pairs (suc i) zero d less within = absurd (omega (arith, less))
  all_pairs (x ∷ xs) pairs (suc i) (suc j) d less within = all_pairs xs pairs.1 i j d (omega (arith, less)) (omega (arith, within))

  each_of : (x : X) (xs : List X) → ((y : X) → Member y xs → R x y) → AllByRecursion (R x) xs
  each_of x [] each = tt
  each_of x (y ∷ xs) each = (each y (inl refl), each_of x xs (λ z there. each z (inr there)))

  each_append : (x : X) (xs ys : List X) → AllByRecursion (R x) xs → ((y : X) → Member y ys → R x y) → AllByRecursion (R x) (xs ++ ys)
  each_append x [] ys all each = each_of x ys each
  each_append x (z ∷ xs) ys all each = (all.0, each_append x xs ys all.1 each)

  pub pairs_append : (xs ys : List X) → Pairs xs → Pairs ys → ((x y : X) → Member x xs → Member y ys → R x y) → Pairs (xs ++ ys)
  pairs_append [] ys pairs others each = others
  pairs_append (x ∷ xs) ys pairs others each = (each_append x xs ys pairs.0 (λ y there. each x y (inl refl) there), pairs_append xs ys pairs.1 others (λ z y here there. each z y (inr here) there))

  pub pairs_of_same : (xs : List X) → ((x y : X) → Member x xs → Member y xs → R x y) → Pairs xs
  pairs_of_same [] each = tt
  pairs_of_same (x ∷ xs) each = (each_of x xs (λ y there. each x y (inl refl) (inr there)), pairs_of_same xs (λ y z here there. each y z (inr here) (inr there)))

module _ {X : Type 0} where
  pub member_append : (y : X) (xs ys : List X) → Member y (xs ++ ys) → Member y xs ⊎ Member y ys
  member_append y [] ys found = inr found
  member_append y (x ∷ xs) ys (inl same) = inl (inl same)
  member_append y (x ∷ xs) ys (inr there) = elim (member_append y xs ys there) [ inl here ↦ inl (inr here) | inr behind ↦ inr behind ]

same_kind_is : (kind other : RouteKind) → is_same_kind kind other ≡ true → other ≡ kind
same_kind_is Psr4 Psr4 e = refl
same_kind_is Psr4 Psr0 e = absurd (false≢true e)
same_kind_is Psr0 Psr4 e = absurd (false≢true e)
same_kind_is Psr0 Psr0 e = refl

-- a row of a kind, of so long a prefix
record IsLong (wanted : RouteKind) (len : ℕ) (row : Route) : Type 0 where
  pub kind : row.kind ≡ wanted
  pub long : length row.prefix ≡ len

at_is_long : (kind : RouteKind) (rows : List Route) (name : List ℕ) (len : ℕ) (row : Route) → len ≤ length name → Member row (rows_at (of_kind kind rows) name len) → IsLong kind len row
at_is_long kind rows name len row within found =
    let both = member_filter (λ r. bytes_are_equal r.prefix (take len name)) (of_kind kind rows) row found in
    let kinds = member_filter (λ r. is_same_kind kind r.kind) rows row both.0 in
    record { kind = same_kind_is kind row.kind kinds.1; long = long_as name len row within both.1 }

record IsShort (wanted : RouteKind) (len : ℕ) (row : Route) : Type 0 where
  pub kind : row.kind ≡ wanted
  pub short : length row.prefix ≤ len

upto_is_short : (kind : RouteKind) (rows : List Route) (name : List ℕ) (len : ℕ) (row : Route) → len ≤ length name → Member row (rows_upto (of_kind kind rows) name len) → IsShort kind len row
upto_is_short kind rows name zero row within found = let is = at_is_long kind rows name zero row within found in record { kind = is.kind; short = omega (arith, is.long) }
upto_is_short kind rows name (suc len) row within found = elim (member_append row (rows_at (of_kind kind rows) name (suc len)) (rows_upto (of_kind kind rows) name len) found) [
  | inl here ↦ long_one (at_is_long kind rows name (suc len) row within here)
  | inr there ↦ short_one (upto_is_short kind rows name len row (omega (arith, within)) there)
]
  where
    long_one : IsLong kind (suc len) row → IsShort kind (suc len) row
    long_one is = record { kind = is.kind; short = omega (arith, is.long) }

    short_one : IsShort kind len row → IsShort kind (suc len) row
    short_one is = record { kind = is.kind; short = omega (arith, is.short) }

tried_first : (kind : RouteKind) (few many : ℕ) → few ≤ many → IsFirstOf kind kind many few
tried_first Psr4 few many h = h
tried_first Psr0 few many h = h

first_of_kind : (kind : RouteKind) (row other : Route) → row.kind ≡ kind → other.kind ≡ kind → length other.prefix ≤ length row.prefix → IsTriedFirst row other
first_of_kind kind row other e f less =
    subst (λ k. IsFirstOf k other.kind (length row.prefix) (length other.prefix)) (sym e)
    (subst (λ k. IsFirstOf kind k (length row.prefix) (length other.prefix)) (sym f) (tried_first kind (length other.prefix) (length row.prefix) less))

upto_pairs : (kind : RouteKind) (rows : List Route) (name : List ℕ) (len : ℕ) → len ≤ length name → Pairs IsTriedFirst (rows_upto (of_kind kind rows) name len)
upto_pairs kind rows name zero within = pairs_of_same IsTriedFirst (rows_at (of_kind kind rows) name zero) (λ x y here there.
    let one = at_is_long kind rows name zero x within here in
    let other = at_is_long kind rows name zero y within there in
    first_of_kind kind x y one.kind other.kind (omega (arith, one.long, other.long)))
upto_pairs kind rows name (suc len) within = pairs_append IsTriedFirst (rows_at (of_kind kind rows) name (suc len)) (rows_upto (of_kind kind rows) name len)
    (pairs_of_same IsTriedFirst (rows_at (of_kind kind rows) name (suc len)) (λ x y here there.
    let one = at_is_long kind rows name (suc len) x within here in
    let other = at_is_long kind rows name (suc len) y within there in
    first_of_kind kind x y one.kind other.kind (omega (arith, one.long, other.long))))
    (upto_pairs kind rows name len (omega (arith, within)))
    (λ x y here there.
    let one = at_is_long kind rows name (suc len) x within here in
    let other = upto_is_short kind rows name len y (omega (arith, within)) there in
    first_of_kind kind x y one.kind other.kind (omega (arith, one.long, other.short)))

psr4_first : (row other : Route) → row.kind ≡ Psr4 → other.kind ≡ Psr0 → IsTriedFirst row other
psr4_first row other e f =
    subst (λ k. IsFirstOf k other.kind (length row.prefix) (length other.prefix)) (sym e) (subst (λ k. IsFirstOf Psr4 k (length row.prefix) (length other.prefix)) (sym f) tt)

pub tried_in_order : (rows : List Route) (name : List ℕ) → AllPairs IsTriedFirst (tried_rows rows name)
tried_in_order rows name = all_pairs IsTriedFirst (tried_rows rows name) (pairs_append IsTriedFirst (rows_upto (of_kind Psr4 rows) name (length name)) (rows_upto (of_kind Psr0 rows) name (length name))
    (upto_pairs Psr4 rows name (length name) (omega arith)) (upto_pairs Psr0 rows name (length name) (omega arith))
    (λ x y here there. psr4_first x y (upto_is_short Psr4 rows name (length name) x (omega arith) here).kind (upto_is_short Psr0 rows name (length name) y (omega arith) there).kind))

-- ---- rows of one kind and prefix stay in their order

is_of_prefix : (kind : RouteKind) (prefix : List ℕ) (row : Route) → is_of kind prefix row ≡ true → (row.kind ≡ kind) × (row.prefix ≡ prefix)
is_of_prefix kind prefix row e = by (is_same_kind kind row.kind) refl e
  where
    by : (t : Bool) → is_same_kind kind row.kind ≡ t → (t && bytes_are_equal row.prefix prefix) ≡ true → (row.kind ≡ kind) × (row.prefix ≡ prefix)
    by true f g = (same_kind_is kind row.kind f, (bytes_decides row.prefix prefix).0 g)
    by false f g = absurd (false≢true g)

none_of : (kind : RouteKind) (prefix : List ℕ) (rows : List Route) → ((row : Route) → Member row rows → row.kind ≡ kind → row.prefix ≡ prefix → ⊥) → filter (is_of kind prefix) rows ≡ []
none_of kind prefix rows none = filter_none (is_of kind prefix) rows (λ row there. by row there (is_of kind prefix row) refl)
  where
    by : (row : Route) → Member row rows → (t : Bool) → is_of kind prefix row ≡ t → t ≡ false
    by row there true e = let both = is_of_prefix kind prefix row e in absurd (none row there both.0 both.1)
    by row there false e = refl

both_same : (t : Bool) → (t && t) ≡ t
both_same true = refl
both_same false = refl

at_stable : (kind : RouteKind) (prefix : List ℕ) (rows : List Route) (name : List ℕ) (len : ℕ) → prefix ≡ take len name → filter (is_of kind prefix) (rows_at (of_kind kind rows) name len) ≡ filter (is_of kind prefix) rows
at_stable kind prefix rows name len e =
    ap (λ first. filter (is_of kind prefix) (filter (λ row. bytes_are_equal row.prefix first) (of_kind kind rows))) (sym e)
    ∙ ap (filter (is_of kind prefix)) (at_prefix rows kind prefix)
    ∙ filter_twice (is_of kind prefix) (is_of kind prefix) rows
    ∙ filter_agree (λ row. is_of kind prefix row && is_of kind prefix row) (is_of kind prefix) (λ row. both_same (is_of kind prefix row)) rows

upto_stable : (kind : RouteKind) (prefix : List ℕ) (rows : List Route) (name : List ℕ) (len : ℕ) → IsTrue (begins prefix name) → len ≤ length name → length prefix ≤ len → filter (is_of kind prefix) (rows_upto (of_kind kind rows) name len) ≡ filter (is_of kind prefix) rows
upto_stable kind prefix rows name zero begun within short = at_stable kind prefix rows name zero (first_bytes prefix name begun ∙ ap (λ n. take n name) (none_left (length prefix) short))
  where
    none_left : (n : ℕ) → n ≤ 0 → n ≡ 0
    none_left n h = omega (arith, h)
upto_stable kind prefix rows name (suc len) begun within short = elim (eqb_tells (length prefix) (suc len)) [
  | inl same ↦ filter-append (is_of kind prefix) (rows_at (of_kind kind rows) name (suc len)) (rows_upto (of_kind kind rows) name len)
      ∙ ap (λ list. list ++ filter (is_of kind prefix) (rows_upto (of_kind kind rows) name len)) (at_stable kind prefix rows name (suc len) (first_bytes prefix name begun ∙ ap (λ n. take n name) same.1))
      ∙ ap (λ list. filter (is_of kind prefix) rows ++ list) (none_of kind prefix (rows_upto (of_kind kind rows) name len) (λ row there k e. too_short row (upto_is_short kind rows name len row (omega (arith, within)) there).short e same.1))
      ∙ append-nil (filter (is_of kind prefix) rows)
  | inr other ↦ filter-append (is_of kind prefix) (rows_at (of_kind kind rows) name (suc len)) (rows_upto (of_kind kind rows) name len)
      ∙ ap (λ list. list ++ filter (is_of kind prefix) (rows_upto (of_kind kind rows) name len)) (none_of kind prefix (rows_at (of_kind kind rows) name (suc len)) (λ row there k e. other.1 (ap length (sym e) ∙ (at_is_long kind rows name (suc len) row within there).long)))
      ∙ upto_stable kind prefix rows name len begun (omega (arith, within)) (omega (arith, short, other.1))
]
  where
    too_short : (row : Route) → length row.prefix ≤ len → row.prefix ≡ prefix → length prefix ≡ suc len → ⊥
    too_short row less e f = omega (arith, less, ap length e, f)

other_kind : (kind other : RouteKind) (prefix : List ℕ) (rows : List Route) (name : List ℕ) → kind ≢ other → filter (is_of kind prefix) (rows_upto (of_kind other rows) name (length name)) ≡ []
other_kind kind other prefix rows name apart = none_of kind prefix (rows_upto (of_kind other rows) name (length name)) (λ row there k e. apart (sym k ∙ (upto_is_short other rows name (length name) row (omega arith) there).kind))

pub tried_stable : (rows : List Route) (name : List ℕ) (kind : RouteKind) (prefix : List ℕ) → IsTrue (begins prefix name) → filter (is_of kind prefix) (tried_rows rows name) ≡ filter (is_of kind prefix) rows
tried_stable rows name Psr4 prefix begun =
    let within : length prefix ≤ length name = omega (arith, ap length (first_bytes prefix name begun) ∙ length-take (length prefix) name) in
    filter-append (is_of Psr4 prefix) (rows_upto (of_kind Psr4 rows) name (length name)) (rows_upto (of_kind Psr0 rows) name (length name))
    ∙ ap (λ list. filter (is_of Psr4 prefix) (rows_upto (of_kind Psr4 rows) name (length name)) ++ list) (other_kind Psr4 Psr0 prefix rows name (λ e. absurd cc))
    ∙ append-nil (filter (is_of Psr4 prefix) (rows_upto (of_kind Psr4 rows) name (length name)))
    ∙ upto_stable Psr4 prefix rows name (length name) begun (omega arith) within
tried_stable rows name Psr0 prefix begun =
    let within : length prefix ≤ length name = omega (arith, ap length (first_bytes prefix name begun) ∙ length-take (length prefix) name) in
    filter-append (is_of Psr0 prefix) (rows_upto (of_kind Psr4 rows) name (length name)) (rows_upto (of_kind Psr0 rows) name (length name))
    ∙ ap (λ list. list ++ filter (is_of Psr0 prefix) (rows_upto (of_kind Psr0 rows) name (length name))) (other_kind Psr0 Psr4 prefix rows name (λ e. absurd cc))
    ∙ upto_stable Psr0 prefix rows name (length name) begun (omega arith) within
