-- Keys of packages in a set, and how many of them bear a name.
use Rattle.std.proofs.Common.{◌≡◌, ◌≢◌, ℕ, ◌+◌, ◌≤◌, Bool, true, false, cond, List, [], ◌∷◌, refl, sym, ap, ◌∙◌, arith, inl, inr}
use Rattle.std.specs.Prelude.{◌⊎◌, ◌==◌, ◌||◌}
use Rattle.std.specs.List.{list_any, count_by, AllByRecursion}
use Rattle.std.specs.List.Sorted.{IsStrictlySortedBy}
use Rattle.std.specs.Cmp.{IsTotalOrder}
use Rattle.std.specs.Ordering.{nat_cmp, is_eq, ordering_then}
use Rattle.std.specs.BTreeMap.{is_at}
use Rattle.std.specs.declared.cmp.Ordering.{Ordering}
use Rattle.std.specs.declared.cmp.Ordering.TheVariants.{Less, Equal, Greater}
use Rattle.std.proofs.lemmas.Bool.{false≢true}
use Rattle.std.proofs.lemmas.Bool.Decides.{nat_tests}
use Rattle.std.proofs.lemmas.List.Sums.{sum_by-cons}
use Rattle.std.proofs.lemmas.Cmp.{nat_cmp_total, on_total, then_total, tied_itself}
use Rattle.psr_routes.specs.Waiting.{Key, key_cmp}

pub key_total : IsTotalOrder key_cmp
key_total = then_total (on_total (λ (k : Key). k.0) nat_cmp_total) (on_total (λ (k : Key). k.1) nat_cmp_total)

same_number : (a b : ℕ) → is_eq (nat_cmp a b) ≡ true → a ≡ b
same_number a b e = grind (arith, nat_tests)

both_equal : (first second : Ordering) → is_eq (ordering_then first second) ≡ true → (is_eq first ≡ true) × (is_eq second ≡ true)
both_equal Less second e = absurd (false≢true e)
both_equal Equal second e = (refl, e)
both_equal Greater second e = absurd (false≢true e)

-- keys that compare as equal are the same
pub key_exact : (a b : Key) → is_eq (key_cmp a b) ≡ true → (a.0 ≡ b.0) × (a.1 ≡ b.1)
key_exact a b e =
    let both = both_equal (nat_cmp a.0 b.0) (nat_cmp a.1 b.1) e in
    (same_number a.0 b.0 both.0, same_number a.1 b.1 both.1)

pub itself : (a : Key) → is_eq (key_cmp a a) ≡ true
itself a = ap is_eq (tied_itself key_total a)

-- ---- keys in a list

abbrev pub has : List Key → Key → Bool
has keys key = list_any (is_at (key_cmp key)) keys

abbrev pub count : ℕ → List Key → ℕ
count name keys = count_by (λ key. key.0 == name) keys

either : (a b : Bool) → (a || b) ≡ true → (a ≡ true) ⊎ ((a ≡ false) × (b ≡ true))
either true b e = inl refl
either false b e = inr (refl, e)

pub eq_true : (a b : ℕ) → a ≡ b → (a == b) ≡ true
eq_true a b e = grind (arith, nat_tests)

pub eq_of : (a b : ℕ) → (a == b) ≡ true → a ≡ b
eq_of a b e = grind (arith, nat_tests)

pub count_cons : (name : ℕ) (x : Key) (keys : List Key) → count name (x ∷ keys) ≡ cond (x.0 == name) 1 0 + count name keys
count_cons name x keys = sum_by-cons (λ (key : Key). cond (key.0 == name) 1 0) x keys

-- what one more of a list adds to a count
pub grown : (t : Bool) (few n total : ℕ) → total ≡ cond t 1 0 + n → few ≤ n → few ≤ total
grown true few n total e h = omega (arith, e, h)
grown false few n total e h = omega (arith, e, h)

pub grown_one : (t : Bool) (few n total : ℕ) → total ≡ cond t 1 0 + n → t ≡ true → few ≤ n → few + 1 ≤ total
grown_one true few n total e f h = omega (arith, e, h)
grown_one false few n total e f h = absurd (false≢true f)

pub left_over : (t : Bool) (few n total : ℕ) → total ≡ cond t 1 0 + n → few + 1 ≤ total → few ≤ n
left_over true few n total e h = omega (arith, e, h)
left_over false few n total e h = omega (arith, e, h)

pub left_all : (t : Bool) (few n total : ℕ) → total ≡ cond t 1 0 + n → t ≡ false → few ≤ total → few ≤ n
left_all true few n total e f h = absurd (false≢true (sym f))
left_all false few n total e f h = omega (arith, e, h)

-- a key of a name is counted
pub one_borne : (keys : List Key) (key : Key) (name : ℕ) → key.0 ≡ name → has keys key ≡ true → 1 ≤ count name keys
one_borne [] key name e h = absurd (false≢true h)
one_borne (x ∷ keys) key name e h = elim (either (is_eq (key_cmp key x)) (has keys key) h) [
  | inl here ↦ grown_one (x.0 == name) 0 (count name keys) (count name (x ∷ keys)) (count_cons name x keys) (eq_true x.0 name (sym (key_exact key x here).0 ∙ e)) (omega arith)
  | inr there ↦ grown (x.0 == name) 1 (count name keys) (count name (x ∷ keys)) (count_cons name x keys) (one_borne keys key name e there.1)
]

-- and two keys of a name are
pub two_borne : (keys : List Key) (key other : Key) (name : ℕ) → key.0 ≡ name → other.0 ≡ name → key.1 ≢ other.1 → has keys key ≡ true → has keys other ≡ true → 2 ≤ count name keys
two_borne [] key other name e f apart h g = absurd (false≢true h)
two_borne (x ∷ keys) key other name e f apart h g = elim (either (is_eq (key_cmp key x)) (has keys key) h) [
  | inl here ↦ elim (either (is_eq (key_cmp other x)) (has keys other) g) [
    | inl also ↦ absurd (apart ((key_exact key x here).1 ∙ sym (key_exact other x also).1))
    | inr there ↦ grown_one (x.0 == name) 1 (count name keys) (count name (x ∷ keys)) (count_cons name x keys) (eq_true x.0 name (sym (key_exact key x here).0 ∙ e)) (one_borne keys other name f there.1)
  ]
  | inr there ↦ elim (either (is_eq (key_cmp other x)) (has keys other) g) [
    | inl also ↦ grown_one (x.0 == name) 1 (count name keys) (count name (x ∷ keys)) (count_cons name x keys) (eq_true x.0 name (sym (key_exact other x also).0 ∙ f)) (one_borne keys key name e there.1)
    | inr behind ↦ grown (x.0 == name) 2 (count name keys) (count name (x ∷ keys)) (count_cons name x keys) (two_borne keys key other name e f apart there.1 behind.1)
  ]
]

-- a key of a name in a list, another one than at a place
pub record Bears (keys : List Key) (name place : ℕ) : Type 0 where
  pub key : Key
  pub within : has keys key ≡ true
  pub named : key.0 ≡ name
  pub apart : key.1 ≢ place

found_first : (x : Key) (keys : List Key) (name place : ℕ) → x.0 ≡ name → x.1 ≢ place → Bears (x ∷ keys) name place
found_first x keys name place e apart = record { key = x; within = rw (itself x) refl; named = e; apart = apart }

or_true : (t : Bool) → (t || true) ≡ true
or_true true = refl
or_true false = refl

found_behind : (x : Key) (keys : List Key) (name place : ℕ) → Bears keys name place → Bears (x ∷ keys) name place
found_behind x keys name place found = record {
  key = found.key;
  within = rw found.within (or_true (is_eq (key_cmp found.key x)));
  named = found.named;
  apart = found.apart;
}

-- where no key of a name is at a place, one that is counted is another one
another_step : (t : Bool) (x : Key) (keys : List Key) (name place : ℕ) → (x.0 == name) ≡ t → ((key : Key) → has (x ∷ keys) key ≡ true → key.0 ≡ name → key.1 ≢ place) → 1 ≤ count name (x ∷ keys)
    → (1 ≤ count name keys → Bears keys name place) → Bears (x ∷ keys) name place
another_step true x keys name place e none some rest = found_first x keys name place (eq_of x.0 name e) (none x (rw (itself x) refl) (eq_of x.0 name e))
another_step false x keys name place e none some rest = found_behind x keys name place (rest (left_all (x.0 == name) 1 (count name keys) (count name (x ∷ keys)) (count_cons name x keys) e some))

pub another_borne : (keys : List Key) (name place : ℕ) → ((key : Key) → has keys key ≡ true → key.0 ≡ name → key.1 ≢ place) → 1 ≤ count name keys → Bears keys name place
another_borne [] name place none some = absurd (omega (arith, some))
another_borne (x ∷ keys) name place none some =
    another_step (x.0 == name) x keys name place refl none some
    (λ more. another_borne keys name place (λ key h. none key (rw h (or_true (is_eq (key_cmp key x))))) more)

-- keys behind one of the same name and place: none is the same
behind_other : (place name : ℕ) (x : Key) (keys : List Key) → x.0 ≡ name → x.1 ≡ place → AllByRecursion (λ y. key_cmp x y ≡ Less) keys → (key : Key) → has keys key ≡ true → key.0 ≡ name → key.1 ≢ place
behind_other place name x [] e f all key h g = absurd (false≢true h)
behind_other place name x (y ∷ keys) e f all key h g = elim (either (is_eq (key_cmp key y)) (has keys key) h) [
  | inl here ↦ λ at. unlike (key_exact key y here) at
  | inr there ↦ behind_other place name x keys e f all.1 key there.1 g
]
  where
    unlike : (key.0 ≡ y.0) × (key.1 ≡ y.1) → key.1 ≡ place → ⊥
    unlike same at =
        let same_name : y.0 ≡ x.0 = sym same.0 ∙ g ∙ sym e in
        let same_place : y.1 ≡ x.1 = sym same.1 ∙ at ∙ sym f in
        let equal : is_eq (key_cmp x y) ≡ true = rw (same_name, same_place) (itself x) in
        false≢true (sym (ap is_eq all.0) ∙ equal)

-- of two keys of a name one is not at a place
second_step : (t u : Bool) (x : Key) (keys : List Key) (name place : ℕ) → (x.0 == name) ≡ t → (x.1 == place) ≡ u → AllByRecursion (λ y. key_cmp x y ≡ Less) keys → 2 ≤ count name (x ∷ keys)
    → (2 ≤ count name keys → Bears keys name place) → Bears (x ∷ keys) name place
second_step true true x keys name place e f above some rest =
    found_behind x keys name place (another_borne keys name place (behind_other place name x keys (eq_of x.0 name e) (eq_of x.1 place f) above)
    (left_over (x.0 == name) 1 (count name keys) (count name (x ∷ keys)) (count_cons name x keys) some))
second_step true false x keys name place e f above some rest = found_first x keys name place (eq_of x.0 name e) (λ at. false≢true (sym f ∙ eq_true x.1 place at))
second_step false u x keys name place e f above some rest = found_behind x keys name place (rest (left_all (x.0 == name) 2 (count name keys) (count name (x ∷ keys)) (count_cons name x keys) e some))

pub second_borne : (keys : List Key) (name place : ℕ) → IsStrictlySortedBy key_cmp keys → 2 ≤ count name keys → Bears keys name place
unfolding IsStrictlySortedBy
second_borne [] name place sorted some = absurd (omega (arith, some))
second_borne (x ∷ keys) name place sorted some =
    second_step (x.0 == name) (x.1 == place) x keys name place refl refl sorted.0 some (λ more. second_borne keys name place sorted.1 more)
