-- Digits and the numbers that they stand for.
use Rattle.std.proofs.Common.{◌≡◌, ℕ, suc, ◌+◌, ◌*◌, ◌-◌, ◌^◌, ◌<◌, ◌≤◌, Bool, true, false, cond, ltb, List, [], ◌∷◌, ◌++◌, length, get_or, take, drop, Result, Ok, Err, refl, ap, sym, arith}
use Rattle.std.specs.Prelude.{◌&&◌}
use Rattle.std.proofs.Math.Dec.{leb}
use Rattle.std.specs.List.{prefix_len, list_all}
use Rattle.std.specs.Char.{digit_value}
use Rattle.std.proofs.Math.Nat.{pow-suc, pow-le-pow_right}
use Rattle.std.proofs.Math.Numerals.{add-one, one-add}
use Rattle.std.proofs.lemmas.Bool.Decides.{nat_tests}
use Rattle.std.proofs.lemmas.Bool.{ltb-true, leb-true, lt-ltb, le-leb, lt-leb}
use Rattle.std.proofs.lemmas.List.{take_at, drop_at, take-append-drop, length-take}
use Rattle.std.proofs.lemmas.List.Sums.{AllPass-from_list_all, prefix_len-le-length}
use Rattle.std.proofs.lemmas.Int.Digits.{digits_value_more}
use Rattle.path_name.specs.Bytes.{is_digit}
use Rattle.path_name.specs.Decimals.{number_of}
use Rattle.path_name.specs.Given.{◌>>=◌}
use Rattle.version_norm.specs.declared.fault.VersionFault.{VersionFault}
use Rattle.version_norm.specs.declared.fault.VersionFault.TheVariants.{NotAVersion}
use Rattle.version_norm.specs.Pieces.{begins_with_digit, number_at}

pub digit_range : (b : ℕ) → is_digit b ≡ true → (48 ≤ b) × (b ≤ 57)
digit_range b e = grind (arith, nat_tests)

pub digit_value_is : (b : ℕ) → is_digit b ≡ true → digit_value b ≡ b - 48
digit_value_is b e = let r = digit_range b e in grind (arith, nat_tests)

pub digit_within : (digits : List ℕ) (i : ℕ) → list_all is_digit digits ≡ true → i < length digits → is_digit (get_or digits i 0) ≡ true
digit_within digits i e lt = AllPass-from_list_all is_digit digits e i 0 lt

-- what stands at the front as long as a test passes, passes
pub front_passes : (p : ℕ → Bool) (xs : List ℕ) → list_all p (take (prefix_len p xs) xs) ≡ true
front_passes p [] = refl
front_passes p (x ∷ xs) = elim (p x) as (λ b. p x ≡ b → list_all p (take (cond b (1 + prefix_len p xs) 0) (x ∷ xs)) ≡ true) [
  | true ↦ λ e. rw (one-add, e) (front_passes p xs)
  | false ↦ λ e. refl
] refl

power_step : (i : ℕ) → 10 ^ (i + 1) ≡ 10 ^ i * 10
power_step i = rw add-one (pow-suc 10 i)

pub power_mono : (i k : ℕ) → i ≤ k → 10 ^ i ≤ 10 ^ k
power_mono i k le = let positive : 0 < 10 = omega arith in pow-le-pow_right positive le

-- a number of fewer than 18 digits has room for one more
pub room : (value i d : ℕ) → value < 10 ^ i → i < 18 → d < 10 → (value * 10 + d < 10 ^ (i + 1)) × (value * 10 + d < 2 ^ 64)
room value i d small lt digit =
    let step = power_step i in
    let most = power_mono i 17 (omega arith) in
    (omega arith, omega arith)

pub one_more : (digits : List ℕ) (i value : ℕ) → list_all is_digit digits ≡ true → i < length digits → value ≡ number_of (take i digits)
    → value * 10 + (get_or digits i 0 - 48) ≡ number_of (take (i + 1) digits)
one_more digits i value all lt e =
    rw (digits_value_more 10 digits i lt, digit_value_is (get_or digits i 0) (digit_within digits i all lt), e) refl

-- the value of a step that was read
pub bind_ok : {A B : Type 0} (r : Result A VersionFault) (f : A → Result B VersionFault) (y : B) → (r >>= f) ≡ Ok y → (x : A) × (r ≡ Ok x) × (f x ≡ Ok y)
bind_ok (Ok x) f y e = (x, refl, e)
bind_ok (Err fault) f y e = absurd cc

-- a test that passed
pub guard_ok : {A : Type 0} (b : Bool) (x y : A) (fault : VersionFault) → cond b (Ok x) (Err fault) ≡ Ok y → (b ≡ true) × (x ≡ y)
guard_ok true x y fault e = (refl, cc)
guard_ok false x y fault e = absurd cc

pub both_true : (a b : Bool) → (a && b) ≡ true → (a ≡ true) × (b ≡ true)
both_true true b e = (refl, e)
both_true false b e = absurd cc

-- What a reading of a number took from the front: all digits in a row.
pub record TakesNumber (most : ℕ) (text : List ℕ) (n : ℕ) (rest : List ℕ) : Type 0 where
  pub digits : List ℕ
  pub parts : text ≡ digits ++ rest
  pub all : list_all is_digit digits ≡ true
  pub some : 0 < length digits
  pub short : length digits ≤ most
  pub value : n ≡ number_of digits
  pub stops : begins_with_digit rest ≡ false

front_stops : (xs : List ℕ) → begins_with_digit (drop (prefix_len is_digit xs) xs) ≡ false
front_stops [] = refl
front_stops (x ∷ xs) = elim (is_digit x) as (λ b. is_digit x ≡ b → begins_with_digit (drop (cond b (1 + prefix_len is_digit xs) 0) (x ∷ xs)) ≡ false) [
  | true ↦ λ e. rw one-add (front_stops xs)
  | false ↦ λ e. e
] refl

pub number_takes : (most : ℕ) (text : List ℕ) (n : ℕ) (rest : List ℕ) → number_at most text ≡ Ok (n, rest) → TakesNumber most text n rest
unfolding number_at
number_takes most text n rest e =
    let count = prefix_len is_digit text in
    let g = guard_ok (ltb 0 count && leb count most) (number_of (take count text), drop count text) (n, rest) NotAVersion e in
    let t = both_true (ltb 0 count) (leb count most) g.0 in
    let positive : 0 < count = ltb-true 0 count t.0 in
    let few : count ≤ most = leb-true count most t.1 in
    let within : count ≤ length text = prefix_len-le-length is_digit text in
    let n_is : number_of (take count text) ≡ n = ap (λ (p : ℕ × List ℕ). p.0) g.1 in
    let rest_is : drop count text ≡ rest = ap (λ (p : ℕ × List ℕ). p.1) g.1 in
    record {
      digits = take count text;
      parts = rw (← rest_is) (sym (take-append-drop count text));
      all = front_passes is_digit text;
      some = omega (arith, length-take count text);
      short = omega (arith, length-take count text);
      value = sym n_is;
      stops = rw (← rest_is) (front_stops text);
    }

prefix_all : (digits rest : List ℕ) → list_all is_digit digits ≡ true → begins_with_digit rest ≡ false → prefix_len is_digit (digits ++ rest) ≡ length digits
prefix_all [] [] all stops = refl
prefix_all [] (b ∷ bs) all stops = rw stops refl
prefix_all (d ∷ ds) rest all stops =
    let t = both_true (is_digit d) (list_all is_digit ds) all in
    rw (t.0, one-add) (ap suc (prefix_all ds rest t.1 stops))

pub number_again : (most : ℕ) (digits rest : List ℕ) → list_all is_digit digits ≡ true → 0 < length digits → length digits ≤ most → begins_with_digit rest ≡ false
    → number_at most (digits ++ rest) ≡ Ok (number_of digits, rest)
unfolding number_at
number_again most digits rest all some short stops =
    let count = prefix_all digits rest all stops in
    let positive : ltb 0 (length digits) ≡ true = lt-ltb 0 (length digits) some in
    let few : leb (length digits) most ≡ true = le-leb (length digits) most short in
    rw (count, positive, few, take_at digits rest (length digits) refl, drop_at digits rest (length digits) refl) refl

pub number_too_long : (most : ℕ) (digits rest : List ℕ) → list_all is_digit digits ≡ true → most < length digits → begins_with_digit rest ≡ false → number_at most (digits ++ rest) ≡ Err NotAVersion
unfolding number_at
number_too_long most digits rest all long stops =
    let count = prefix_all digits rest all stops in
    let positive : ltb 0 (length digits) ≡ true = lt-ltb 0 (length digits) (omega arith) in
    let many : leb (length digits) most ≡ false = lt-leb (length digits) most long in
    rw (count, positive, many) refl
