-- Surrogates by their digits.
use Rattle.std.proofs.Common.{◌≡◌, ℕ, ◌+◌, ◌*◌, ◌<◌, ◌≤◌, Bool, true, false, ◌⊎◌, inl, inr, arith}
use Rattle.std.specs.Char.Utf16.{is_high_surrogate, is_low_surrogate}
use Rattle.std.proofs.lemmas.Bool.Decides.{nat_tests}
use Rattle.std.proofs.lemmas.Bool.{cases_lt}

abbrev pub number_of : ℕ → ℕ → ℕ → ℕ → ℕ
number_of x y z w = ((x * 16 + y) * 16 + z) * 16 + w

outside : (u : ℕ) → (u < 56320) ⊎ (57344 ≤ u) → is_low_surrogate u ≡ false
outside u (inl h) = grind (arith, nat_tests)
outside u (inr h) = grind (arith, nat_tests)

pub not_low : (x y z w : ℕ) → x < 16 → y < 16 → z < 16 → w < 16 → ((x ≡ 13) → y < 12) → is_low_surrogate (number_of x y z w) ≡ false
not_low x y z w hx hy hz hw second = outside (number_of x y z w) (
    elim (cases_lt x 13) [
      | inl lt ↦ inl (omega arith)
      | inr le ↦ elim (cases_lt 13 x) [
        | inl gt ↦ inr (omega arith)
        | inr ge ↦ inl (omega (arith, second (omega arith)))
      ]
    ])

pub surely_low : (x y z w : ℕ) → x ≡ 13 → y < 16 → z < 16 → w < 16 → 12 ≤ y → is_low_surrogate (number_of x y z w) ≡ true
surely_low x y z w hx hy hz hw low =
    let above : 56320 ≤ number_of x y z w = omega arith in
    let below : number_of x y z w < 57344 = omega arith in
    grind (arith, nat_tests)

-- and back: the digits of a unit by what it is
pub second_of_high : (x y z w : ℕ) → x < 16 → y < 16 → z < 16 → w < 16 → is_high_surrogate (number_of x y z w) ≡ true → (x ≡ 13) × (y < 12)
second_of_high x y z w hx hy hz hw h =
    let range : (55296 ≤ number_of x y z w) × (number_of x y z w < 56320) = grind (arith, nat_tests) in
    (omega (arith, range.0, range.1), omega (arith, range.0, range.1))

pub second_of_other : (x y z w : ℕ) → x < 16 → y < 16 → z < 16 → w < 16 → is_low_surrogate (number_of x y z w) ≡ false → (x ≡ 13) → y < 12
second_of_other x y z w hx hy hz hw h e =
    elim (cases_lt y 12) [
      | inl lt ↦ lt
      | inr le ↦ absurd (differ (surely_low x y z w e hy hz hw le) h)
    ]
  where
    differ : {b : Bool} → b ≡ true → b ≡ false → ⊥
    differ p q = cc

pub digits_of_low : (x y z w : ℕ) → x < 16 → y < 16 → z < 16 → w < 16 → is_low_surrogate (number_of x y z w) ≡ true → (x ≡ 13) × (12 ≤ y)
digits_of_low x y z w hx hy hz hw h =
    let range : (56320 ≤ number_of x y z w) × (number_of x y z w < 57344) = grind (arith, nat_tests) in
    (omega (arith, range.0, range.1), omega (arith, range.0, range.1))
