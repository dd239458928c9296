-- Bytes that fail a test, as the bits of a number.
use Rattle.std.specs.Prelude.{ℕ, Bool, not, List, map}
use Rattle.std.specs.Simd.Lanes.{mask_l}

abbrev pub failing : (ℕ → Bool) → List ℕ → ℕ
failing passes bytes = mask_l (map (λ byte. not (passes byte)) bytes)
