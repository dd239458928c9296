-- A number of at most 18 digits is below 10^18.
use Rattle.std.proofs.Common.{◌≡◌, ℕ, ◌^◌, ◌<◌, ◌≤◌, List, Option, Some, None, Ok, arith}
use Rattle.std.specs.Prelude.{unwrap_or}
use Rattle.version_norm.specs.Pieces.{number_at, part_at}
use Rattle.version_norm.proofs.Digits.{number_takes, power_mono}
use Rattle.version_norm.proofs.ReadBack.{number_below}
use Rattle.version_norm.proofs.Read.{number_is, part_takes}

pub number_small : (most : ℕ) (text : List ℕ) (n : ℕ) (rest : List ℕ) → most ≤ 18 → number_at most text ≡ Ok (n, rest) → n < 10 ^ 18
number_small most text n rest few e =
    let took = number_takes most text n rest e in
    omega (arith, number_below most took.digits n (number_is most text n rest took), power_mono most 18 few)

pub part_small : (text : List ℕ) (part : Option ℕ) (rest : List ℕ) → part_at text ≡ Ok (part, rest) → unwrap_or part 0 < 10 ^ 18
part_small text None rest e = omega arith
part_small text (Some n) rest e = let took = part_takes text (Some n, rest) e in number_below 18 took.2.0 n took.2.2
