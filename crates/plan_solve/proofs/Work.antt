-- Each step of a search leaves less work.
use Rattle.std.proofs.Common.{◌≡◌, ℕ, zero, suc, ◌+◌, ◌*◌, ◌<◌, ◌≤◌, List, [], ◌∷◌, ◌++◌, length, ap, arith}
use Rattle.std.proofs.Math.Nat.{mul-le-mul_right}
use Rattle.std.proofs.lemmas.Nat.{mul-le}
use Rattle.plan_solve.specs.declared.search.Pending.{Pending}
use Rattle.plan_solve.specs.declared.search.Choice.{Choice}
use Rattle.plan_solve.specs.Search.{rest_of, rest_behind, power, work_from}

one_at_least : (base room : ℕ) → 1 ≤ power (suc base) room
one_at_least base zero = omega arith
one_at_least base (suc room) = mul-le 1 1 (suc base) (power (suc base) room) (omega arith) (one_at_least base room)

-- what a digit and those behind it make
less_digit : (a b unit : ℕ) → a < b → 1 ≤ unit → a * unit < b * unit
less_digit a b unit less some = omega (arith, mul-le-mul_right unit less, some)

-- one more alternative was passed
pub work_passed : (base room : ℕ) (choices : List Choice) (pending next : Pending) → rest_of next < rest_of pending → work_from (suc base) room choices next < work_from (suc base) room choices pending
work_passed base room [] pending next less = less_digit (rest_of next) (rest_of pending) (power (suc base) room) less (one_at_least base room)
work_passed base zero (choice ∷ choices) pending next less = omega (arith, work_passed base zero choices pending next less)
work_passed base (suc room) (choice ∷ choices) pending next less = omega (arith, work_passed base room choices pending next less)

-- a choice was made, and there is another requirement
chosen_digits : (base unit behind next pending : ℕ) → behind < pending → next < suc base → 1 ≤ unit → behind * (suc base * unit) + next * unit < pending * (suc base * unit)
chosen_digits base unit behind next pending less fits some =
    omega (arith, less_digit next (suc base) unit fits some, mul-le-mul_right (suc base * unit) less)

pub work_chosen : (base room : ℕ) (choices : List Choice) (choice : Choice) (pending next : Pending) → length choices < room → rest_behind choice < rest_of pending → rest_of next < suc base
    → work_from (suc base) room (choices ++ choice ∷ []) next < work_from (suc base) room choices pending
work_chosen base zero choices choice pending next less behind fits = absurd (omega (arith, less))
work_chosen base (suc room) [] choice pending next less behind fits = chosen_digits base (power (suc base) room) (rest_behind choice) (rest_of next) (rest_of pending) behind fits (one_at_least base room)
work_chosen base (suc room) (first ∷ others) choice pending next less behind fits = omega (arith, work_chosen base room others choice pending next (omega (arith, less)) behind fits)

-- a choice was taken back
some_left : (pending : Pending) (unit : ℕ) → 1 ≤ unit → 1 ≤ rest_of pending * unit
some_left pending unit some = mul-le 1 1 (rest_of pending) unit (omega arith) some

pub work_back : (base room : ℕ) (choices : List Choice) (choice : Choice) (pending next : Pending) → rest_of next ≡ rest_behind choice → work_from (suc base) room choices next < work_from (suc base) room (choices ++ choice ∷ []) pending
work_back base zero [] choice pending next same = omega (arith, same, some_left pending 1 (omega arith))
work_back base (suc room) [] choice pending next same = omega (arith, ap (λ rest. rest * power (suc base) (suc room)) same, some_left pending (power (suc base) room) (one_at_least base room))
work_back base zero (first ∷ others) choice pending next same = omega (arith, work_back base zero others choice pending next same)
work_back base (suc room) (first ∷ others) choice pending next same = omega (arith, work_back base room others choice pending next same)
