-- What a call answers against what its definition wants, and definitions that may refuse.
use Rattle.std.specs.Prelude.{◌≡◌, ◌≢◌, Result, Ok, Err, MatchResult}

-- The result, seen by a view, is what is wanted, or memory ran out. So it is Ok where Ok is wanted,
-- with that value, and that fault where a fault is wanted.
abbrev pub Gives : {X Y F : Type 0} → (X → Y) → F → Result Y F → Result X F → Type 0
Gives view memory wanted result = MatchResult result (λ x. wanted ≡ Ok (view x)) (λ fault. fault ≢ memory → wanted ≡ Err fault)

-- the same for a value that is seen as itself
abbrev pub GivesValue : {X F : Type 0} → F → Result X F → Result X F → Type 0
GivesValue memory wanted result = Gives (λ x. x) memory wanted result

-- A step after one that may refuse: the first refusal is the answer. `do` writes it.
infixl 10 ◌>>=◌
abbrev pub ◌>>=◌ : {X Y F : Type 0} → Result X F → (X → Result Y F) → Result Y F
(Ok x) >>= next = next x
(Err fault) >>= next = Err fault
