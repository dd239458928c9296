-- Choices among numbered candidates, one need after the other, whatever makes a set of them valid.
use Rattle.std.specs.Prelude.{◌≡◌, ℕ, zero, suc, List, [], ◌∷◌, Bool, true, false, ◌==◌, ◌||◌, ◌&&◌, ⊤}

-- A set of candidates: of each number, whether its candidate belongs to it.
abbrev pub Chosen : Type 0
Chosen = List Bool

abbrev pub has : Chosen → ℕ → Bool
has [] number = false
has (first ∷ others) zero = first
has (first ∷ others) (suc number) = has others number

abbrev pub is_in : ℕ → List ℕ → Bool
is_in number [] = false
is_in number (first ∷ others) = first == number || is_in number others

-- the set of those of a list, of so many candidates from a number on
abbrev pub set_from : ℕ → ℕ → List ℕ → Chosen
set_from zero number list = []
set_from (suc count) number list = is_in number list ∷ set_from count (suc number) list

abbrev pub set_of : ℕ → List ℕ → Chosen
set_of count list = set_from count 0 list

-- each of a list belongs to the set
abbrev pub has_all : Chosen → List ℕ → Bool
has_all set [] = true
has_all set (first ∷ others) = has set first && has_all set others

-- each candidate of the one set belongs to the other
abbrev pub IsWithin : Chosen → Chosen → Type 0
IsWithin small large = (number : ℕ) → has small number ≡ true → has large number ≡ true

-- the numbers of a list are distinct
abbrev pub AreDistinct : List ℕ → Type 0
AreDistinct [] = ⊤
AreDistinct (first ∷ others) = (is_in first others ≡ false) × AreDistinct others
