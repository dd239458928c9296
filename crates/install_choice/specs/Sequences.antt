-- Steps one after another, each told by what holds of its outcome.
use Rattle.std.specs.Prelude.{◌≡◌, Result, Ok, Err}
use Rattle.run_answers.specs.declared.refusal.Refusal.{Refusal}

-- a step whose outcome is determined
abbrev pub Is : {X : Type 0} → Result X Refusal → Result X Refusal → Type 0
Is wanted made = made ≡ wanted

-- what follows a step, whose refusal is the last word
abbrev pub Follows : {X Y : Type 0} → (X → Result Y Refusal → Type 0) → Result X Refusal → Result Y Refusal → Type 0
Follows Next (Ok x) made = Next x made
Follows Next (Err refusal) made = made ≡ Err refusal

-- A step, and then the next one.
abbrev pub Then : {X Y : Type 0} → (Result X Refusal → Type 0) → (X → Result Y Refusal → Type 0) → Result Y Refusal → Type 0
Then {X} IsFirst Next made = (first : Result X Refusal) × IsFirst first × Follows Next first made
