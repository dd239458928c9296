-- What a step of a command tells.
use Rattle.std.specs.Prelude.{◌≡◌, ◌⊎◌, Bool, false, IsTrue, Result, Ok, Err, MatchResult}
use Rattle.run_answers.specs.Faults.{is_free}
use Rattle.run_answers.specs.declared.refusal.Refusal.{Refusal}

-- What a step gives is what is wanted, or the device failed, or memory ran out.
abbrev pub Tells : {X Y : Type 0} → (X → Y) → Result Y Refusal → Result X Refusal → Type 0
Tells view wanted result = MatchResult result (λ x. wanted ≡ Ok (view x)) (λ refusal. IsTrue (is_free refusal) ⊎ (wanted ≡ Err refusal))

-- The same where what is wanted is told by what holds of it.
abbrev pub TellsOne : {X Y : Type 0} → (X → Y) → (Result Y Refusal → Type 0) → Result X Refusal → Type 0
TellsOne view IsWanted result = MatchResult result (λ x. IsWanted (Ok (view x))) (λ refusal. IsTrue (is_free refusal) ⊎ IsWanted (Err refusal))

-- whether a step ended by a fault of the device, or for want of memory
abbrev pub is_free_result : {X : Type 0} → Result X Refusal → Bool
is_free_result (Ok x) = false
is_free_result (Err refusal) = is_free refusal
