-- Steps one after another: what is told of each is told of all.
use Rattle.std.proofs.Common.{◌≡◌, ◌⊎◌, Result, Ok, Err, refl, sym, inl, inr, ℕ}
use Rattle.std.specs.Prelude.{IsTrue}
use Rattle.path_name.specs.Given.{◌>>=◌}
use Rattle.run_answers.specs.Faults.{is_free}
use Rattle.run_answers.specs.Steps.{Tells, TellsOne}
use Rattle.run_answers.specs.declared.refusal.Refusal.{Refusal}
use Rattle.install_choice.specs.Sequences.{Is, Then}

-- the first step is refused
pub stopped : {X Y : Type 0} (IsFirst : Result X Refusal → Type 0) (Next : X → Result Y Refusal → Type 0) (refusal : Refusal)
    → (IsTrue (is_free refusal) ⊎ IsFirst (Err refusal)) → IsTrue (is_free refusal) ⊎ Then IsFirst Next (Err refusal)
stopped IsFirst Next refusal (inl free) = inl free
stopped IsFirst Next refusal (inr is) = inr (Err refusal, is, refl)

-- the first step gave x
pub went : {X Y Z : Type 0} (IsFirst : Result X Refusal → Type 0) (Next : X → Result Y Refusal → Type 0) (x : X) (view : Z → Y) (r : Result Z Refusal)
    → IsFirst (Ok x) → TellsOne view (Next x) r → TellsOne view (Then IsFirst Next) r
went IsFirst Next x view (Ok z) is told = (Ok x, is, told)
went IsFirst Next x view (Err refusal) is (inl free) = inl free
went IsFirst Next x view (Err refusal) is (inr next) = inr (Ok x, is, next)

-- a step whose outcome is determined
pub exactly : {Y Z : Type 0} (view : Z → Y) (wanted : Result Y Refusal) (r : Result Z Refusal) → Tells view wanted r → TellsOne view (Is wanted) r
exactly view wanted (Ok z) told = sym told
exactly view wanted (Err refusal) (inl free) = inl free
exactly view wanted (Err refusal) (inr told) = inr (sym told)

pub exactly_refused : {Y : Type 0} (wanted : Result Y Refusal) (refusal : Refusal) → (IsTrue (is_free refusal) ⊎ (wanted ≡ Err refusal)) → IsTrue (is_free refusal) ⊎ Is wanted (Err refusal)
exactly_refused wanted refusal (inl free) = inl free
exactly_refused wanted refusal (inr told) = inr (sym told)

-- a step whose outcome is determined, with the entries that are left
pub paired : {X : Type 0} (n : ℕ) (wanted : Result X Refusal) (r : Result X Refusal) → Tells (λ x. x) wanted r → TellsOne {Y = X × ℕ} (λ x. (x, n)) (Is (wanted >>= λ x. Ok (x, n))) r
paired n wanted (Ok x) told = rw told refl
paired n wanted (Err refusal) (inl free) = inl free
paired n wanted (Err refusal) (inr told) = inr (rw told refl)

pub paired_refused : {X : Type 0} (n : ℕ) (wanted : Result X Refusal) (refusal : Refusal) → (IsTrue (is_free refusal) ⊎ (wanted ≡ Err refusal))
    → IsTrue (is_free refusal) ⊎ Is {X = X × ℕ} (wanted >>= λ x. Ok (x, n)) (Err refusal)
paired_refused n wanted refusal (inl free) = inl free
paired_refused n wanted refusal (inr told) = inr (rw told refl)

-- a step that is told alone, and then with the entries that are left
pub also_left : {X Y : Type 0} (n : ℕ) (IsMade : Result Y Refusal → Type 0) (view : X → Y) (r : Result X Refusal) → TellsOne view IsMade r
    → TellsOne {Y = Y × ℕ} (λ x. (view x, n)) (Then IsMade (λ y. Is {X = Y × ℕ} (Ok (y, n)))) r
also_left n IsMade view (Ok x) told = (Ok (view x), told, refl)
also_left n IsMade view (Err refusal) (inl free) = inl free
also_left n IsMade view (Err refusal) (inr told) = inr (Err refusal, told, refl)
