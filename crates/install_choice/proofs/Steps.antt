-- What is known of two steps one after another.
use Rattle.std.proofs.Common.{◌≡◌, Result, Ok, Err, refl, sym, ap, subst, inl, inr}
use Rattle.std.specs.Prelude.{◌⊎◌}
use Rattle.path_name.specs.Given.{◌>>=◌}
use Rattle.run_answers.specs.declared.refusal.Refusal.{Refusal}
use Rattle.install_choice.specs.Sequences.{Follows, Is, Then}

abbrev Answers : {X : Type 0} → Result X Refusal → X → Type 0
Answers r x = r ≡ Ok x

abbrev Refuses : {X : Type 0} → Result X Refusal → Refusal → Type 0
Refuses r refusal = r ≡ Err refusal

pub same_value : {X : Type 0} (x y : X) → Answers (Ok x) y → x ≡ y
same_value x y e = cc

pub same_refusal : {X : Type 0} (refusal other : Refusal) → Refuses {X = X} (Err refusal) other → refusal ≡ other
same_refusal refusal other e = cc

no_value : {X P : Type 0} (refusal : Refusal) (x : X) → Answers (Err refusal) x → P
no_value refusal x e = absurd cc

no_refusal : {X P : Type 0} (x : X) (refusal : Refusal) → Refuses (Ok x) refusal → P
no_refusal x refusal e = absurd cc

-- ---- steps that are computed

pub both_ok : {X Y : Type 0} (r : Result X Refusal) (next : X → Result Y Refusal) (y : Y) → r >>= next ≡ Ok y → (x : X) × (r ≡ Ok x) × (next x ≡ Ok y)
both_ok (Ok x) next y e = (x, refl, e)
both_ok (Err refusal) next y e = no_value refusal y e

-- a refusal that neither step has
pub neither : {X Y P : Type 0} (r : Result X Refusal) (next : X → Result Y Refusal) (refusal : Refusal) → (r ≡ Err refusal → P) → ((x : X) → next x ≡ Err refusal → P) → r >>= next ≡ Err refusal → P
neither (Ok x) next refusal first second e = second x e
neither (Err other) next refusal first second e = first (ap Err (same_refusal other refusal e))

-- ---- steps that are told

taken : {X Y : Type 0} (IsFirst : Result X Refusal → Type 0) (Next : X → Result Y Refusal → Type 0) (y : Y) (first : Result X Refusal) → IsFirst first → Follows Next first (Ok y) → (x : X) × IsFirst (Ok x) × Next x (Ok y)
taken IsFirst Next y (Ok x) is next = (x, is, next)
taken IsFirst Next y (Err refusal) is next = no_refusal y refusal next

-- both steps were taken
pub both_taken : {X Y : Type 0} (IsFirst : Result X Refusal → Type 0) (Next : X → Result Y Refusal → Type 0) (y : Y) → Then IsFirst Next (Ok y) → (x : X) × IsFirst (Ok x) × Next x (Ok y)
both_taken IsFirst Next y steps = taken IsFirst Next y steps.0 steps.1 steps.2

abbrev Stops : {X Y : Type 0} → (Result X Refusal → Type 0) → (X → Result Y Refusal → Type 0) → Refusal → Type 0
Stops {X} IsFirst Next refusal = IsFirst (Err refusal) ⊎ ((x : X) × IsFirst (Ok x) × Next x (Err refusal))

stops : {X Y : Type 0} (IsFirst : Result X Refusal → Type 0) (Next : X → Result Y Refusal → Type 0) (refusal : Refusal) (first : Result X Refusal) → IsFirst first → Follows Next first (Err refusal) → Stops IsFirst Next refusal
stops IsFirst Next refusal (Ok x) is next = inr (x, is, next)
stops IsFirst Next refusal (Err other) is next = inl (subst (λ (r : Refusal). IsFirst (Err r)) (sym (same_refusal refusal other next)) is)

-- the first step refuses, or the second
pub one_stops : {X Y : Type 0} (IsFirst : Result X Refusal → Type 0) (Next : X → Result Y Refusal → Type 0) (refusal : Refusal) → Then IsFirst Next (Err refusal) → Stops IsFirst Next refusal
one_stops IsFirst Next refusal steps = stops IsFirst Next refusal steps.0 steps.1 steps.2

follows : {X Y : Type 0} (Next : X → Result Y Refusal → Type 0) (x : X) (made : Result Y Refusal) (first : Result X Refusal) → first ≡ Ok x → Follows Next first made → Next x made
follows Next x made (Ok y) e next = subst (λ z. Next z made) (same_value y x e) next
follows Next x made (Err refusal) e next = no_value refusal x e

-- the first step gives x
pub after : {X Y : Type 0} (wanted : Result X Refusal) (x : X) (Next : X → Result Y Refusal → Type 0) (made : Result Y Refusal) → wanted ≡ Ok x → Then (Is wanted) Next made → Next x made
after wanted x Next made gives steps = follows Next x made steps.0 (rw steps.1 gives) steps.2
