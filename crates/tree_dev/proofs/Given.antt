-- A fact that holds whatever a call answered.
use Rattle.std.proofs.Common.{◌≡◌, Result, Ok, Err, OnErr, IfOk, sym, subst}

pub on_any_err : {X E : Type 0} (r : Result X E) (P : Type 0) → P → OnErr r P
on_any_err (Ok x) P p = tt
on_any_err (Err e) P p = p

pub if_ok_on : {X E : Type 0} (r : Result X E) (P Q : X → Type 0) → ((x : X) → P x → Q x) → IfOk r P → IfOk r Q
if_ok_on (Ok x) P Q on p = on x p
if_ok_on (Err e) P Q on p = tt

pub if_ok_at : {X E : Type 0} (r : Result X E) (x : X) (P : X → Type 0) → r ≡ Ok x → P x → IfOk r P
if_ok_at r x P e p = subst (λ s. IfOk s P) (sym e) p
