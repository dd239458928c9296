-- A run that is refused before it begins.
use Rattle.std.proofs.Common.{◌≡◌, ◌⊎◌, ℕ, List, [], ◌++◌, Option, Some, None, Err, refl, sym, ap, inl, inr, arith}
use Rattle.std.specs.Option.{option_map}
use Rattle.std.proofs.lemmas.List.{append-nil}
use Rattle.tree_dev.specs.Sinks.{Taken, Takes}
use Rattle.run_answers.specs.Messages.{error_line}
use Rattle.run_answers.specs.Statuses.{status_of}
use Rattle.run_answers.specs.declared.refusal.Refusal.{Refusal}
use Rattle.run_answers.specs.declared.refusal.Refusal.TheVariants as refusals
use Rattle.composer_top.specs.Outcome.{TakesLine, EndsWithAnswer}

nothing_more : (bytes : Option (List ℕ)) → bytes ≡ option_map (λ taken. taken ++ []) bytes
nothing_more None = refl
nothing_more (Some taken) = ap (λ b. Some b) (sym (append-nil taken))

nothing_taken : (before : Taken) → Takes before before []
nothing_taken before = record { bytes = nothing_more before.bytes; faults = omega arith }

-- what the call that puts a refusal's line says
abbrev pub Refused : Taken → Taken → Refusal → ℕ → Type 0
Refused before now refusal status = ((status ≡ status_of refusal) × TakesLine before now (error_line refusal)) ⊎ ((status ≡ status_of refusals.OutOfMemory) × TakesLine before now (error_line refusals.OutOfMemory))

pub refused_ends : (out before now : Taken) (refusal : Refusal) (status : ℕ) → Refused before now refusal status → EndsWithAnswer (record { out_before = out; out_now = out; errs_before = before; errs_now = now }) status
refused_ends out before now refusal status (inl line) = (Err refusal, inl (record { ended = line.0; lines = nothing_taken out; errors = line.1 }))
refused_ends out before now refusal status (inr line) = (Err refusals.OutOfMemory, inl (record { ended = line.0; lines = nothing_taken out; errors = line.1 }))
