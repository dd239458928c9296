-- What is warned of.
use Rattle.std.proofs.Common.{◌≡◌, ℕ, Bool, true, false, List, [], ◌++◌, Option, Some, None, Result, Err, refl, sym, ap, inl, inr, append-nil, arith}
use Rattle.std.specs.Prelude.{◌⊎◌, IsTrue, if◌then◌else◌}
use Rattle.path_name.specs.Orders.{bytes_are_equal}
use Rattle.std.specs.Option.{option_map}
use Rattle.tree_dev.specs.Sinks.{Taken, Takes}
use Rattle.tree_dev.specs.Trees.{FileTree}
use Rattle.lock_file.specs.declared.types.Lock.{Lock}
use Rattle.run_answers.specs.Faults.{is_free}
use Rattle.run_answers.specs.declared.refusal.Refusal.{Refusal}
use Rattle.project_files.specs.declared.manifests.ProjectManifest.{ProjectManifest}
use Rattle.install_choice.specs.Warnings.{MayWarn, TakesText, stale_text, warning_after, warning_if, warning_of}

same_bytes : (bytes : Option (List ℕ)) → bytes ≡ option_map (λ taken. taken ++ []) bytes
same_bytes None = refl
same_bytes (Some taken) = ap Some (sym (append-nil taken))

-- nothing was put
pub takes_nothing : (sink : Taken) → Takes sink sink []
takes_nothing sink = record { bytes = same_bytes sink.bytes; faults = omega arith }

-- without a lock that was read nothing is warned of
pub refused_warns : {P : Type 0} (manifest : ProjectManifest) (wanted : Result (Option Lock) Refusal) (refusal : Refusal) (sink : Taken) → (IsTrue (is_free refusal) ⊎ (wanted ≡ Err refusal))
    → (IsTrue (is_free refusal) → P) → TakesText sink sink (warning_if manifest wanted) ⊎ P
refused_warns manifest wanted refusal sink (inl free) p = inr (p free)
refused_warns manifest wanted refusal sink (inr told) p = inl (rw told (inl (takes_nothing sink)))

pub unread_warns : {P : Type 0} (t : FileTree) (at : List (List ℕ)) (wanted : Result ProjectManifest Refusal) (refusal : Refusal) (sink : Taken) → (IsTrue (is_free refusal) ⊎ (wanted ≡ Err refusal))
    → (IsTrue (is_free refusal) → P) → TakesText sink sink (warning_after t at wanted) ⊎ P
unread_warns t at wanted refusal sink (inl free) p = inr (p free)
unread_warns t at wanted refusal sink (inr told) p = inl (rw told (inl (takes_nothing sink)))

-- ---- nothing, or the warning

pub warns_none : (sink : Taken) → MayWarn sink sink
warns_none sink = inl (inl (takes_nothing sink))

by_flag : (before now : Taken) (same : Bool) → TakesText before now (if same then [] else stale_text) → MayWarn before now
by_flag before now true takes = inl takes
by_flag before now false takes = inr takes

pub may_warn : (before now : Taken) (manifest : ProjectManifest) (lock : Lock) → TakesText before now (warning_of manifest lock) → MayWarn before now
may_warn before now manifest lock takes = by_flag before now (bytes_are_equal manifest.content_hash lock.content_hash) takes
