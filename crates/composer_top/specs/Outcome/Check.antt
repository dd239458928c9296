-- The outcome of `check`: whether the lock is that of the manifest as it is now, and whether its packages are a valid plan
-- for it, or the first refusal.
use Rattle.std.specs.Prelude.{ℕ, List, [], ◌∷◌, ◌++◌, codes, Bool, if◌then◌else◌, Option, Some, None, Result, Ok}
use Rattle.path_name.specs.Given.{◌>>=◌}
use Rattle.path_name.specs.Orders.{bytes_are_equal}
use Rattle.tree_dev.specs.Trees.{FileTree}
use Rattle.plan_rules.specs.Validity.{verdict_of}
use Rattle.plan_rules.specs.declared.rule.Verdict.{Verdict}
use Rattle.plan_rules.specs.declared.rule.Verdict.TheVariants as verdicts
use Rattle.run_answers.specs.Messages.{rule_text}
use Rattle.run_answers.specs.declared.refusal.Refusal.{Refusal}
use Rattle.run_answers.specs.declared.refusal.Refusal.TheVariants as refusals
use Rattle.lock_file.specs.declared.types.Lock.{Lock}
use Rattle.composer_top.specs.declared.report.Report.{Report}
use Rattle.project_files.specs.declared.manifests.ProjectManifest.{ProjectManifest}
use Rattle.project_files.specs.ProjectManifest.{project_manifest_in}
use Rattle.project_files.specs.ProjectLock.{project_lock_in, pool_in}
use Rattle.install_sources.specs.Verdicts.{broken_rule_of, whole}

-- whether the lock was made for a manifest of this hash
unfoldable pub hash_line : Bool → List ℕ
hash_line is_current = (if is_current then codes "hash current" else codes "hash stale") ++ 10 ∷ []

unfoldable pub verdict_line : Verdict → List ℕ
verdict_line verdicts.Meets = codes "meets" ++ 10 ∷ []
verdict_line (verdicts.Breaks rule) = codes "breaks " ++ rule_text (broken_rule_of rule) ++ 10 ∷ []

-- a stale hash alone is no failure, a broken rule is
abbrev pub end_of : Verdict → Option Refusal
end_of verdicts.Meets = None
end_of (verdicts.Breaks rule) = Some (refusals.Breaks (broken_rule_of rule))

-- the two lines, and what they end with
unfoldable pub check_report : Bool → Verdict → Report
check_report is_current verdict = record { lines = hash_line is_current ++ verdict_line verdict; end = end_of verdict }

-- what is found of a manifest and a lock
unfoldable pub compared : List (List ℕ) → ProjectManifest → Lock → Result Report Refusal
compared project manifest lock = do
  pool ← pool_in manifest.root lock project
  Ok (check_report (bytes_are_equal manifest.content_hash lock.content_hash) (verdict_of pool (whole pool)))

unfoldable pub lock_compared : FileTree → List (List ℕ) → ProjectManifest → Result Report Refusal
lock_compared t project manifest = do
  lock ← project_lock_in t project
  compared project manifest lock

unfoldable pub check_outcome : FileTree → List (List ℕ) → Result Report Refusal
check_outcome t project = do
  manifest ← project_manifest_in t project
  lock_compared t project manifest
