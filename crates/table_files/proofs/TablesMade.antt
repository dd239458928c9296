-- The tables of what the walks find, with their generation.
use Rattle.std.proofs.Common.{◌≡◌, ℕ, List, Result, Ok, Err, IsTrue, refl, sym, ap, subst, ◌∙◌, inl, inr}
use Rattle.std.specs.Prelude.{◌⊎◌, IfOk}
use Rattle.path_name.specs.Given.{◌>>=◌}
use Rattle.class_walk.specs.Walks.{AreScansOf, Walked}
use Rattle.class_walk.specs.declared.fault.WalkFault.{WalkFault}
use Rattle.class_walk.specs.declared.job.Scanned.{Scanned}
use Rattle.table_scan.specs.declared.types.Tables.{Tables}
use Rattle.autoload_build.specs.BuiltTables.{tables_of}
use Rattle.autoload_build.specs.Jobs.{Project}
use Rattle.run_answers.specs.Faults.{is_free}
use Rattle.run_answers.specs.Steps.{Tells, TellsOne}
use Rattle.run_answers.specs.declared.refusal.Refusal.{Refusal}
use Rattle.table_files.specs.Modes.{next_generation}
use Rattle.table_files.specs.NewTables.{AreBuilt, AreTablesOf, built_tables, numbered, tables_found}
use Rattle.table_files.specs.WalkRefusals.{or_not_walked}
use Rattle.table_files.specs.declared.building.NewTables.{NewTables}
use Rattle.table_files.specs.declared.building.Setting.{Setting}

-- what the walks refuse is the last word
stopped_walks : (p : Project) (setting : Setting) (wanted : Result Walked WalkFault) (refusal : Refusal) → or_not_walked wanted ≡ Err refusal → AreTablesOf p setting wanted (Err refusal)
stopped_walks p setting (Ok walked) refusal e = absurd cc
stopped_walks p setting (Err fault) refusal e = cc

pub walks_stop : (p : Project) (setting : Setting) (wanted : Result Walked WalkFault) (refusal : Refusal) → IsTrue (is_free refusal) ⊎ (or_not_walked wanted ≡ Err refusal)
    → IsTrue (is_free refusal) ⊎ AreTablesOf p setting wanted (Err refusal)
walks_stop p setting wanted refusal (inl free) = inl free
walks_stop p setting wanted refusal (inr told) = inr (stopped_walks p setting wanted refusal told)

module _ (p : Project) (setting : Setting) (found : List Scanned) (left generation : ℕ) (tables : Tables) (behind : (next : ℕ) → next_generation setting.stands ≡ Ok next → generation ≡ next)
    (built : tables ≡ tables_of p setting.mode generation found) where
  abbrev given : Result ℕ Refusal → Result NewTables Refusal
  given n = n >>= λ next. Ok (numbered tables next)

  abbrev wanted : Result ℕ Refusal → Result (NewTables × ℕ) Refusal
  wanted n = n >>= λ next. Ok (built_tables p setting.mode found next, left)

  same_tables : (next : ℕ) → generation ≡ next → numbered tables next ≡ built_tables p setting.mode found next
  same_tables next is = ap (λ (some : Tables). numbered some next) (built ∙ ap (λ (number : ℕ). tables_of p setting.mode number found) is)

  abbrev ok_with : NewTables → Result (NewTables × ℕ) Refusal
  ok_with some = Ok (some, left)

  step : (n : Result ℕ Refusal) (r : Result NewTables Refusal) → next_generation setting.stands ≡ n → Tells (λ new. new) (given n) r → TellsOne (λ new. (new, left)) (λ made. made ≡ wanted n) r
  step (Ok next) (Ok new) e told =
      let same : numbered tables next ≡ new = cc in
      ap (λ (some : NewTables). ok_with some) (sym same ∙ same_tables next (behind next e))
  step (Ok next) (Err refusal) e (inl free) = inl free
  step (Ok next) (Err refusal) e (inr told) = absurd cc
  step (Err fault) (Ok new) e told = absurd cc
  step (Err fault) (Err refusal) e (inl free) = inl free
  step (Err fault) (Err refusal) e (inr told) = inr cc

  pub tables_built : (r : Result NewTables Refusal) → IfOk r (λ new. (new.tables ≡ tables) × (next_generation setting.stands ≡ Ok new.generation)) → IfOk r (AreBuilt p setting.mode)
  tables_built (Ok new) is = record { found = found; tables = is.0 ∙ built ∙ ap (λ (number : ℕ). tables_of p setting.mode number found) (behind new.generation is.1) }
  tables_built (Err refusal) is = tt

  pub tables_made : (walked : Walked) (answer : Result Walked WalkFault) (r : Result NewTables Refusal) → answer ≡ Ok walked → AreScansOf walked.found found → walked.left ≡ left
      → Tells (λ new. new) (given (next_generation setting.stands)) r → TellsOne (λ new. (new, left)) (AreTablesOf p setting answer) r
  tables_made walked answer r is scans lefts told =
      subst (λ (some : Result Walked WalkFault). TellsOne (λ new. (new, left)) (AreTablesOf p setting some) r) (sym is) (by r (step (next_generation setting.stands) r refl told))
    where
      ending : tables_found p setting found left ≡ tables_found p setting found walked.left
      ending = ap (tables_found p setting found) (sym lefts)

      by : (r : Result NewTables Refusal) → TellsOne (λ new. (new, left)) (λ made. made ≡ wanted (next_generation setting.stands)) r → TellsOne (λ new. (new, left)) (AreTablesOf p setting (Ok walked)) r
      by (Ok new) same = (found, scans, same ∙ ending)
      by (Err refusal) (inl free) = inl free
      by (Err refusal) (inr same) = inr (found, scans, same ∙ ending)
