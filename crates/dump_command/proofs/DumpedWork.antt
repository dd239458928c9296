-- The work of tables, as the steps of `dump-autoload` make it.
use Rattle.std.proofs.Common.{◌≡◌, ℕ, Bool, List, Result, Ok, Err, IsTrue, refl, sym, ap, subst, ◌∙◌, inl, inr, arith}
use Rattle.std.specs.Prelude.{◌⊎◌, ◌≤◌, IfOk, OnOk}
use Rattle.path_name.specs.Given.{◌>>=◌}
use Rattle.tree_dev.specs.Trees.{FileTree}
use Rattle.stage_job.specs.Jobs.{AreParts}
use Rattle.stage_job.specs.Staging.{HasParents}
use Rattle.stage_job.specs.declared.job.Part.{Part}
use Rattle.composer_words.specs.declared.chosen.Ways.{Ways}
use Rattle.psr_routes.specs.declared.types.Placed.{Placed}
use Rattle.table_print.specs.TablePrinting.{printed}
use Rattle.run_answers.specs.Faults.{is_free}
use Rattle.run_answers.specs.Steps.{Tells, TellsOne}
use Rattle.run_answers.specs.declared.refusal.Refusal.{Refusal}
use Rattle.table_files.specs.NewTables.{AreNewTables, project_with}
use Rattle.table_files.specs.TableFolders.{HasTableFolders}
use Rattle.table_files.specs.Written.{AreReadBack, parts_of, written_files}
use Rattle.table_files.specs.declared.building.NewTables.{NewTables}
use Rattle.table_files.proofs.CheckedFiles.{parts_known}
use Rattle.table_files.proofs.TableParents.{are_in_tables, has_parents}
use Rattle.table_files.proofs.WrittenParts.{are_targets, parts_are}
use Rattle.install_commands.specs.Working.{HasParentsIf, IsWork, IsWorkIf, writes_of}
use Rattle.install_commands.specs.declared.work.Work.{Work}
use Rattle.dump_command.specs.Dumping.{IsDumped, IsStandingWork, IsWorkFrom, IsWorkOf, dumped_parts, installed_text, tables_work, work_with}
use Rattle.dump_command.specs.Standing.{project_of, standing_in}
use Rattle.dump_command.specs.declared.standing.Standing.{Standing}
use Rattle.dump_command.proofs.FewParts.{few_writes}

-- ---- the work of tables

module _ (project : List (List ℕ)) (is_listed : Bool) (new : NewTables) (work : Work) where
  -- its parts are those of the files of tables
  parts_by : (c : Result (List Part) Refusal) → dumped_parts project is_listed new.tables ≡ c → (c >>= λ parts. Ok (work_with new parts)) ≡ Ok work
      → (parts : List Part) × (dumped_parts project is_listed new.tables ≡ Ok parts) × (work ≡ work_with new parts)
  parts_by (Ok parts) e is = (parts, e, let same : ◌≡◌ {A = Result Work Refusal} (Ok (work_with new parts)) (Ok work) = is in cc)
  parts_by (Err refusal) e is = absurd cc

  pub work_parts : tables_work project is_listed new ≡ Ok work → (parts : List Part) × (dumped_parts project is_listed new.tables ≡ Ok parts) × (work ≡ work_with new parts)
  unfolding tables_work
  work_parts is = parts_by (dumped_parts project is_listed new.tables) refl is

  module _ (is : tables_work project is_listed new ≡ Ok work) where
    pub same_parts : work.job.parts ≡ parts_of (written_files (printed project new.tables) (installed_text is_listed))
    same_parts =
        let w = work_parts is in
        ap (λ (one : Work). one.job.parts) w.2 ∙ parts_known project (written_files (printed project new.tables) (installed_text is_listed)) w.0 w.1

    pub same_generation : work.generation ≡ new.generation
    same_generation = ap (λ (one : Work). one.generation) (work_parts is).2

    is_work : 1 ≤ new.generation → IsWork project work
    is_work first = record {
      parts = subst (λ (parts : List Part). AreParts project parts) (sym same_parts)
          (parts_are project (written_files (printed project new.tables) (installed_text is_listed)) (are_targets (printed project new.tables) (installed_text is_listed)));
      generation = subst (λ (n : ℕ). 1 ≤ n) (sym same_generation) first;
    }

    has_work_parents : (t : FileTree) → HasTableFolders project t → HasParents project work.job.parts t
    has_work_parents t folders = subst (λ (parts : List Part). HasParents project parts t) (sym same_parts)
        (has_parents project t folders (written_files (printed project new.tables) (installed_text is_listed)) (are_in_tables (printed project new.tables) (installed_text is_listed)))

    few_work : (t : FileTree) → writes_of t (Ok work) ≤ 8
    few_work t = few_writes t (printed project new.tables) (installed_text is_listed) work same_parts

-- ---- the same of what was told

module _ (project : List (List ℕ)) (is_listed : Bool) (new : NewTables) where
  pub work_if : (result : Result Work Refusal) → 1 ≤ new.generation → Tells (λ work. work) (tables_work project is_listed new) result → IfOk result (IsWork project)
  work_if (Ok work) first is = is_work project is_listed new work is first
  work_if (Err refusal) first is = tt

  pub parents_of : (result : Result Work Refusal) → Tells (λ work. work) (tables_work project is_listed new) result
      → IfOk result (λ work. (t : FileTree) → HasTableFolders project t → HasParents project work.job.parts t)
  parents_of (Ok work) is = has_work_parents project is_listed new work is
  parents_of (Err refusal) is = tt

  pub few_of : (t : FileTree) (result : Result Work Refusal) → Tells (λ work. work) (tables_work project is_listed new) result → writes_of t result ≤ 8
  few_of t (Ok work) is = few_work project is_listed new work is t
  few_of t (Err refusal) is = omega (arith)

pub parents_if : (project : List (List ℕ)) (t : FileTree) (result : Result Work Refusal) → IfOk result (λ work. (u : FileTree) → HasTableFolders project u → HasParents project work.job.parts u)
    → HasTableFolders project t → IfOk result (λ work. HasParents project work.job.parts t)
parents_if project t (Ok work) parents folders = parents t folders
parents_if project t (Err refusal) parents folders = tt

-- for the end of a command
pub is_work_if : (project : List (List ℕ)) (result : Result Work Refusal) → IfOk result (IsWork project) → IsWorkIf project result
is_work_if project (Ok work) is = is
is_work_if project (Err refusal) is = tt

pub has_parents_if : (project : List (List ℕ)) (t : FileTree) (result : Result Work Refusal) → IfOk result (λ work. HasParents project work.job.parts t) → HasParentsIf project t result
has_parents_if project t (Ok work) has = has
has_parents_if project t (Err refusal) has = tt

-- ---- the work of what stands

module _ (t : FileTree) (project : List (List ℕ)) (left after : ℕ) (standing : Standing) where
  abbrev pub AreNew : List Placed → Result (NewTables × ℕ) Refusal → Type 0
  AreNew members = AreNewTables t (project_with project standing.root members standing.setting.dev) standing.setting left

  module _ (members : List Placed) (same : members ≡ standing.members) where
    own : (new : Result (NewTables × ℕ) Refusal) → AreNew members new → AreNew standing.members new
    own new are = subst (λ (some : List Placed). AreNew some new) same are

    -- the tables were refused
    pub refused_tables : (refusal : Refusal) → IsTrue (is_free refusal) ⊎ AreNew members (Err refusal) → IsTrue (is_free refusal) ⊎ IsStandingWork t project left after standing (Err refusal)
    refused_tables refusal (inl free) = inl free
    refused_tables refusal (inr are) = inr (record { new = Err refusal; is_new = own (Err refusal) are; is_made = refl; read_back = tt })

    -- they were built
    built_work : (new : NewTables) (made : Result Work Refusal) → AreNew members (Ok (new, after)) → made ≡ tables_work project standing.is_listed new
        → IfOk made (λ work. AreReadBack project new.tables) → IsStandingWork t project left after standing made
    built_work new made are is back = record { new = Ok (new, after); is_new = own (Ok (new, after)) are; is_made = (refl, is); read_back = back }

    back_if : (new : NewTables) (work : Work) → OnOk {E = Refusal} (Ok work) (AreReadBack project new.tables) → AreReadBack project new.tables
    back_if new work back = back

    pub made_work : (new : NewTables) → AreNew members (Ok (new, after)) → (result : Result Work Refusal) → Tells (λ work. work) (tables_work project standing.is_listed new) result
        → OnOk result (AreReadBack project new.tables) → TellsOne (λ work. work) (IsStandingWork t project left after standing) result
    made_work new are (Ok work) is back = built_work new (Ok work) are (sym is) back
    made_work new are (Err refusal) (inl free) back = inl free
    made_work new are (Err refusal) (inr is) back = inr (built_work new (Err refusal) are (sym is) tt)

-- ---- what a work of what stands is made of

module _ (t : FileTree) (project : List (List ℕ)) (left after : ℕ) (standing : Standing) (work : Work) where
  abbrev pub IsBuilt : NewTables → Type 0
  IsBuilt new = AreNewTables t (project_of project standing) standing.setting left (Ok (new, after)) × (tables_work project standing.is_listed new ≡ Ok work) × AreReadBack project new.tables

  abbrev From : Result (NewTables × ℕ) Refusal → Type 0
  From new = AreNewTables t (project_of project standing) standing.setting left new

  pub work_built : IsStandingWork t project left after standing (Ok work) → (new : NewTables) × IsBuilt new
  work_built dumped = by dumped.new dumped.is_new dumped.is_made dumped.read_back
    where
      by : (new : Result (NewTables × ℕ) Refusal) → From new → IsWorkOf project standing.is_listed after new (Ok work)
          → IfOk {E = Refusal} (Ok work) (λ work. IfOk new (λ built. AreReadBack project built.0.tables)) → (new : NewTables) × IsBuilt new
      by (Ok new) are is back = (new.0, (subst (λ (rest : ℕ). From (Ok (new.0, rest))) is.0 are, sym is.1, back))
      by (Err refusal) are is back = absurd (let same : ◌≡◌ {A = Result Work Refusal} (Ok work) (Err refusal) = is in cc)

-- ---- the work of what is installed

module _ (project : List (List ℕ)) (ways : Ways) (left : ℕ) (t : FileTree) (after : ℕ) where
  pub dumped_refused : (refusal : Refusal) → IsTrue (is_free refusal) ⊎ (standing_in t project ways ≡ Err refusal) → IsTrue (is_free refusal) ⊎ IsDumped project ways left t after (Err refusal)
  unfolding IsDumped
  dumped_refused refusal (inl free) = inl free
  dumped_refused refusal (inr is) = inr (subst (λ (standing : Result Standing Refusal). IsWorkFrom t project left after standing (Err refusal)) (sym is) refl)

  dumped_one : (standing : Standing) (made : Result Work Refusal) → standing_in t project ways ≡ Ok standing → IsStandingWork t project left after standing made → IsDumped project ways left t after made
  unfolding IsDumped
  dumped_one standing made is work = subst (λ (s : Result Standing Refusal). IsWorkFrom t project left after s made) (sym is) work

  pub dumped_made : (standing : Standing) → standing_in t project ways ≡ Ok standing → (result : Result Work Refusal) → TellsOne (λ work. work) (IsStandingWork t project left after standing) result
      → TellsOne (λ work. work) (IsDumped project ways left t after) result
  dumped_made standing is (Ok work) made = dumped_one standing (Ok work) is made
  dumped_made standing is (Err refusal) (inl free) = inl free
  dumped_made standing is (Err refusal) (inr made) = inr (dumped_one standing (Err refusal) is made)
