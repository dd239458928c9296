-- What a dump that ends well leaves.
use Rattle.std.proofs.Common.{◌≡◌, ℕ, List, Option, Some, None, is_some, Result, Ok, Err, refl, ap, subst, ◌∙◌}
use Rattle.std.specs.FinMap as map
use Rattle.std.specs.Prelude.{if◌then◌else◌}
use Rattle.tree_dev.specs.Projects.{file_at, work_path}
use Rattle.tree_dev.specs.Trees.{FileTree, IsTree, has_folder}
use Rattle.tree_dev.specs.declared.entry.Entry.{Entry}
use Rattle.composer_words.specs.declared.chosen.Ways.{Ways}
use Rattle.table_scan.specs.TableFaults as grammar
use Rattle.table_scan.specs.declared.types.TableTexts.{TableTexts}
use Rattle.stage_job.specs.Jobs.{job_result}
use Rattle.run_answers.specs.Steps.{TellsOne}
use Rattle.run_answers.specs.declared.refusal.Refusal.{Refusal}
use Rattle.run_answers.specs.declared.refusal.Refusal.TheVariants as refusals
use Rattle.install_commands.specs.Claiming.{claim_in, with_claim}
use Rattle.install_commands.specs.Commanded.{files_made, outcome_of_work}
use Rattle.install_commands.specs.Working.{IsInstalled, committed_in, files_after, files_by, worked_in}
use Rattle.install_commands.specs.declared.work.Work.{Work}
use Rattle.dump_command.specs.Dumping.{IsDumped}
use Rattle.dump_command.specs.DumpedProjects.{IsDumpedProject}
use Rattle.dump_command.proofs.DumpedFiles.{built_stand}
use Rattle.dump_command.proofs.DumpedWork.{same_parts, work_built}
use Rattle.dump_command.proofs.ShownStanding.{both, dump_shown, standing_dumped, standing_formed}

module _ (project : List (List ℕ)) (ways : Ways) (entries : ℕ) (start u : FileTree) (left : ℕ)
    (tree : IsTree start) (stands : IsTree u) (gone : map.get u (work_path project) ≡ None) where
  -- the claim was taken where nothing stood
  free : claim_in start project ≡ Ok tt → map.get start (work_path project) ≡ None
  unfolding claim_in
  free e = by (map.get start (work_path project)) e
    where
      by : (entry : Option Entry)
          → ◌≡◌ {A = Result (Unit {0}) Refusal} (if is_some entry then Err refusals.Unfinished else if has_folder start (Some project) then Ok tt else Err refusals.NoManifest) (Ok tt) → entry ≡ None
      by None same = refl
      by (Some entry) same = absurd cc

  -- the work was committed
  committed : (work : Work) (lines : List ℕ) → worked_in project (with_claim project start) left (Ok work) ≡ Ok lines → committed_in project (with_claim project start) left work ≡ Ok lines
  unfolding worked_in
  committed work lines e = e

  made_files : (work : Work) (lines : List ℕ) → committed_in project (with_claim project start) left work ≡ Ok lines → IsInstalled project start (files_made project start left (Ok work)) u
      → IsInstalled project start (job_result project (with_claim project start) work.job.parts (file_at start)) u
  unfolding files_after
  made_files work lines e is = subst (λ (answer : Result (List ℕ) Refusal). IsInstalled project start (files_by project start (with_claim project start) work answer) u) e is

  of_work : (work : Work) → IsDumped project ways entries (with_claim project start) left (Ok work) → map.get start (work_path project) ≡ None
      → IsInstalled project start (job_result project (with_claim project start) work.job.parts (file_at start)) u → IsDumpedProject project ways entries start u
  of_work work dumped none installed =
      let t = with_claim project start in
      let found = standing_dumped project ways entries left t work dumped in
      let built = work_built t project entries left found.0 work found.2 in
      let parts = same_parts project found.0.is_listed built.0 work built.1.1 in
      record {
        standing = found.0;
        stood = found.1;
        formed = standing_formed project ways t found.0 found.1;
        new = built.0;
        left = left;
        are_new = built.1.0;
        read = ap (λ (texts : TableTexts). grammar.tables_of project texts)
            (built_stand project t u entries left found.0 built.0 (file_at start) work.job.parts built.1.0 parts installed.has_files)
            ∙ built.1.2;
        shown = dump_shown project ways start u entries left found.0 work found.1 found.2 tree stands none gone installed;
      }

  no_lines : (refusal : Refusal) (lines : List ℕ) → worked_in project (with_claim project start) left (Err refusal) ≡ Ok lines → ⊥
  unfolding worked_in
  no_lines refusal lines e = let same : ◌≡◌ {A = Result (List ℕ) Refusal} (Err refusal) (Ok lines) = e in absurd cc

  pub dumped_project : (made : Result Work Refusal) (lines : List ℕ) → TellsOne (λ work. work) (IsDumped project ways entries (with_claim project start) left) made
      → outcome_of_work project start left made ≡ Ok lines → IsInstalled project start (files_made project start left made) u → IsDumpedProject project ways entries start u
  dumped_project (Ok work) lines is outcome installed =
      let passed = both (claim_in start project) (λ claimed. worked_in project (with_claim project start) left (Ok work)) lines outcome in
      of_work work is (free passed.1) (made_files work lines (committed work lines passed.2) installed)
  dumped_project (Err refusal) lines is outcome installed =
      let passed = both (claim_in start project) (λ claimed. worked_in project (with_claim project start) left (Err refusal)) lines outcome in
      absurd (no_lines refusal lines passed.2)
