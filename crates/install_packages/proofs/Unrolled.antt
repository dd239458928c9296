-- What an install of packages commits, from its steps one after another.
use Rattle.std.proofs.Common.{◌≡◌, ℕ, List, ◌++◌, Result, Ok, Err, refl, sym, ap, subst, ◌∙◌}
use Rattle.tree_dev.specs.Trees.{FileTree}
use Rattle.composer_words.specs.declared.chosen.Ways.{Ways}
use Rattle.package_moves.specs.Moves.{IsJobFor, moves_checked}
use Rattle.psr_routes.specs.declared.types.Placed.{Placed}
use Rattle.stage_job.specs.Jobs.{AreParts}
use Rattle.stage_job.specs.declared.job.Job.{Job}
use Rattle.stage_job.specs.declared.job.Part.{Part}
use Rattle.autoload_build.specs.Answers.{walks_of}
use Rattle.autoload_build.specs.Jobs.{Project}
use Rattle.class_walk.specs.Walks.{AreScansOf, Walked}
use Rattle.class_walk.specs.declared.fault.WalkFault.{WalkFault}
use Rattle.class_walk.specs.declared.job.Scanned.{Scanned}
use Rattle.run_answers.specs.declared.refusal.Refusal.{Refusal}
use Rattle.project_files.specs.States.{generation_in}
use Rattle.install_sources.specs.Sources.{AreMembers}
use Rattle.install_choice.specs.Choosing.{IsChosenToInstall, IsChosenToUpdate}
use Rattle.install_choice.specs.declared.chosen.Chosen.{Chosen}
use Rattle.install_choice.proofs.Steps.{both_ok, both_taken, same_value}
use Rattle.install_commands.specs.declared.work.Work.{Work}
use Rattle.table_files.specs.Modes.{next_generation}
use Rattle.table_files.specs.WalkRefusals.{refusal_of_walk}
use Rattle.table_files.specs.Written.{files_checked, parts_in, parts_of}
use Rattle.table_files.specs.declared.written.WrittenFile.{WrittenFile}
use Rattle.install_packages.specs.InstallParts.{AreFilesOf, AreWantedParts, CanBeMade, IsJob, copy_parts, wanted_of}
use Rattle.install_packages.specs.Installations.{Installation}
use Rattle.install_packages.specs.Installing.{IsInstall, IsUpdate, IsWorkBy, IsWorkFor, IsWorkFrom, IsWorkIn, IsWorkOf, IsWorkWith, setting_of, work_of}
use Rattle.table_files.specs.NewTables.{AreNewTables, AreTablesOf, built_tables, project_with, tables_found}
use Rattle.table_files.specs.declared.building.NewTables.{NewTables}
use Rattle.table_files.specs.declared.building.Setting.{Setting}

-- ---- the single steps

-- the parts of files that can be written
checked : (at : List (List ℕ)) (files : List WrittenFile) (parts : List Part) → parts_in at files ≡ Ok parts → (files_checked at files ≡ Ok tt) × (parts ≡ parts_of files)
unfolding parts_in
checked at files parts e =
    let passed = both_ok (files_checked at files) (λ done. Ok (parts_of files)) parts e in
    (passed.1, sym (same_value (parts_of files) parts passed.2))

wanted_parts : (at : List (List ℕ)) (members : List Placed) (files : List WrittenFile) (parts : List Part) → wanted_of at members files ≡ Ok parts
    → (files_checked at files ≡ Ok tt) × (parts ≡ copy_parts members ++ parts_of files)
wanted_parts at members files parts e =
    let made = both_ok (parts_in at files) (λ some. Ok (copy_parts members ++ some)) parts e in
    let these = checked at files made.0 made.1 in
    (these.0, sym (same_value (copy_parts members ++ made.0) parts made.2) ∙ ap (λ some. copy_parts members ++ some) these.1)

job_made : (t : FileTree) (at : List (List ℕ)) (wanted : List Part) (left : ℕ) (moved : Job × ℕ) → IsJob t at wanted left (Ok moved)
    → IsJobFor at t wanted moved.0.parts × (moves_checked at t wanted left ≡ Ok moved.1) × AreParts at moved.0.parts
unfolding IsJob
job_made t at wanted left moved is = is

no_tables : {P : Type 0} (built : NewTables × ℕ) (refusal : Refusal) → ◌≡◌ {A = Result (NewTables × ℕ) Refusal} (Ok built) (Err refusal) → P
no_tables built refusal e = absurd cc

first_of : {X : Type 0} (x y : X) (n m : ℕ) → ◌≡◌ {A = Result (X × ℕ) Refusal} (Ok (x, n)) (Ok (y, m)) → (x ≡ y) × (n ≡ m)
first_of {X = X} x y n m e = (ap (λ (p : X × ℕ). p.0) (pair e), ap (λ (p : X × ℕ). p.1) (pair e))
  where
    pair : ◌≡◌ {A = Result (X × ℕ) Refusal} (Ok (x, n)) (Ok (y, m)) → ◌≡◌ {A = X × ℕ} (x, n) (y, m)
    pair e = same_value (x, n) (y, m) e

-- ---- the steps together

module _ (t : FileTree) (at : List (List ℕ)) (chosen : Chosen) (setting : Setting) (left after : ℕ) (members : List Placed) (are_members : AreMembers t at chosen.lock setting.dev (Ok members)) where
  abbrev party : Project
  party = project_with at chosen.root members setting.dev

  abbrev Made : Work → Type 0
  Made work = Installation t at chosen setting left after work

  -- behind the walks and the generation
  module _ (walked : Walked) (walks : walks_of t party setting.mode left ≡ Ok walked) (found : List Scanned) (scans : AreScansOf walked.found found) (generation : ℕ) (next : next_generation setting.stands ≡ Ok generation) where
    abbrev new : NewTables
    new = built_tables party setting.mode found generation

    of_job : (files : List WrittenFile) (are_files : AreFilesOf at new.tables chosen setting.dev files) (none_long : files_checked at files ≡ Ok tt) (parts : List Part) → CanBeMade at parts → parts ≡ copy_parts members ++ parts_of files
        → (moved : Job × ℕ) → IsJob t at parts walked.left (Ok moved) → (work : Work) → ◌≡◌ {A = Result (Work × ℕ) Refusal} (Ok (work, after)) (Ok (work_of members new moved.0, moved.1)) → Made work
    of_job files are_files none_long parts can_be are moved is work e =
        let same = first_of work (work_of members new moved.0) after moved.1 e in
        let job = subst (λ (wanted : List Part). IsJob t at wanted walked.left (Ok moved)) are is in
        let these = job_made t at (copy_parts members ++ parts_of files) walked.left moved job in
        subst Made (sym same.0) (record {
          members = members;
          are_members = are_members;
          walked = walked;
          walks = walks;
          found = found;
          scans = scans;
          next = next;
          files = files;
          are_files = are_files;
          none_long = none_long;
          can_be = subst (CanBeMade at) are can_be;
          job = these.0;
          parts = these.2;
          counted = these.1 ∙ ap Ok (sym same.1);
          lines = refl;
        })

    of_wanted : (work : Work) → IsWorkWith t at chosen setting.dev members (new, walked.left) (Ok (work, after)) → Made work
    of_wanted work is =
        let parts = both_taken (AreWantedParts at members new.tables chosen setting.dev) (IsWorkFor t at members new walked.left) (work, after) is in
        let made = wanted_parts at members parts.1.files parts.0 (sym parts.1.is_made) in
        let job = both_taken (IsJob t at parts.0 walked.left) (IsWorkOf members new) (work, after) parts.2 in
        of_job parts.1.files parts.1.are_files made.0 parts.0 parts.1.can_be made.1 job.0 job.1 work job.2

  of_found : (walked : Walked) → walks_of t party setting.mode left ≡ Ok walked → (found : List Scanned) → AreScansOf walked.found found → (built : NewTables × ℕ) → Ok built ≡ tables_found party setting found walked.left
      → (work : Work) → IsWorkWith t at chosen setting.dev members built (Ok (work, after)) → Made work
  of_found walked walks found scans built e work is =
      let made = both_ok (next_generation setting.stands) (λ generation. Ok (built_tables party setting.mode found generation, walked.left)) built (sym e) in
      of_wanted walked walks found scans made.0 made.1 work
      (subst (λ (some : NewTables × ℕ). IsWorkWith t at chosen setting.dev members some (Ok (work, after))) (sym (same_value (built_tables party setting.mode found made.0, walked.left) built made.2)) is)

  of_tables : (answer : Result Walked WalkFault) → walks_of t party setting.mode left ≡ answer → (built : NewTables × ℕ) → AreTablesOf party setting answer (Ok built)
      → (work : Work) → IsWorkWith t at chosen setting.dev members built (Ok (work, after)) → Made work
  of_tables (Ok walked) walks built tables work is = of_found walked walks tables.0 tables.1 built tables.2 work is
  of_tables (Err fault) walks built tables work is = no_tables built (refusal_of_walk fault) tables

  of_members : (work : Work) → IsWorkFrom t at chosen setting left members (Ok (work, after)) → Made work
  unfolding AreNewTables
  of_members work is =
      let built = both_taken (AreNewTables t party setting left) (IsWorkWith t at chosen setting.dev members) (work, after) is in
      of_tables (walks_of t party setting.mode left) refl built.0 built.1 work built.2

pub work_unrolled : (t : FileTree) (at : List (List ℕ)) (chosen : Chosen) (setting : Setting) (left after : ℕ) (work : Work) → IsWorkIn t at setting chosen left (Ok (work, after)) → Installation t at chosen setting left after work
work_unrolled t at chosen setting left after work is =
    let members = both_taken (AreMembers t at chosen.lock setting.dev) (IsWorkFrom t at chosen setting left) (work, after) is in
    of_members t at chosen setting left after members.0 members.1 work members.2

-- ---- the commands

pub install_unrolled : (at : List (List ℕ)) (ways : Ways) (left after : ℕ) (t : FileTree) (work : Work) → IsInstall at ways left t after (Ok work)
    → (choice : Chosen × ℕ) × IsChosenToInstall t at left (Ok choice) × Installation t at choice.0 (setting_of ways choice.0.root (generation_in t at)) choice.1 after work
unfolding IsInstall
install_unrolled at ways left after t work is =
    let choice = both_taken (IsChosenToInstall t at left) (IsWorkBy t at ways (generation_in t at)) (work, after) is in
    (choice.0, choice.1, work_unrolled t at choice.0.0 (setting_of ways choice.0.0.root (generation_in t at)) choice.0.1 after work choice.2)

pub update_unrolled : (at : List (List ℕ)) (ways : Ways) (left after : ℕ) (t : FileTree) (work : Work) → IsUpdate at ways left t after (Ok work)
    → (choice : Chosen × ℕ) × IsChosenToUpdate t at left (Ok choice) × Installation t at choice.0 (setting_of ways choice.0.root (generation_in t at)) choice.1 after work
unfolding IsUpdate
update_unrolled at ways left after t work is =
    let choice = both_taken (IsChosenToUpdate t at left) (IsWorkBy t at ways (generation_in t at)) (work, after) is in
    (choice.0, choice.1, work_unrolled t at choice.0.0 (setting_of ways choice.0.0.root (generation_in t at)) choice.0.1 after work choice.2)
