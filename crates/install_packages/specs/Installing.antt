-- What `install` and `update` commit, step by step.
use Rattle.std.specs.Prelude.{ℕ, List, [], ◌++◌, Bool, not, Option, Result, Ok, Err}
use Rattle.tree_dev.specs.Trees.{FileTree}
use Rattle.composer_words.specs.declared.chosen.Ways.{Ways}
use Rattle.manifest_read.specs.declared.types.Manifest.{Manifest}
use Rattle.psr_routes.specs.declared.types.Placed.{Placed}
use Rattle.stage_job.specs.declared.job.Job.{Job}
use Rattle.stage_job.specs.declared.job.Part.{Part}
use Rattle.table_scan.specs.declared.types.Tables.{Tables}
use Rattle.run_answers.specs.declared.refusal.Refusal.{Refusal}
use Rattle.project_files.specs.States.{generation_in}
use Rattle.install_commands.specs.Claiming.{claim_in, with_claim}
use Rattle.install_choice.specs.Warnings.{warning_in}
use Rattle.install_choice.specs.Choosing.{IsChosenToInstall, IsChosenToUpdate}
use Rattle.table_files.specs.Counts.{counts_lines}
use Rattle.install_packages.specs.InstallParts.{AreWantedParts, IsJob}
use Rattle.table_files.specs.Modes.{mode_of}
use Rattle.table_files.specs.NewTables.{AreNewTables, project_with}
use Rattle.install_choice.specs.Sequences.{Is, Then}
use Rattle.install_sources.specs.Lines.{package_lines}
use Rattle.install_sources.specs.Sources.{AreMembers}
use Rattle.install_choice.specs.declared.chosen.Chosen.{Chosen}
use Rattle.table_files.specs.declared.building.NewTables.{NewTables}
use Rattle.table_files.specs.declared.building.Setting.{Setting}
use Rattle.install_commands.specs.declared.work.Work.{Work}

-- ---- the lines

-- a line for each package in byte order of name, and the counts
unfoldable pub install_lines : List Placed → Tables → ℕ → List ℕ
install_lines members tables generation = package_lines members ++ counts_lines tables generation

-- ---- from the packages to what is committed

abbrev pub work_of : List Placed → NewTables → Job → Work
work_of members new job = record { job = job; generation = new.generation; lines = install_lines members new.tables new.generation }

abbrev pub IsWorkOf : List Placed → NewTables → Job × ℕ → Result (Work × ℕ) Refusal → Type 0
IsWorkOf members new moved = Is (Ok (work_of members new moved.0, moved.1))

abbrev pub IsWorkFor : FileTree → List (List ℕ) → List Placed → NewTables → ℕ → List Part → Result (Work × ℕ) Refusal → Type 0
IsWorkFor t at members new left wanted = Then (IsJob t at wanted left) (IsWorkOf members new)

abbrev pub IsWorkWith : FileTree → List (List ℕ) → Chosen → Bool → List Placed → NewTables × ℕ → Result (Work × ℕ) Refusal → Type 0
IsWorkWith t at chosen dev members built = Then (AreWantedParts at members built.0.tables chosen dev) (IsWorkFor t at members built.0 built.1)

abbrev pub IsWorkFrom : FileTree → List (List ℕ) → Chosen → Setting → ℕ → List Placed → Result (Work × ℕ) Refusal → Type 0
IsWorkFrom t at chosen setting left members = Then (AreNewTables t (project_with at chosen.root members setting.dev) setting left) (IsWorkWith t at chosen setting.dev members)

-- The packages are looked at in their places, their tables are built, all files are made, and then what stands is compared.
abbrev pub IsWorkIn : FileTree → List (List ℕ) → Setting → Chosen → ℕ → Result (Work × ℕ) Refusal → Type 0
IsWorkIn t at setting chosen left = Then (AreMembers t at chosen.lock setting.dev) (IsWorkFrom t at chosen setting left)

-- without what is for development where the words say so
abbrev pub setting_of : Ways → Manifest → Option ℕ → Setting
setting_of ways root stands = record { mode = mode_of ways root; dev = not ways.no_dev; stands = stands }

abbrev pub IsWorkBy : FileTree → List (List ℕ) → Ways → Option ℕ → Chosen × ℕ → Result (Work × ℕ) Refusal → Type 0
IsWorkBy t at ways stands choice = IsWorkIn t at (setting_of ways choice.0.root stands) choice.0 choice.1

-- ---- the commands

abbrev pub with_left : ℕ → Result Work Refusal → Result (Work × ℕ) Refusal
with_left after (Ok work) = Ok (work, after)
with_left after (Err refusal) = Err refusal

-- What `install` commits in a tree that is claimed, of which so many entries may be listed, and how many may be listed behind it;
-- or its first refusal.
unfoldable pub IsInstall : List (List ℕ) → Ways → ℕ → FileTree → ℕ → Result Work Refusal → Type 0
IsInstall at ways left t after made = Then (IsChosenToInstall t at left) (IsWorkBy t at ways (generation_in t at)) (with_left after made)

-- the same of `update`
unfoldable pub IsUpdate : List (List ℕ) → Ways → ℕ → FileTree → ℕ → Result Work Refusal → Type 0
IsUpdate at ways left t after made = Then (IsChosenToUpdate t at left) (IsWorkBy t at ways (generation_in t at)) (with_left after made)

-- ---- the warning

abbrev pub warning_claimed : FileTree → List (List ℕ) → Result (Unit {0}) Refusal → List ℕ
warning_claimed t at (Ok passed) = warning_in (with_claim at t) at
warning_claimed t at (Err refusal) = []

-- what `install` warns of, which is nothing where the project can't be claimed
unfoldable pub install_warning : List (List ℕ) → FileTree → List ℕ
install_warning at t = warning_claimed t at (claim_in t at)
