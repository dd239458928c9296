-- How few files an install writes, and an update.
use Rattle.std.specs.Prelude.{ℕ, ◌≤◌, ◌+◌, List, ◌++◌, Bool}
use Rattle.tree_dev.specs.Device.{Meaning}
use Rattle.tree_dev.specs.Trees.{FileTree}
use Rattle.composer_words.specs.declared.chosen.Ways.{Ways}
use Rattle.stage_job.specs.Written.{after_more}
use Rattle.package_moves.specs.Found.{AreStanding}
use Rattle.package_moves.specs.Moves.{HasFolders}
use Rattle.install_writes.specs.FewWrites.{differing_mirrored}
use Rattle.project_files.specs.States.{generation_in}
use Rattle.install_choice.specs.declared.chosen.Chosen.{Chosen}
use Rattle.install_commands.specs.Claiming.{with_claim}
use Rattle.install_commands.specs.declared.work.Work.{Work}
use Rattle.table_files.specs.Written.{parts_of}
use Rattle.install_packages.specs.InstallParts.{copy_parts}
use Rattle.install_packages.specs.Installations.{Installation}
use Rattle.install_packages.specs.Installing.{setting_of}

-- The work under the claim is an installation of packages that were chosen. Where nothing but folders stands at `vendor` and above
-- targets, at most one call of `write` was made for each mirrored file of a package whose folder in `vendor` doesn't hold exactly
-- that already, and nine more: for five tables, `installed.json`, the autoloader, the lock and the journal.
pub record WritesFew (project : List (List ℕ)) (ways : Ways) (t : FileTree) (before now : Meaning) (left : ℕ) (work : Work) : Type 0 where
  pub choice : Chosen × ℕ
  pub made : Installation (with_claim project t) project choice.0 (setting_of ways choice.0.root (generation_in (with_claim project t) project)) choice.1 left work
  pub few : (flags : List Bool) → HasFolders project (with_claim project t) (copy_parts made.members ++ parts_of made.files) → AreStanding project (with_claim project t) (copy_parts made.members) flags
      → now.writes ≤ after_more before.writes (differing_mirrored (with_claim project t) (copy_parts made.members) flags + 9)
