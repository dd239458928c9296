-- A project whose tables were written anew.
use Rattle.std.specs.Prelude.{◌≡◌, ℕ, List, Ok}
use Rattle.tree_dev.specs.Trees.{FileTree}
use Rattle.composer_words.specs.declared.chosen.Ways.{Ways}
use Rattle.table_scan.specs.TableFaults as grammar
use Rattle.autoload_build.specs.ClassAgreement.{IsShown}
use Rattle.autoload_build.specs.Jobs.{HasReadManifests}
use Rattle.table_files.specs.NewTables.{AreNewTables}
use Rattle.table_files.specs.Readable.{texts_at}
use Rattle.table_files.specs.declared.building.NewTables.{NewTables}
use Rattle.install_commands.specs.Claiming.{with_claim}
use Rattle.dump_command.specs.Standing.{project_of, standing_in}
use Rattle.dump_command.specs.declared.standing.Standing.{Standing}

-- A project in a tree u that was dumped from a tree `start`, of which so many entries could be listed: what stood at the start,
-- with well-formed manifests, the tables that were built of it, which the table files of u are read as, and that its packages
-- and the project's own files stand in u as they were read.
pub record IsDumpedProject (project : List (List ℕ)) (ways : Ways) (entries : ℕ) (start u : FileTree) : Type 0 where
  pub standing : Standing
  pub stood : standing_in (with_claim project start) project ways ≡ Ok standing
  pub formed : HasReadManifests (project_of project standing)
  pub new : NewTables
  pub left : ℕ
  pub are_new : AreNewTables (with_claim project start) (project_of project standing) standing.setting entries (Ok (new, left))
  pub read : grammar.tables_of project (texts_at project u) ≡ Ok new.tables
  pub shown : IsShown (project_of project standing) (with_claim project start) u
