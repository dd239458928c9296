-- The texts of the tables that stand in a project.
use Rattle.std.specs.Prelude.{ℕ, List}
use Rattle.tree_dev.specs.Trees.{FileTree}
use Rattle.tree_dev.specs.Projects.{file_at}
use Rattle.stage_job.specs.Jobs.{Files}
use Rattle.table_scan.specs.declared.types.TableFile.TheVariants as files
use Rattle.table_scan.specs.declared.types.TableTexts.{TableTexts}
use Rattle.project_files.specs.Places.{table_place}

-- the texts of the five tables among the files of a project
abbrev pub texts_of : List (List ℕ) → Files → TableTexts
texts_of project all = record {
  psr4 = all (table_place project files.Psr4);
  psr0 = all (table_place project files.Psr0);
  class_map = all (table_place project files.ClassMap);
  files = all (table_place project files.Files);
  state = all (table_place project files.State);
}

-- the same of the files that stand in a tree
abbrev pub texts_at : List (List ℕ) → FileTree → TableTexts
texts_at project t = texts_of project (file_at t)
