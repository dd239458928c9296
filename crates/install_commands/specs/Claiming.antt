-- The claim on a project, as a command begins with it and ends with it.
use Rattle.std.specs.Prelude.{ℕ, List, is_some, Some, if◌then◌else◌, Result, Ok, Err}
use Rattle.std.specs.FinMap as map
use Rattle.tree_dev.specs.Trees.{FileTree, has_folder}
use Rattle.tree_dev.specs.Changes.{changed}
use Rattle.tree_dev.specs.Projects.{work_path}
use Rattle.tree_dev.specs.declared.change.Change.TheVariants as changes
use Rattle.run_answers.specs.declared.refusal.Refusal.{Refusal}
use Rattle.run_answers.specs.declared.refusal.Refusal.TheVariants as refusals

-- the tree with a claim on the project: `.install` is an empty folder
abbrev pub with_claim : List (List ℕ) → FileTree → FileTree
with_claim project t = changed t (changes.FolderMade (work_path project))

-- Nothing may be at `.install`, and the project must be a folder: where it is none, there is no composer.json.
unfoldable pub claim_in : FileTree → List (List ℕ) → Result (Unit {0}) Refusal
claim_in t project =
    if is_some (map.get t (work_path project)) then Err refusals.Unfinished
    else if has_folder t (Some project) then Ok tt
    else Err refusals.NoManifest
