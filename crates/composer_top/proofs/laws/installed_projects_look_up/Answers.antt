use Rattle.std.proofs.Common.{◌⊎◌, ℕ, List, IsTrue, inl, inr}
use Rattle.path_name.specs.Orders.{bytes_are_equal}
use Rattle.tree_dev.specs.Device.{Meaning}
use Rattle.tree_dev.specs.Trees.{FileTree, IsTree}
use Rattle.composer_words.specs.declared.chosen.Ways.{Ways}
use Rattle.install_commands.specs.Claiming.{with_claim}
use Rattle.composer_top.specs.Outcome.{RunChanges, is_done}
use Rattle.composer_top.proofs.DoneRuns.{claimed_tree, commanded}
use Rattle.composer_top.proofs.InstalledProjects.{checked, lock_text, new_files, plain_opens, run_updated, tables_standing}
use Rattle.composer_top.specs.Outcome.Install.{IsInstallWork, IsUpdateWork}
use Rattle.composer_top.proofs.laws.installed_projects_look_up.Goals as goal

pub returns-clause-install : goal.returns-clause-install
returns-clause-install c = λ project ways t u before now status run ended is_left.
    let did = commanded (IsInstallWork project ways) project t before now status run ended in
    c.commands_make_new_projects.ensures.install project ways t u before now did.0 did.1 is_left

pub returns-clause-update : goal.returns-clause-update
returns-clause-update c = run_updated

pub returns-clause-tree : goal.returns-clause-tree
returns-clause-tree c = λ project ways t before now status run ended. by project ways t before now status ended run
  where
    by : (project : List (List ℕ)) (ways : Ways) (t : FileTree) (before now : Meaning) (status : ℕ) → IsTrue (is_done status)
        → RunChanges (IsInstallWork project ways) project t before now status ⊎ RunChanges (IsUpdateWork project ways) project t before now status → IsTree (with_claim project t)
    by project ways t before now status ended (inl run) = claimed_tree (IsInstallWork project ways) project t before now status run ended
    by project ways t before now status ended (inr run) = claimed_tree (IsUpdateWork project ways) project t before now status run ended

pub returns-clause-stand : goal.returns-clause-stand
returns-clause-stand c = tables_standing

pub returns-clause-plain : goal.returns-clause-plain
returns-clause-plain c = λ project ways start u new claimed. plain_opens project ways start u new claimed c.plain_tables.ensures

pub returns-clause-files : goal.returns-clause-files
returns-clause-files c = new_files

pub returns-clause-lock : goal.returns-clause-lock
returns-clause-lock c = λ project ways start u new text claimed written. lock_text project ways start u new claimed text written

pub returns-clause-check : goal.returns-clause-check
returns-clause-check c = λ project ways start u new claimed.
    let root = c.installed_locks_are_met.ensures.root project ways start u new in (
      bytes_are_equal root.0.content_hash new.choice.0.lock.content_hash,
      checked project u new.choice.0.root new.choice.0.lock root.0 root.1 (c.installed_locks_are_met.ensures.read project ways start u new claimed) root.2
          (c.installed_locks_are_met.ensures.met project ways start u new),
    )
