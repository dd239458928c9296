use Rattle.std.proofs.Common.{◌∙◌}
use Rattle.tree_dev.specs.Projects.{file_at, lock_path}
use Rattle.lock_file.specs.LockText.{lock_text}
use Rattle.project_files.specs.States.{generation_in}
use Rattle.install_packages.specs.Installing.{setting_of}
use Rattle.install_packages.proofs.NewProjects.{new_project}
use Rattle.install_packages.proofs.StandingFiles.{lock_stands}
use Rattle.install_packages.proofs.Unrolled.{update_unrolled}
use Rattle.install_packages.proofs.laws.new_locks_stand.Goals as goal

pub returns-clause-lock : goal.returns-clause-lock
returns-clause-lock c = lock_stands

pub returns-clause-update : goal.returns-clause-update
returns-clause-update c = λ at ways left after t work tree is.
    let steps = update_unrolled at ways left after t work is in
    let new = c.updates_take_first_choices.ensures t at left steps.0 steps.1 in
    let setting = setting_of ways steps.0.0.root (generation_in t at) in (
      steps.0.0,
      new,
      new_project t at steps.0.0 setting steps.0.1 after work steps.2 (lock_path at) tree
          ∙ lock_stands t at steps.0.0 setting steps.0.1 after work steps.2 (file_at t) (lock_text steps.0.0.lock) new.written,
    )
