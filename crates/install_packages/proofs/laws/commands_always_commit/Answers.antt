use Rattle.std.proofs.Common.{refl}
use Rattle.project_files.specs.States.{generation_in}
use Rattle.install_packages.specs.Installing.{setting_of}
use Rattle.install_packages.proofs.AlwaysCommits.{has_parts}
use Rattle.install_packages.proofs.Unrolled.{install_unrolled, update_unrolled}
use Rattle.install_packages.proofs.laws.commands_always_commit.Goals as goal

pub returns-clause-install : goal.returns-clause-install
returns-clause-install c = λ at ways left after t work tree is.
    let steps = install_unrolled at ways left after t work is in
    has_parts t at steps.0.0 (setting_of ways steps.0.0.root (generation_in t at)) steps.0.1 after work steps.2 tree refl

pub returns-clause-update : goal.returns-clause-update
returns-clause-update c = λ at ways left after t work tree is.
    let steps = update_unrolled at ways left after t work is in
    has_parts t at steps.0.0 (setting_of ways steps.0.0.root (generation_in t at)) steps.0.1 after work steps.2 tree refl
