use Rattle.tree_dev.specs.declared.limits.TheConstants.{ENTRIES}
use Rattle.project_files.specs.States.{generation_in}
use Rattle.install_commands.specs.Claiming.{with_claim}
use Rattle.install_packages.specs.Installing.{setting_of}
use Rattle.composer_top.specs.Outcome.Install.{IsInstallWork, IsUpdateWork}
use Rattle.composer_top.proofs.RunWrites.{made_so, written}
use Rattle.composer_top.proofs.laws.installs_write_few_files.Goals as goal

pub returns-clause-install : goal.returns-clause-install
returns-clause-install c = λ project ways t before now status run work passes is.
    let it = c.commands_install_what_they_choose.ensures.install project ways ENTRIES run.left (with_claim project t) work (made_so (IsInstallWork project ways) project t before now status run work is passes) in
    record {
      choice = it.0;
      made = it.2;
      few = λ flags folders standing.
          c.installations_write_few_files.ensures (with_claim project t) project it.0.0 (setting_of ways it.0.0.root (generation_in (with_claim project t) project)) it.0.1 run.left work it.2 flags before.writes
          now.writes folders standing (written (IsInstallWork project ways) project t before now status run work is);
    }

pub returns-clause-update : goal.returns-clause-update
returns-clause-update c = λ project ways t before now status run work passes is.
    let it = c.commands_install_what_they_choose.ensures.update project ways ENTRIES run.left (with_claim project t) work (made_so (IsUpdateWork project ways) project t before now status run work is passes) in
    record {
      choice = it.0;
      made = it.2;
      few = λ flags folders standing.
          c.installations_write_few_files.ensures (with_claim project t) project it.0.0 (setting_of ways it.0.0.root (generation_in (with_claim project t) project)) it.0.1 run.left work it.2 flags before.writes
          now.writes folders standing (written (IsUpdateWork project ways) project t before now status run work is);
    }
