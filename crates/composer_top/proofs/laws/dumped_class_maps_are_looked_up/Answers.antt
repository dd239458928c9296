use Rattle.tree_dev.specs.declared.limits.TheConstants.{ENTRIES}
use Rattle.autoload_build.specs.BuiltTables.{classes_of}
use Rattle.autoload_build.specs.Jobs.{rows}
use Rattle.install_commands.specs.Claiming.{with_claim}
use Rattle.dump_command.specs.Standing.{project_of}
use Rattle.composer_top.proofs.AgreedLookups.{agreed, names_class}
use Rattle.composer_top.proofs.DumpedProjects.{dumped_stand}
use Rattle.composer_top.proofs.laws.dumped_class_maps_are_looked_up.Goals as goal

pub returns-clause-optimised : goal.returns-clause-optimised
returns-clause-optimised c = λ project ways start u new dumped mode.
    let maps = c.dumped_class_maps.ensures.optimised project (with_claim project start) ENTRIES dumped.left dumped.standing dumped.new dumped.are_new mode in (
      maps,
      λ word name is one.
          agreed project u dumped.new.tables (dumped_stand project ways start u new dumped) (rows (project_of project dumped.standing)) (classes_of maps.listed) word name is (maps.unambiguous u name dumped.shown one),
    )

pub returns-clause-authoritative : goal.returns-clause-authoritative
returns-clause-authoritative c = λ project ways start u new dumped mode tree.
    let maps = c.dumped_class_maps.ensures.authoritative project (with_claim project start) ENTRIES dumped.left dumped.standing dumped.new dumped.are_new mode tree dumped.formed in (
      maps,
      λ word name is one reach.
          agreed project u dumped.new.tables (dumped_stand project ways start u new dumped) (rows (project_of project dumped.standing)) (classes_of maps.listed) word name is
          (maps.in_reach u name dumped.shown (names_class word name is) one reach),
    )
