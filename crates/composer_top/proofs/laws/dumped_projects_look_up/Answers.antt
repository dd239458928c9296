use Rattle.std.proofs.Common.{refl}
use Rattle.tree_dev.specs.declared.limits.TheConstants.{ENTRIES}
use Rattle.composer_top.specs.Outcome.Dump.{IsDumpWork}
use Rattle.composer_top.proofs.DoneRuns.{claim_passes, claimed_tree, commanded}
use Rattle.composer_top.proofs.DumpedProjects.{dumped, plain_tables_open, tables_stand}
use Rattle.composer_top.proofs.laws.dumped_projects_look_up.Goals as goal

pub returns-clause-made : goal.returns-clause-made
returns-clause-made c = dumped

pub returns-clause-stand : goal.returns-clause-stand
returns-clause-stand c = tables_stand

pub returns-clause-plain : goal.returns-clause-plain
returns-clause-plain c = λ project ways start u new. plain_tables_open project ways start u new c.plain_tables.ensures

pub returns-clause-tree : goal.returns-clause-tree
returns-clause-tree c = λ project ways t before now status run ended. claimed_tree (IsDumpWork project ways) project t before now status run ended

pub returns-clause-shown : goal.returns-clause-shown
returns-clause-shown c = λ project ways t u before now status run ended told tree stands.
    let did = commanded (IsDumpWork project ways) project t before now status run ended in
    let passes = claim_passes project t did.1.left did.1.made did.0 did.1.told in
    c.dumped_projects.ensures project ways ENTRIES t u did.1.left did.1.made did.0 tree stands (did.1.released passes refl u told) (did.1.is_made passes) did.1.told (did.1.new_stands u told)
