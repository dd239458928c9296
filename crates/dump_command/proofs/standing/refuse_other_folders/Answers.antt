use Rattle.dump_command.proofs.LooksAtFolders.{folders_after}
use Rattle.dump_command.proofs.standing.refuse_other_folders.Goals as goal

pub returns-clause-folders : goal.returns-clause-folders
returns-clause-folders g c =
    folders_after c.args.project.now (g.T.Tree.meaning c.args.tree.now) (g.T.Tree.meaning c.refuse_other_vendor.new.tree) c.refuse_other_composer.result _ c.in_ok-refuse_other_vendor.ensures.told
    c.in_ok-refuse_other_vendor.ensures.only_read.told c.refuse_other_composer.ensures.told
