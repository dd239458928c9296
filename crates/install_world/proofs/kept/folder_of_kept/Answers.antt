use Rattle.install_world.proofs.Segments.{install_segment, old_segment}
use Rattle.install_world.proofs.kept.folder_of_kept.Goals as goal

pub child-requires : goal.child-requires
child-requires c = install_segment

pub child-requires-2 : goal.child-requires-2
child-requires-2 c = old_segment
