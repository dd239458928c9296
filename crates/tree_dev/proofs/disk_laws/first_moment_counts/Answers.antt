use Rattle.tree_dev.proofs.Moments.{image_before, image_now, only_now}
use Rattle.tree_dev.proofs.disk_laws.first_moment_counts.Goals as goal

pub returns : goal.returns
returns c = record { counts = image_before; last_counts = image_now; only = only_now }
