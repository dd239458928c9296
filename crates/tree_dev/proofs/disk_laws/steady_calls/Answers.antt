use Rattle.tree_dev.proofs.SteadyRules.{steady_then_barrier, steady_then_make, steady_then_make_parent, steady_then_read, steady_then_remove_dir, steady_then_remove_file, steady_then_rename, steady_then_write}
use Rattle.tree_dev.proofs.disk_laws.steady_calls.Goals as goal

pub returns : goal.returns
returns c = record {
  read = steady_then_read;
  barrier = steady_then_barrier;
  write = steady_then_write;
  make = steady_then_make;
  make_parent = steady_then_make_parent;
  remove_file = steady_then_remove_file;
  remove_dir = steady_then_remove_dir;
  rename = steady_then_rename;
}
