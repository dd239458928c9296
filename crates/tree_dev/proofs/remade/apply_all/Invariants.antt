use Rattle.std.proofs.Common.{◌≡◌, reverse, take}
use Rattle.std.specs.Option.{option_copied}
use Rattle.tree_dev.specs.Disk.{made}
use Rattle.tree_dev.specs.Memory.{torn_changes}
use Rattle.tree_dev.proofs.remade.apply_all.Given as goal

abbrev pub invariant-loop-change : goal.invariant-loop-change
invariant-loop-change l = l.files ≡ made l.fn.files (torn_changes (option_copied l.torn) (reverse (take l.change-index l.changes)))
