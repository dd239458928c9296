use Rattle.std.proofs.Common.{◌≡◌, ◌++◌, take}
use Rattle.install_world.specs.JournalText.{target_lines}
use Rattle.install_world.proofs.writing.push_targets.Given as goal

abbrev pub invariant-targets : goal.invariant-targets
invariant-targets l = l.text.items ≡ l.fn.text.items ++ target_lines 0 (take l.number l.targets)
