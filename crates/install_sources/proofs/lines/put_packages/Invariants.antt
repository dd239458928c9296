use Rattle.std.proofs.Common.{◌≡◌, ◌++◌, take}
use Rattle.install_sources.specs.Lines.{package_lines}
use Rattle.install_sources.proofs.lines.put_packages.Given as goal

abbrev pub invariant-loop-member : goal.invariant-loop-member
invariant-loop-member l = l.lines.items ≡ l.fn.lines.items ++ package_lines (take l.member-index l.members)
