use Rattle.std.proofs.Common.{◌≡◌, take, drop}
use Rattle.std.specs.List.{AllByRecursion}
use Rattle.install_packages.specs.InstallParts.{copy_parts}
use Rattle.install_sources.specs.Sources.{IsNamed}
use Rattle.install_packages.proofs.wanted.copy_parts.Given as goal

abbrev pub invariant-loop-member : goal.invariant-loop-member
invariant-loop-member l = record {
  parts : l.parts.items ≡ copy_parts (take l.member-index l.members);
  named : AllByRecursion IsNamed (drop l.member-index l.members);
}
