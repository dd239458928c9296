use Rattle.std.proofs.Common.{◌≡◌, ◌++◌, length}
use Rattle.class_lookup.specs.Groups.{in_groups}
use Rattle.class_lookup.proofs.tried.put_groups.Given as goal

abbrev pub invariant-loop-len : goal.invariant-loop-len
invariant-loop-len l = l.paths.items ++ in_groups l.groups l.name l.len ≡ l.fn.paths.items ++ in_groups l.groups l.name (length l.groups)
