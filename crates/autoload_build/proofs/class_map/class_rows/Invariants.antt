use Rattle.std.proofs.Common.{◌≡◌, map, take}
use Rattle.autoload_build.specs.BuiltTables.{class_row}
use Rattle.autoload_build.specs.Steps.{class_of}
use Rattle.autoload_build.proofs.class_map.class_rows.Given as goal

abbrev pub invariant-loop-declared : goal.invariant-loop-declared
invariant-loop-declared l = l.rows.items ≡ map class_row (map class_of (take l.declared-index l.classes))
