use Rattle.std.proofs.Common.{◌≡◌, map, take}
use Rattle.std.specs.List.{flat_map}
use Rattle.autoload_build.specs.BuiltTables.{classes_in}
use Rattle.autoload_build.specs.Steps.{class_of}
use Rattle.autoload_build.proofs.class_map.all_classes.Given as goal

abbrev pub invariant-loop-scanned : goal.invariant-loop-scanned
invariant-loop-scanned l = map class_of l.classes.items ≡ flat_map classes_in (take l.scanned-index l.found)
