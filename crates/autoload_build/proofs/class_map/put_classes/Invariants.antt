use Rattle.std.proofs.Common.{◌≡◌, ◌++◌, map, take}
use Rattle.autoload_build.specs.Steps.{class_of}
use Rattle.autoload_build.proofs.class_map.put_classes.Given as goal

abbrev pub invariant-loop-class : goal.invariant-loop-class
invariant-loop-class l = map class_of l.classes.items ≡ map class_of l.fn.classes.items ++ map (λ name. (name, l.scanned.shown)) (take l.class-index l.scanned.names)
