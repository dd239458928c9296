use Rattle.std.proofs.Common.{◌≡◌, ◌++◌, ◌∷◌, [], map, take}
use Rattle.pkg_pool.proofs.expand.put_behind.Given as goal

abbrev pub invariant-loop-folder : goal.invariant-loop-folder
invariant-loop-folder l = l.found.items ≡ l.fn.found.items ++ map (λ folder. folder ++ l.segment ∷ []) (take l.folder-index l.folders)
