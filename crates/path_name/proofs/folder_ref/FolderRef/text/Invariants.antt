use Rattle.std.proofs.Common.{◌≡◌, ◌∷◌, [], replicate}
use Rattle.std.specs.List.{concat}
use Rattle.path_name.proofs.folder_ref.FolderRef.text.Given as goal

abbrev pub invariant-loop : goal.invariant-loop
invariant-loop l = l.text.items ≡ concat (replicate l.counter (46 ∷ 46 ∷ 47 ∷ []))
