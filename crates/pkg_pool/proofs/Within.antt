-- What stands at or below a folder.
use Rattle.std.proofs.Common.{◌≡◌, ℕ, Bool, true, false, List, Option, Some, None, ◌↔◌, IsTrue, refl, sym}
use Rattle.std.specs.Prelude.{is_some}
use Rattle.path_name.specs.Paths.{BeginsWith}
use Rattle.tree_dev.specs.Trees.{behind}
use Rattle.tree_dev.specs.Projects.{is_within}
use Rattle.tree_dev.proofs.Behind.{behind_head, head_behind}

by_rest : (folder path : List (List ℕ)) (rest : Option (List (List ℕ))) (b : Bool) → behind folder path ≡ rest → (IsTrue b ↔ BeginsWith path folder) → b ≡ is_some rest
by_rest folder path (Some rest) true e begins = refl
by_rest folder path (Some rest) false e begins = begins.1 (rest, head_behind folder path rest e)
by_rest folder path None true e begins =
    let found = begins.0 refl in
    absurd (let h = sym (behind_head folder found.0) in let p = found.1 in cc)
by_rest folder path None false e begins = refl

pub within : (folder path : List (List ℕ)) (b : Bool) → (IsTrue b ↔ BeginsWith path folder) → b ≡ is_within folder path
within folder path b begins = by_rest folder path (behind folder path) b refl begins
