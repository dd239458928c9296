-- Where the parts of a job stand in the folder `.install` of a project.
use Rattle.std.specs.Prelude.{ℕ, List, [], ◌∷◌, ◌++◌, codes}
use Rattle.path_name.specs.Decimals.{decimal_text}

-- .install/new
abbrev pub new_path : List (List ℕ) → List (List ℕ)
new_path project = project ++ (codes ".install" ∷ codes "new" ∷ [])

-- .install/old
abbrev pub old_path : List (List ℕ) → List (List ℕ)
old_path project = project ++ (codes ".install" ∷ codes "old" ∷ [])

-- .install/journal.tmp
abbrev pub draft_path : List (List ℕ) → List (List ℕ)
draft_path project = project ++ (codes ".install" ∷ codes "journal.tmp" ∷ [])

-- .install/new/K, where part K is staged; parts count from 0
abbrev pub staged_path : List (List ℕ) → ℕ → List (List ℕ)
staged_path project number = project ++ (codes ".install" ∷ codes "new" ∷ decimal_text number ∷ [])
