-- The lines that tell which packages are installed.
use Rattle.std.specs.Prelude.{ℕ, List, [], ◌∷◌, ◌++◌, codes}
use Rattle.std.specs.List.{flat_map}
use Rattle.psr_routes.specs.declared.types.Placed.{Placed}

unfoldable pub package_label : List ℕ
package_label = codes "package "

-- `package NAME VERSION`, the version as it is written
abbrev pub package_line : Placed → List ℕ
package_line one = package_label ++ (one.«package».name ++ (32 ∷ (one.«package».version_text ++ 10 ∷ [])))

abbrev pub package_lines : List Placed → List ℕ
package_lines members = flat_map package_line members
