-- The folders of packages in a project.
use Rattle.std.specs.Prelude.{ℕ, List, [], ◌∷◌, ◌++◌}
use Rattle.tree_dev.specs.Projects.{vendor_path}
use Rattle.manifest_read.specs.Names.{project_of, vendor_of}

-- vendor/NAME: the name of a package has two parts
abbrev pub package_place : List (List ℕ) → List ℕ → List (List ℕ)
package_place project name = vendor_path project ++ vendor_of name ∷ project_of name ∷ []
