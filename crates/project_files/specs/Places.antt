-- Where the files of a project stand.
use Rattle.std.specs.Prelude.{ℕ, List, [], ◌∷◌, ◌++◌, codes}
use Rattle.table_scan.specs.TableGrammar.{vendor_name}
use Rattle.table_scan.specs.declared.types.TableFile.{TableFile}
use Rattle.table_scan.specs.TableNames.{table_name}

unfoldable pub composer_name : List ℕ
composer_name = codes "composer"

-- where a table file stands
abbrev pub table_place : List (List ℕ) → TableFile → List (List ℕ)
table_place project table = project ++ vendor_name ∷ composer_name ∷ table_name table ∷ []

-- composer.json
abbrev pub manifest_place : List (List ℕ) → List (List ℕ)
manifest_place project = project ++ codes "composer.json" ∷ []

-- vendor/composer
abbrev pub composer_place : List (List ℕ) → List (List ℕ)
composer_place project = project ++ vendor_name ∷ composer_name ∷ []

-- vendor/composer/installed.json
abbrev pub installed_place : List (List ℕ) → List (List ℕ)
installed_place project = project ++ vendor_name ∷ composer_name ∷ codes "installed.json" ∷ []

-- vendor/autoload.php
abbrev pub autoloader_place : List (List ℕ) → List (List ℕ)
autoloader_place project = project ++ vendor_name ∷ codes "autoload.php" ∷ []
