-- The last two lines of a command that writes tables.
use Rattle.std.specs.Prelude.{ℕ, List, [], ◌∷◌, ◌++◌, codes, length}
use Rattle.path_name.specs.Decimals.{decimal_text}
use Rattle.table_scan.specs.declared.types.Tables.{Tables}

-- a label, a number, and LF
abbrev pub count_line : List ℕ → ℕ → List ℕ
count_line label number = label ++ (decimal_text number ++ 10 ∷ [])

unfoldable pub classes_label : List ℕ
classes_label = codes "classes "

unfoldable pub generation_label : List ℕ
generation_label = codes "generation "

-- how many classes the map has, and the generation
abbrev pub counts_lines : Tables → ℕ → List ℕ
counts_lines tables generation = count_line classes_label (length tables.class_map) ++ count_line generation_label generation
