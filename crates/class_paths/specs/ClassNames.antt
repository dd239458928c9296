-- Class names, by the PHP manual's page on namespaces.
use Rattle.std.specs.Prelude.{ℕ, List, Bool, ◌&&◌, IsTrue}
use Rattle.std.specs.List.{list_all, slice_split}
use Rattle.std.specs.Str.{is_utf8}
use Rattle.path_name.specs.Bytes.{is_identifier}
use Rattle.class_paths.specs.Prefixes.{is_backslash}

-- an identifier in UTF-8
abbrev pub is_name_part : List ℕ → Bool
is_name_part part = is_identifier part && is_utf8 part

-- A class name is identifiers joined by `\`.
abbrev pub is_class_name : List ℕ → Bool
is_class_name text = list_all is_name_part (slice_split is_backslash text)

abbrev pub IsClassName : List ℕ → Type 0
IsClassName text = IsTrue (is_class_name text)
