-- The texts of the paths that rows give.
use Rattle.std.specs.Prelude.{ℕ, suc, List, [], ◌∷◌, ◌++◌, take, drop, map, if◌then◌else◌}
use Rattle.std.specs.List.{list_any}
use Rattle.class_paths.specs.Prefixes.{is_backslash}
use Rattle.class_paths.specs.RowPath.{php_ending, is_underscore}

-- a `\` becomes a `/`
abbrev pub slashed : ℕ → ℕ
slashed byte = if is_backslash byte then 47 else byte

-- a `_` does too
abbrev pub parted : ℕ → ℕ
parted byte = if is_underscore byte then 47 else slashed byte

-- the place behind the last `\`, from which on a class's own name stands
abbrev pub own_name_at : List ℕ → ℕ
own_name_at [] = 0
own_name_at (byte ∷ rest) = if list_any is_backslash (byte ∷ rest) then suc (own_name_at rest) else 0

abbrev pub psr4_text : List ℕ → List ℕ
psr4_text rest = map slashed rest ++ php_ending

abbrev pub psr0_text : List ℕ → List ℕ
psr0_text name = (map slashed (take (own_name_at name) name) ++ map parted (drop (own_name_at name) name)) ++ php_ending
