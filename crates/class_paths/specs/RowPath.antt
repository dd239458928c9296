-- The path that an autoload row gives a class (PSR-4, 3; PSR-0).
use Rattle.std.specs.Prelude.{ℕ, List, [], ◌∷◌, ◌++◌, length, take, drop, filter, codes, Bool, true, false, not, ◌==◌}
use Rattle.std.specs.List.{slice_split}
use Rattle.path_name.specs.Orders.{bytes_are_equal}
use Rattle.class_paths.specs.Prefixes.{is_backslash, is_psr4_prefix}
use Rattle.class_paths.specs.declared.types.RouteKind.{RouteKind}
use Rattle.class_paths.specs.declared.types.RouteKind.TheVariants.{Psr4, Psr0}
use Rattle.class_paths.specs.declared.types.Route.{Route}

unfoldable pub php_ending : List ℕ
php_ending = codes ".php"

-- the last part gets the ending
abbrev pub with_ending : List (List ℕ) → List (List ℕ)
with_ending [] = []
with_ending (part ∷ []) = (part ++ php_ending) ∷ []
with_ending (part ∷ next ∷ rest) = part ∷ with_ending (next ∷ rest)

-- PSR-4: what follows the prefix, each `\` a `/`, with `.php` at the end.
abbrev pub path_behind : List ℕ → List (List ℕ)
path_behind rest = with_ending (slice_split is_backslash rest)

abbrev pub is_underscore : ℕ → Bool
is_underscore byte = byte == 95

-- the last part, which is the class's own name, is cut at each `_`
abbrev pub with_cut_class : List (List ℕ) → List (List ℕ)
with_cut_class [] = []
with_cut_class (part ∷ []) = slice_split is_underscore part
with_cut_class (part ∷ next ∷ rest) = part ∷ with_cut_class (next ∷ rest)

abbrev pub is_no_part : List ℕ → Bool
is_no_part [] = true
is_no_part (byte ∷ bytes) = false

-- PSR-0: the whole name, each `\` a `/`, each `_` behind the last `\` a `/`, with `.php` at the end. Empty parts are
-- dropped.
abbrev pub path_of_class : List ℕ → List (List ℕ)
path_of_class name = filter (λ part. not (is_no_part part)) (with_ending (with_cut_class (slice_split is_backslash name)))

-- the path below a row's folder
abbrev pub path_below : RouteKind → List ℕ → List ℕ → List (List ℕ)
path_below Psr4 prefix name = path_behind (drop (length prefix) name)
path_below Psr0 prefix name = path_of_class name

-- the path that a row gives a class
unfoldable pub row_path_of : Route → List ℕ → List (List ℕ)
row_path_of row name = row.folder ++ path_below row.kind row.prefix name

-- the prefix is the first bytes of the name
abbrev pub begins : List ℕ → List ℕ → Bool
begins prefix name = bytes_are_equal prefix (take (length prefix) name)

-- a prefix of PSR-4 is empty or ends in `\`; one of PSR-0 is any text
abbrev pub is_route_prefix : RouteKind → List ℕ → Bool
is_route_prefix Psr4 prefix = is_psr4_prefix prefix
is_route_prefix Psr0 prefix = true
