-- The paths at which a class's file is looked for, in the order of Composer's class loader.
use Rattle.std.specs.Prelude.{◌≤◌, ℕ, zero, suc, List, ◌++◌, length, take, map, filter, Bool, true, false, ◌&&◌, ⊤}
use Rattle.path_name.specs.Orders.{bytes_are_equal}
use Rattle.class_paths.specs.declared.types.RouteKind.{RouteKind}
use Rattle.class_paths.specs.declared.types.RouteKind.TheVariants.{Psr4, Psr0}
use Rattle.class_paths.specs.declared.types.Route.{Route}
use Rattle.class_paths.specs.RowPath.{row_path_of, begins}

abbrev pub is_same_kind : RouteKind → RouteKind → Bool
is_same_kind Psr4 Psr4 = true
is_same_kind Psr4 Psr0 = false
is_same_kind Psr0 Psr4 = false
is_same_kind Psr0 Psr0 = true

-- the rows of one kind, in their order
abbrev pub of_kind : RouteKind → List Route → List Route
of_kind kind rows = filter (λ row. is_same_kind kind row.kind) rows

-- the rows whose prefix is the name's first bytes, as many as len, in their order
abbrev pub rows_at : List Route → List ℕ → ℕ → List Route
rows_at rows name len = filter (λ row. bytes_are_equal row.prefix (take len name)) rows

-- the longest prefix first, from len bytes down to none
abbrev pub rows_upto : List Route → List ℕ → ℕ → List Route
rows_upto rows name zero = rows_at rows name zero
rows_upto rows name (suc len) = rows_at rows name (suc len) ++ rows_upto rows name len

-- The rows whose prefix begins the name, as they are tried: those of PSR-4, then those of PSR-0; among each the
-- longest prefix first, so that the empty one is the last; those of one prefix in their order.
abbrev pub tried_rows : List Route → List ℕ → List Route
tried_rows rows name = rows_upto (of_kind Psr4 rows) name (length name) ++ rows_upto (of_kind Psr0 rows) name (length name)

-- the paths that these rows give the name
unfoldable pub candidates_of : List Route → List ℕ → List (List (List ℕ))
candidates_of rows name = map (λ row. row_path_of row name) (tried_rows rows name)

-- ---- the same as a filter and an order

-- the rows whose prefix begins the name, in their order
abbrev pub rows_for : List Route → List ℕ → List Route
rows_for rows name = filter (λ row. begins row.prefix name) rows

-- rows of one kind and one prefix
abbrev pub is_of : RouteKind → List ℕ → Route → Bool
is_of kind prefix row = is_same_kind kind row.kind && bytes_are_equal row.prefix prefix

abbrev pub IsFirstOf : RouteKind → RouteKind → ℕ → ℕ → Type 0
IsFirstOf Psr4 Psr4 len other = other ≤ len
IsFirstOf Psr4 Psr0 len other = ⊤
IsFirstOf Psr0 Psr4 len other = ⊥
IsFirstOf Psr0 Psr0 len other = other ≤ len

-- A row may be tried before another: it is one of PSR-4 and the other is not, or they are of one kind and its prefix is
-- not the shorter one.
abbrev pub IsTriedFirst : Route → Route → Type 0
IsTriedFirst row other = IsFirstOf row.kind other.kind (length row.prefix) (length other.prefix)
