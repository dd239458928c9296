-- The rows of a table by the number of a name's first bytes that their prefix is.
use Rattle.std.specs.Prelude.{ℕ, zero, suc, List, [], ◌++◌, take, filter, map, slice_index_or, Vec}
use Rattle.std.specs.List.{flat_map}
use Rattle.std.specs.Borrow.{Bor}
use Rattle.std.specs.declared.alloc.Global.{Global}
use Rattle.path_name.specs.Orders.{bytes_are_equal}
use Rattle.table_scan.specs.declared.types.PrefixRow.{PrefixRow}
use Rattle.class_paths.specs.declared.types.RouteKind.{RouteKind}
use Rattle.class_paths.specs.declared.types.RouteKind.TheVariants.{Psr4}
use Rattle.class_paths.specs.RowPath.{path_below}

abbrev pub table_rows_at : List PrefixRow → List ℕ → ℕ → List PrefixRow
table_rows_at rows name len = filter (λ row. bytes_are_equal row.prefix (take len name)) rows

abbrev pub rows_of : Vec (Bor PrefixRow) Global → List PrefixRow
rows_of group = map (λ row. row.now) group.items

-- the rows of the group at a number
abbrev pub group_at : List (Vec (Bor PrefixRow) Global) → ℕ → List PrefixRow
group_at groups len = slice_index_or (map rows_of groups) len []

-- below each of a row's folders
abbrev pub in_folders : List (List (List ℕ)) → List (List ℕ) → List (List (List ℕ))
in_folders folders below = map (λ folder. folder ++ below) folders

-- below the folders of each row
abbrev pub in_rows : RouteKind → List PrefixRow → List ℕ → List (List (List ℕ))
in_rows kind rows name = flat_map (λ row. in_folders row.folders (path_below kind row.prefix name)) rows

-- those of the groups below a number of a name's first bytes, the greatest first
abbrev pub in_groups : List (Vec (Bor PrefixRow) Global) → List ℕ → ℕ → List (List (List ℕ))
in_groups groups name zero = []
in_groups groups name (suc len) = in_rows Psr4 (group_at groups len) name ++ in_groups groups name len
