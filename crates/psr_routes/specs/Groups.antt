-- Rows by the number of a name's first bytes that their prefix is.
use Rattle.std.specs.Prelude.{ℕ, zero, suc, List, [], ◌++◌, map, slice_index_or, Vec}
use Rattle.std.specs.Borrow.{Bor}
use Rattle.std.specs.declared.alloc.Global.{Global}
use Rattle.class_paths.specs.declared.types.Route.{Route}
use Rattle.class_paths.specs.RowPath.{row_path_of}

abbrev pub lent : Vec (Bor Route) Global → List Route
lent group = map (λ row. row.now) group.items

-- the rows of the group at a number
abbrev pub group_at : List (Vec (Bor Route) Global) → ℕ → List Route
group_at groups len = slice_index_or (map lent groups) len []

-- the paths that the rows of the groups below a number give a name, the greatest first
abbrev pub paths_below : List (Vec (Bor Route) Global) → List ℕ → ℕ → List (List (List ℕ))
paths_below groups name zero = []
paths_below groups name (suc len) = map (λ row. row_path_of row name) (group_at groups len) ++ paths_below groups name len
