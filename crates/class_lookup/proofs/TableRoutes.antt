-- The candidates of a table, row by row.
use Rattle.std.proofs.Common.{◌≡◌, ℕ, zero, suc, ◌≤◌, ◌<◌, ◌+◌, Bool, true, false, cond, List, [], ◌∷◌, ◌++◌, length, take, drop, get_or, filter, map, Bor, Vec, Global, refl, sym, ap, ◌∙◌, append-nil, append_assoc, arith}
use Rattle.std.proofs.lemmas.List.{map-append, drop_more}
use Rattle.std.proofs.lemmas.List.Elements.{filter-append}
use Rattle.path_name.specs.Orders.{bytes_are_equal}
use Rattle.table_scan.specs.declared.types.PrefixRow.{PrefixRow}
use Rattle.class_paths.specs.declared.types.RouteKind.{RouteKind}
use Rattle.class_paths.specs.declared.types.RouteKind.TheVariants.{Psr4, Psr0}
use Rattle.class_paths.specs.declared.types.Route.{Route}
use Rattle.class_paths.specs.RowPath.{begins, path_below, row_path_of}
use Rattle.class_paths.specs.Candidates.{is_same_kind, of_kind, rows_at, rows_upto, candidates_of}
use Rattle.class_lookup.specs.Lookup.{routes_of_row, routes_of, psr4_candidates, psr0_candidates}
use Rattle.class_lookup.specs.Groups.{table_rows_at, group_at, in_folders, in_rows, in_groups}

-- ---- the paths of rows

abbrev made : RouteKind → List ℕ → List (List ℕ) → Route
made kind prefix folder = record { kind = kind; prefix = prefix; folder = folder }

abbrev paths : List ℕ → List Route → List (List (List ℕ))
paths name routes = map (λ route. row_path_of route name) routes

folder_paths : (kind : RouteKind) (prefix name : List ℕ) (folders : List (List (List ℕ))) → paths name (map (made kind prefix) folders) ≡ in_folders folders (path_below kind prefix name)
unfolding row_path_of
folder_paths kind prefix name [] = refl
folder_paths kind prefix name (folder ∷ folders) = ap (λ more. (folder ++ path_below kind prefix name) ∷ more) (folder_paths kind prefix name folders)

pub row_paths : (kind : RouteKind) (rows : List PrefixRow) (name : List ℕ) → paths name (routes_of kind rows) ≡ in_rows kind rows name
row_paths kind [] name = refl
row_paths kind (row ∷ rows) name =
    map-append (λ route. row_path_of route name) (routes_of_row kind row) (routes_of kind rows)
    ∙ ap (λ front. front ++ paths name (routes_of kind rows)) (folder_paths kind row.prefix name row.folders)
    ∙ ap (λ more. in_folders row.folders (path_below kind row.prefix name) ++ more) (row_paths kind rows name)

-- ---- a test of the prefix, before rows are parted into routes and afterwards

all_or_none : (p : Route → Bool) (kind : RouteKind) (prefix : List ℕ) (t : Bool) → ((folder : List (List ℕ)) → p (made kind prefix folder) ≡ t)
    → (folders : List (List (List ℕ))) → filter p (map (made kind prefix) folders) ≡ cond t (map (made kind prefix) folders) []
all_or_none p kind prefix true is [] = refl
all_or_none p kind prefix false is [] = refl
all_or_none p kind prefix true is (folder ∷ folders) = rw (is folder) (ap (λ more. made kind prefix folder ∷ more) (all_or_none p kind prefix true is folders))
all_or_none p kind prefix false is (folder ∷ folders) = rw (is folder) (all_or_none p kind prefix false is folders)

module _ (p : Route → Bool) (q : PrefixRow → Bool) (kind : RouteKind) (same : (row : PrefixRow) (folder : List (List ℕ)) → p (made kind row.prefix folder) ≡ q row) where
  one_row : (t : Bool) (row : PrefixRow) (rows : List PrefixRow) → q row ≡ t → cond t (map (made kind row.prefix) row.folders) [] ++ routes_of kind (filter q rows) ≡ routes_of kind (filter q (row ∷ rows))
  one_row true row rows e = rw e refl
  one_row false row rows e = rw e refl

  pub filtered_rows : (rows : List PrefixRow) → filter p (routes_of kind rows) ≡ routes_of kind (filter q rows)
  filtered_rows [] = refl
  filtered_rows (row ∷ rows) =
      filter-append p (routes_of_row kind row) (routes_of kind rows)
      ∙ ap (λ front. front ++ filter p (routes_of kind rows)) (all_or_none p kind row.prefix (q row) (same row) row.folders)
      ∙ ap (λ more. cond (q row) (map (made kind row.prefix) row.folders) [] ++ more) (filtered_rows rows)
      ∙ one_row (q row) row rows refl

all_pass : (rows : List PrefixRow) → filter (λ row. true) rows ≡ rows
all_pass [] = refl
all_pass (row ∷ rows) = ap (λ more. row ∷ more) (all_pass rows)

none_passes : (rows : List PrefixRow) → filter (λ row. false) rows ≡ []
none_passes [] = refl
none_passes (row ∷ rows) = none_passes rows

own_kind : (rows : List PrefixRow) → of_kind Psr4 (routes_of Psr4 rows) ≡ routes_of Psr4 rows
own_kind rows = filtered_rows (λ route. is_same_kind Psr4 route.kind) (λ row. true) Psr4 (λ row folder. refl) rows ∙ ap (routes_of Psr4) (all_pass rows)

other_kind : (rows : List PrefixRow) → of_kind Psr0 (routes_of Psr4 rows) ≡ []
other_kind rows = filtered_rows (λ route. is_same_kind Psr0 route.kind) (λ row. false) Psr4 (λ row folder. refl) rows ∙ ap (routes_of Psr4) (none_passes rows)

rows_of_length : (rows : List PrefixRow) (name : List ℕ) (len : ℕ) → rows_at (routes_of Psr4 rows) name len ≡ routes_of Psr4 (table_rows_at rows name len)
rows_of_length rows name len = filtered_rows (λ route. bytes_are_equal route.prefix (take len name)) (λ row. bytes_are_equal row.prefix (take len name)) Psr4 (λ row folder. refl) rows

-- ---- PSR-4

no_rows : (name : List ℕ) (len : ℕ) → rows_upto [] name len ≡ []
no_rows name zero = refl
no_rows name (suc len) = no_rows name len

paths_at : (rows : List PrefixRow) (name : List ℕ) (len : ℕ) → paths name (rows_at (routes_of Psr4 rows) name len) ≡ in_rows Psr4 (table_rows_at rows name len) name
paths_at rows name len = ap (paths name) (rows_of_length rows name len) ∙ row_paths Psr4 (table_rows_at rows name len) name

-- the paths of the groups below a number are those of the routes up to it
groups_upto : (groups : List (Vec (Bor PrefixRow) Global)) (rows : List PrefixRow) (name : List ℕ) (len : ℕ) → ((k : ℕ) → k ≤ len → group_at groups k ≡ table_rows_at rows name k)
    → in_groups groups name (suc len) ≡ paths name (rows_upto (routes_of Psr4 rows) name len)
groups_upto groups rows name zero each = append-nil _ ∙ ap (λ some. in_rows Psr4 some name) (each 0 (omega arith)) ∙ sym (paths_at rows name 0)
groups_upto groups rows name (suc len) each =
    ap (λ some. in_rows Psr4 some name ++ in_groups groups name (suc len)) (each (suc len) (omega arith))
    ∙ ap (λ more. in_rows Psr4 (table_rows_at rows name (suc len)) name ++ more) (groups_upto groups rows name len (λ k below. each k (omega (arith, below))))
    ∙ ap (λ front. front ++ paths name (rows_upto (routes_of Psr4 rows) name len)) (sym (paths_at rows name (suc len)))
    ∙ sym (map-append (λ route. row_path_of route name) (rows_at (routes_of Psr4 rows) name (suc len)) (rows_upto (routes_of Psr4 rows) name len))

pub same_candidates : (groups : List (Vec (Bor PrefixRow) Global)) (rows : List PrefixRow) (name : List ℕ) → ((k : ℕ) → k ≤ length name → group_at groups k ≡ table_rows_at rows name k)
    → in_groups groups name (suc (length name)) ≡ psr4_candidates rows name
unfolding candidates_of
same_candidates groups rows name each =
    groups_upto groups rows name (length name) each
    ∙ ap (paths name) (sym (rw (own_kind rows, other_kind rows, no_rows name (length name)) (append-nil (rows_upto (routes_of Psr4 rows) name (length name)))))

-- ---- PSR-0

begun_paths : (rows : List PrefixRow) (name : List ℕ) → psr0_candidates rows name ≡ in_rows Psr0 (filter (λ row. begins row.prefix name) rows) name
begun_paths rows name =
    ap (paths name) (filtered_rows (λ route. begins route.prefix name) (λ row. begins row.prefix name) Psr0 (λ row folder. refl) rows)
    ∙ row_paths Psr0 (filter (λ row. begins row.prefix name) rows) name

next_row : (t : Bool) (row : PrefixRow) (rows : List PrefixRow) (name : List ℕ) → begins row.prefix name ≡ t
    → in_rows Psr0 (filter (λ r. begins r.prefix name) (row ∷ rows)) name ≡ cond t (in_folders row.folders (path_below Psr0 row.prefix name)) [] ++ in_rows Psr0 (filter (λ r. begins r.prefix name) rows) name
next_row true row rows name e = rw e refl
next_row false row rows name e = rw e refl

-- the candidates of a row, and then of the rows behind it
pub row_in_front : (t : Bool) (row : PrefixRow) (rows : List PrefixRow) (name : List ℕ) → begins row.prefix name ≡ t
    → psr0_candidates (row ∷ rows) name ≡ cond t (in_folders row.folders (path_below Psr0 row.prefix name)) [] ++ psr0_candidates rows name
row_in_front t row rows name e =
    begun_paths (row ∷ rows) name ∙ next_row t row rows name e
    ∙ ap (λ more. cond t (in_folders row.folders (path_below Psr0 row.prefix name)) [] ++ more) (sym (begun_paths rows name))

-- the loop over rows goes one row on
pub row_step : (t : Bool) (rows : List PrefixRow) (i : ℕ) (row : PrefixRow) (name : List ℕ) (before new all : List (List (List ℕ))) → i < length rows → row ≡ get_or rows i row
    → begins row.prefix name ≡ t → new ≡ before ++ cond t (in_folders row.folders (path_below Psr0 row.prefix name)) []
    → before ++ psr0_candidates (drop i rows) name ≡ all → new ++ psr0_candidates (drop (i + 1) rows) name ≡ all
row_step t rows i row name before new all below at e more so_far =
    let rest = drop (i + 1) rows in
    let own = cond t (in_folders row.folders (path_below Psr0 row.prefix name)) [] in
    let cut : drop i rows ≡ row ∷ rest = drop_more rows i row below ∙ ap (λ (r : PrefixRow). r ∷ rest) (sym at) in
    ap (λ front. front ++ psr0_candidates rest name) more ∙ append_assoc before own (psr0_candidates rest name)
    ∙ ap (λ back. before ++ back) (sym (row_in_front t row rest name e) ∙ ap (λ some. psr0_candidates some name) (sym cut)) ∙ so_far
