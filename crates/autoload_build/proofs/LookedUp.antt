-- What tables that were built open.
use Rattle.std.proofs.Common.{◌≡◌, ℕ, zero, suc, Bool, true, false, cond, List, [], ◌∷◌, ◌++◌, length, map, Option, Some, None, inl, inr, refl, sym, ap, ◌∙◌, append-nil}
use Rattle.std.specs.Prelude.{find, ◌⊎◌}
use Rattle.std.specs.FinMap.{entries, from_entries, get-entries, get-from_entries}
use Rattle.std.specs.FinMap.Entries as maps
use Rattle.std.specs.List.{flat_map}
use Rattle.std.specs.Option.{is_some, option_map, option_or}
use Rattle.std.specs.Ordering.{eq_by_cmp}
use Rattle.std.proofs.lemmas.List.{map-append}
use Rattle.std.proofs.lemmas.List.Concat.{flat_map-append}
use Rattle.path_name.specs.Orders.{byte_cmp, byte_cmp_total, byte_equality, byte_ties, bytes_are_equal}
use Rattle.class_paths.specs.Candidates.{candidates_of, of_kind, rows_for, rows_upto, tried_rows}
use Rattle.class_paths.specs.RowPath.{row_path_of}
use Rattle.class_paths.specs.Search.{Listed, found_file, listed_file, search_file}
use Rattle.class_paths.specs.declared.types.Route.{Route}
use Rattle.class_paths.specs.declared.types.RouteKind.{RouteKind}
use Rattle.class_paths.specs.declared.types.RouteKind.TheVariants.{Psr4, Psr0}
use Rattle.class_walk.specs.declared.job.Scanned.{Scanned}
use Rattle.class_lookup.specs.Lookup.{candidates_in, lookup_in, mapped_row, psr0_candidates, psr4_candidates, routes_of}
use Rattle.table_scan.specs.declared.types.ClassRow.{ClassRow}
use Rattle.table_scan.specs.declared.types.Mode.TheVariants.{Plain, Optimised, Authoritative}
use Rattle.autoload_build.specs.Jobs.{Project, falling, rows}
use Rattle.autoload_build.specs.BuiltTables.{class_map_of, class_row, classes_in, classes_of, first_files, folders_of, prefix_table, tables_of}
use Rattle.autoload_build.proofs.MergedRows.{found_in_front, found_upto, merged_rows, merged_rows_rise, other_kind, own_kind, rows_to}
use Rattle.autoload_build.proofs.OrderedRows.{as_they_stand}

-- ---- the class map

same_test : (name class : List ℕ) → bytes_are_equal class name ≡ eq_by_cmp byte_cmp name class
same_test name class = byte_equality.symm class name ∙ byte_ties name class

listed_is : (listed : List Listed) (name : List ℕ) → listed_file listed name ≡ maps.find byte_cmp name listed
listed_is [] name = refl
listed_is (one ∷ listed) name = by (bytes_are_equal one.0 name) refl (listed_is listed name)
  where
    by : (b : Bool) → bytes_are_equal one.0 name ≡ b → option_map (λ (entry : Listed). entry.1) (find (λ entry. bytes_are_equal entry.0 name) listed) ≡ maps.find byte_cmp name listed
        → option_map (λ (entry : Listed). entry.1) (cond b (Some one) (find (λ entry. bytes_are_equal entry.0 name) listed)) ≡ cond (eq_by_cmp byte_cmp name one.0) (Some one.1) (maps.find byte_cmp name listed)
    by true e more = rw (sym (same_test name one.0) ∙ e) refl
    by false e more = rw (sym (same_test name one.0) ∙ e) more

mapped_is : (listed : List Listed) (name : List ℕ) → option_map (λ row. row.path) (mapped_row (map class_row listed) name) ≡ listed_file listed name
mapped_is [] name = refl
mapped_is (one ∷ listed) name = by (bytes_are_equal one.0 name) (mapped_is listed name)
  where
    by : (b : Bool) → option_map (λ (row : ClassRow). row.path) (find (λ row. bytes_are_equal row.class name) (map class_row listed)) ≡ option_map (λ (entry : Listed). entry.1) (find (λ entry. bytes_are_equal entry.0 name) listed)
        → option_map (λ (row : ClassRow). row.path) (cond b (Some (class_row one)) (find (λ row. bytes_are_equal row.class name) (map class_row listed))) ≡ option_map (λ (entry : Listed). entry.1) (cond b (Some one) (find (λ entry. bytes_are_equal entry.0 name) listed))
    by true more = refl
    by false more = more

pub first_file : (listed : List Listed) (name : List ℕ) → option_map (λ row. row.path) (mapped_row (class_map_of listed) name) ≡ listed_file listed name
unfolding class_map_of first_files
first_file listed name =
    mapped_is (entries (from_entries {R = byte_cmp} listed)) name ∙ listed_is (entries (from_entries {R = byte_cmp} listed)) name
    ∙ sym (get-entries (from_entries {R = byte_cmp} listed) name) ∙ get-from_entries byte_cmp_total listed name ∙ sym (listed_is listed name)

-- ---- rows

routes_merged : (kind : RouteKind) (routes : List Route) (prefixes : List (List ℕ)) → routes_of kind (map (λ prefix. record { prefix = prefix; folders = folders_of kind routes prefix }) prefixes) ≡ flat_map (rows_to kind routes) prefixes
routes_merged kind routes [] = refl
routes_merged kind routes (prefix ∷ prefixes) = ap (λ list. rows_to kind routes prefix ++ list) (routes_merged kind routes prefixes)

table_routes : (kind : RouteKind) (routes : List Route) → routes_of kind (prefix_table kind routes) ≡ merged_rows kind routes
unfolding prefix_table
table_routes kind routes = routes_merged kind routes (falling (map (λ row. row.prefix) (of_kind kind routes)))

no_rows : (name : List ℕ) (len : ℕ) → rows_upto [] name len ≡ []
no_rows name zero = refl
no_rows name (suc len) = no_rows name len

module _ (routes : List Route) (is_file : List (List ℕ) → Bool) (name : List ℕ) where
  abbrev paths : List Route → List (List (List ℕ))
  paths some = map (λ row. row_path_of row name) some

  found_psr4 : find is_file (psr4_candidates (prefix_table Psr4 routes) name) ≡ find is_file (paths (rows_upto (of_kind Psr4 routes) name (length name)))
  unfolding candidates_of
  found_psr4 =
      ap (λ some. find is_file (paths (tried_rows some name))) (table_routes Psr4 routes)
      ∙ ap (λ some. find is_file (paths (rows_upto some name (length name) ++ rows_upto (of_kind Psr0 (merged_rows Psr4 routes)) name (length name)))) (own_kind Psr4 routes)
      ∙ ap (λ some. find is_file (paths (rows_upto (merged_rows Psr4 routes) name (length name) ++ rows_upto some name (length name)))) (other_kind Psr4 routes Psr0 refl)
      ∙ ap (λ some. find is_file (paths (rows_upto (merged_rows Psr4 routes) name (length name) ++ some))) (no_rows name (length name))
      ∙ ap (λ some. find is_file (paths some)) (append-nil (rows_upto (merged_rows Psr4 routes) name (length name)))
      ∙ found_upto Psr4 routes name is_file (length name)

  found_psr0 : find is_file (psr0_candidates (prefix_table Psr0 routes) name) ≡ find is_file (paths (rows_upto (of_kind Psr0 routes) name (length name)))
  found_psr0 =
      ap (λ some. find is_file (paths (rows_for some name))) (table_routes Psr0 routes)
      ∙ ap (λ some. find is_file (paths some)) (sym (as_they_stand name (merged_rows Psr0 routes) (merged_rows_rise Psr0 routes)))
      ∙ found_upto Psr0 routes name is_file (length name)

  pub found_same : find is_file (psr4_candidates (prefix_table Psr4 routes) name ++ psr0_candidates (prefix_table Psr0 routes) name) ≡ found_file is_file routes name
  unfolding candidates_of
  found_same =
      let first = rows_upto (of_kind Psr4 routes) name (length name) in
      let second = rows_upto (of_kind Psr0 routes) name (length name) in
      found_in_front is_file (psr4_candidates (prefix_table Psr4 routes) name) (psr0_candidates (prefix_table Psr0 routes) name)
      ∙ ap (λ found. option_or found (find is_file (psr0_candidates (prefix_table Psr0 routes) name))) found_psr4
      ∙ ap (option_or (find is_file (paths first))) found_psr0
      ∙ sym (found_in_front is_file (paths first) (paths second))
      ∙ ap (find is_file) (sym (map-append (λ row. row_path_of row name) first second))

-- ---- plain tables, and classes that are listed or not found

module _ (p : Project) (generation : ℕ) (is_file : List (List ℕ) → Bool) (name : List ℕ) where
  pub plain : (listed : List Scanned) → lookup_in (tables_of p Plain generation listed) is_file name ≡ search_file is_file (rows p) (classes_of listed) name
  unfolding lookup_in candidates_in tables_of search_file
  plain listed =
      ap (λ found. option_or found (find is_file (psr4_candidates (prefix_table Psr4 (rows p)) name ++ psr0_candidates (prefix_table Psr0 (rows p)) name))) (first_file (classes_of listed) name)
      ∙ ap (option_or (listed_file (classes_of listed) name)) (found_same (rows p) is_file name)

  -- the same with the class map of listed classes and of those behind them
  pub optimised : (found : List Scanned) → lookup_in (tables_of p Optimised generation found) is_file name ≡ option_or (listed_file (classes_of found) name) (found_file is_file (rows p) name)
  unfolding lookup_in candidates_in tables_of
  optimised found =
      ap (λ one. option_or one (find is_file (psr4_candidates (prefix_table Psr4 (rows p)) name ++ psr0_candidates (prefix_table Psr0 (rows p)) name))) (first_file (classes_of found) name)
      ∙ ap (option_or (listed_file (classes_of found) name)) (found_same (rows p) is_file name)

module _ (p : Project) (generation : ℕ) (found : List Scanned) (is_file : List (List ℕ) → Bool) (name : List ℕ) where
  -- the class map alone
  pub authoritative : lookup_in (tables_of p Authoritative generation found) is_file name ≡ listed_file (classes_of found) name
  unfolding lookup_in tables_of
  authoritative = ap (λ one. option_or one None) (first_file (classes_of found) name) ∙ alone (listed_file (classes_of found) name)
    where
      alone : (one : Option (List (List ℕ))) → option_or one None ≡ one
      alone None = refl
      alone (Some path) = refl

  pub same_mapped : is_some (listed_file (classes_of found) name) ≡ true → lookup_in (tables_of p Authoritative generation found) is_file name ≡ lookup_in (tables_of p Optimised generation found) is_file name
  same_mapped some = authoritative ∙ by (listed_file (classes_of found) name) some ∙ sym (optimised p generation is_file name found)
    where
      by : (one : Option (List (List ℕ))) → is_some one ≡ true → one ≡ option_or one (found_file is_file (rows p) name)
      by None e = absurd cc
      by (Some path) e = refl

pub listed_in_front : (listed walked : List Listed) (name : List ℕ) → listed_file (listed ++ walked) name ≡ option_or (listed_file listed name) (listed_file walked name)
listed_in_front listed walked name = ap (option_map (λ (entry : Listed). entry.1)) (found_in_front (λ (entry : Listed). bytes_are_equal entry.0 name) listed walked) ∙ by (find (λ (entry : Listed). bytes_are_equal entry.0 name) listed)
  where
    by : (found : Option Listed) → option_map (λ (entry : Listed). entry.1) (option_or found (find (λ (entry : Listed). bytes_are_equal entry.0 name) walked))
        ≡ option_or (option_map (λ (entry : Listed). entry.1) found) (option_map (λ (entry : Listed). entry.1) (find (λ (entry : Listed). bytes_are_equal entry.0 name) walked))
    by None = refl
    by (Some one) = refl

pub classes_in_front : (listed walked : List Scanned) → classes_of (listed ++ walked) ≡ classes_of listed ++ classes_of walked
unfolding classes_of
classes_in_front listed walked = flat_map-append classes_in listed walked

module _ (p : Project) (generation : ℕ) (listed walked : List Scanned) (is_file : List (List ℕ) → Bool) (name : List ℕ) where
  -- of both parts the listed one comes first
  pub both_parts : lookup_in (tables_of p Optimised generation (listed ++ walked)) is_file name ≡ option_or (option_or (listed_file (classes_of listed) name) (listed_file (classes_of walked) name)) (found_file is_file (rows p) name)
  both_parts = optimised p generation is_file name (listed ++ walked)
      ∙ ap (λ found. option_or found (found_file is_file (rows p) name)) (ap (λ all. listed_file all name) (classes_in_front listed walked) ∙ listed_in_front (classes_of listed) (classes_of walked) name)

  pub listed_or_not_found : (is_some (listed_file (classes_of listed) name) ≡ true) ⊎ (listed_file (classes_of walked) name ≡ None)
      → lookup_in (tables_of p Optimised generation (listed ++ walked)) is_file name ≡ search_file is_file (rows p) (classes_of listed) name
  unfolding search_file
  listed_or_not_found (inl some) = both_parts ∙ by (listed_file (classes_of listed) name) some
    where
      by : (found : Option (List (List ℕ))) → is_some found ≡ true → option_or (option_or found (listed_file (classes_of walked) name)) (found_file is_file (rows p) name) ≡ option_or found (found_file is_file (rows p) name)
      by None e = absurd cc
      by (Some path) e = refl
  listed_or_not_found (inr none) = both_parts ∙ ap (λ later. option_or (option_or (listed_file (classes_of listed) name) later) (found_file is_file (rows p) name)) none ∙ by (listed_file (classes_of listed) name)
    where
      by : (found : Option (List (List ℕ))) → option_or (option_or found None) (found_file is_file (rows p) name) ≡ option_or found (found_file is_file (rows p) name)
      by None = refl
      by (Some path) = refl
