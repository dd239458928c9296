-- Rows that were brought together lead a class to the same first file.
use Rattle.std.proofs.Common.{◌≡◌, ℕ, zero, suc, Bool, true, false, not, ◌&&◌, ◌||◌, cond, List, [], ◌∷◌, ◌++◌, take, map, Some, refl, sym, ap, ◌∙◌, append-nil}
use Rattle.std.specs.Prelude.{filter, find}
use Rattle.std.specs.List.{AllByRecursion, flat_map, list_any}
use Rattle.std.specs.Option.{option_or}
use Rattle.std.specs.Ordering.{is_eq, is_lt}
use Rattle.std.specs.declared.cmp.Ordering.{Ordering}
use Rattle.std.specs.declared.cmp.Ordering.TheVariants.{Less, Equal, Greater}
use Rattle.std.proofs.lemmas.List.{map-append}
use Rattle.path_name.specs.Orders.{byte_equality, bytes_are_equal, path_cmp, path_cmp_exact, path_ties, paths_are_equal}
use Rattle.class_paths.specs.Candidates.{is_of, is_same_kind, of_kind, rows_at, rows_upto}
use Rattle.class_paths.specs.RowPath.{path_below, row_path_of}
use Rattle.class_paths.specs.declared.types.Route.{Route}
use Rattle.class_paths.specs.declared.types.RouteKind.{RouteKind}
use Rattle.class_paths.specs.declared.types.RouteKind.TheVariants.{Psr4, Psr0}
use Rattle.autoload_build.specs.Jobs.{falls, falling}
use Rattle.autoload_build.specs.BuiltTables.{first_of_each, folders_of}
use Rattle.autoload_build.proofs.FallingKeys.{falls_total, tied}
use Rattle.autoload_build.proofs.KeyGroups.{Ascends, all_append, all_weaker, each_ascends, each_has, equal_bytes, kept_append, kept_none, kept_twice, level_rises, none_equal, rises_append, turned}
use Rattle.autoload_build.proofs.StableSort.{Rises}

equal_paths : (one other : List (List ℕ)) → paths_are_equal one other ≡ true → one ≡ other
equal_paths one other e = path_cmp_exact one other (equal (path_cmp one other) (sym (path_ties one other) ∙ e))
  where
    equal : (r : Ordering) → is_eq r ≡ true → r ≡ Equal
    equal Less h = absurd cc
    equal Equal h = refl
    equal Greater h = absurd cc

-- ---- the first that is found

module _ {X : Type 0} where
  pub found_in_front : (f : X → Bool) (xs ys : List X) → find f (xs ++ ys) ≡ option_or (find f xs) (find f ys)
  found_in_front f [] ys = refl
  found_in_front f (x ∷ xs) ys = by (f x) (found_in_front f xs ys)
    where
      by : (b : Bool) → find f (xs ++ ys) ≡ option_or (find f xs) (find f ys) → cond b (Some x) (find f (xs ++ ys)) ≡ option_or (cond b (Some x) (find f xs)) (find f ys)
      by true e = refl
      by false e = e

module _ {X Y : Type 0} (same : X → X → Bool) (exact : (x y : X) → same x y ≡ true → x ≡ y) (f : Y → Bool) (g : X → Y) where
  -- items that equal one at which nothing is found may be left out
  found_without : (x : X) (xs : List X) → f (g x) ≡ false → find f (map g (filter (λ y. not (same x y)) xs)) ≡ find f (map g xs)
  found_without x [] none = refl
  found_without x (y ∷ xs) none = by (same x y) refl (found_without x xs none)
    where
      rest : List X
      rest = filter (λ y. not (same x y)) xs

      by : (b : Bool) → same x y ≡ b → find f (map g rest) ≡ find f (map g xs) → find f (map g (cond (not b) (y ∷ rest) rest)) ≡ cond (f (g y)) (Some (g y)) (find f (map g xs))
      by true e more =
          let fails : f (g y) ≡ false = ap (λ z. f (g z)) (sym (exact x y e)) ∙ none in
          rw fails more
      by false e more = ap (cond (f (g y)) (Some (g y))) more

  pub found_once : (xs : List X) → find f (map g (first_of_each same xs)) ≡ find f (map g xs)
  found_once [] = refl
  found_once (x ∷ xs) = by (f (g x)) refl (found_once xs)
    where
      kept : List X
      kept = filter (λ y. not (same x y)) (first_of_each same xs)

      by : (b : Bool) → f (g x) ≡ b → find f (map g (first_of_each same xs)) ≡ find f (map g xs) → cond b (Some (g x)) (find f (map g kept)) ≡ cond b (Some (g x)) (find f (map g xs))
      by true e more = refl
      by false e more = ap (cond false (Some (g x))) (found_without x (first_of_each same xs) e ∙ more)

-- ---- rows of one kind, brought together

module _ (kind : RouteKind) (rows : List Route) where
  abbrev pub row_to : List ℕ → List (List ℕ) → Route
  row_to prefix folder = record { kind = kind; prefix = prefix; folder = folder }

  abbrev pub rows_to : List ℕ → List Route
  rows_to prefix = map (row_to prefix) (folders_of kind rows prefix)

  abbrev pub merged : List (List ℕ) → List Route
  merged prefixes = flat_map rows_to prefixes

  -- each row of a prefix has it
  of_prefix : (prefix : List ℕ) (folders : List (List (List ℕ))) → AllByRecursion (λ row. row.prefix ≡ prefix) (map (row_to prefix) folders)
  of_prefix prefix [] = tt
  of_prefix prefix (folder ∷ folders) = (refl, of_prefix prefix folders)

  all_kept : (prefix : List ℕ) (folders : List (List (List ℕ))) → filter (λ row. bytes_are_equal row.prefix prefix) (map (row_to prefix) folders) ≡ map (row_to prefix) folders
  all_kept prefix [] = refl
  all_kept prefix (folder ∷ folders) = rw (byte_equality.refl prefix) (ap (λ list. row_to prefix folder ∷ list) (all_kept prefix folders))

  none_kept : (prefix other : List ℕ) (folders : List (List (List ℕ))) → bytes_are_equal prefix other ≡ false → filter (λ row. bytes_are_equal row.prefix prefix) (map (row_to other) folders) ≡ []
  none_kept prefix other folders e = kept_none (λ row. bytes_are_equal row.prefix prefix) (map (row_to other) folders)
      (all_weaker (λ row. row.prefix ≡ other) (λ row. bytes_are_equal row.prefix prefix ≡ false) (λ row g. ap (λ k. bytes_are_equal k prefix) g ∙ byte_equality.symm other prefix ∙ e) (map (row_to other) folders) (of_prefix other folders))

  kept_merged : (prefix : List ℕ) (prefixes : List (List ℕ)) → Ascends falls falls_total tied prefixes → filter (λ row. bytes_are_equal row.prefix prefix) (merged prefixes) ≡ cond (list_any (bytes_are_equal prefix) prefixes) (rows_to prefix) []
  kept_merged prefix [] h = refl
  kept_merged prefix (other ∷ prefixes) h = kept_append (λ row. bytes_are_equal row.prefix prefix) (rows_to other) (merged prefixes) ∙ by (bytes_are_equal prefix other) refl (kept_merged prefix prefixes h.1)
    where
      rest : List Route
      rest = filter (λ row. bytes_are_equal row.prefix prefix) (merged prefixes)

      by : (b : Bool) → bytes_are_equal prefix other ≡ b → rest ≡ cond (list_any (bytes_are_equal prefix) prefixes) (rows_to prefix) []
          → filter (λ row. bytes_are_equal row.prefix prefix) (rows_to other) ++ rest ≡ cond (b || list_any (bytes_are_equal prefix) prefixes) (rows_to prefix) []
      by true e f =
          let same : prefix ≡ other = equal_bytes prefix other e in
          let last : rest ≡ [] = f ∙ ap (λ b. cond b (rows_to prefix) []) (ap (λ t. list_any (bytes_are_equal t) prefixes) same ∙ none_equal falls falls_total tied other prefixes h.0) in
          let own : filter (λ row. bytes_are_equal row.prefix prefix) (rows_to other) ≡ rows_to prefix = ap (λ t. filter (λ row. bytes_are_equal row.prefix prefix) (rows_to t)) (sym same) ∙ all_kept prefix (folders_of kind rows prefix) in
          rw last (rw own (append-nil _))
      by false e f = ap (λ list. list ++ rest) (none_kept prefix other (folders_of kind rows other) e) ∙ f

  prefixes_of_kind : List (List ℕ)
  prefixes_of_kind = falling (map (λ row. row.prefix) (of_kind kind rows))

  no_prefix : (some : List Route) (prefix : List ℕ) → list_any (bytes_are_equal prefix) (map (λ row. row.prefix) some) ≡ false → filter (λ row. bytes_are_equal row.prefix prefix) some ≡ []
  no_prefix [] prefix e = refl
  no_prefix (row ∷ some) prefix e = by (bytes_are_equal prefix row.prefix) refl (no_prefix some prefix)
    where
      by : (b : Bool) → bytes_are_equal prefix row.prefix ≡ b → (list_any (bytes_are_equal prefix) (map (λ row. row.prefix) some) ≡ false → filter (λ row. bytes_are_equal row.prefix prefix) some ≡ [])
          → cond (bytes_are_equal row.prefix prefix) (row ∷ filter (λ row. bytes_are_equal row.prefix prefix) some) (filter (λ row. bytes_are_equal row.prefix prefix) some) ≡ []
      by true f later =
          let both : true ≡ false = sym (ap (λ b. b || list_any (bytes_are_equal prefix) (map (λ row. row.prefix) some)) f) ∙ e in
          absurd cc
      by false f later = rw (byte_equality.symm row.prefix prefix ∙ f) (later (sym (ap (λ b. b || list_any (bytes_are_equal prefix) (map (λ row. row.prefix) some)) f) ∙ e))

  at_prefix : (prefix : List ℕ) → filter (λ row. bytes_are_equal row.prefix prefix) (of_kind kind rows) ≡ filter (is_of kind prefix) rows
  at_prefix prefix = kept_twice (λ row. is_same_kind kind row.kind) (λ row. bytes_are_equal row.prefix prefix) (is_of kind prefix) (λ row. refl) rows

  abbrev pub merged_rows : List Route
  merged_rows = merged (falling (map (λ row. row.prefix) (of_kind kind rows)))

  pub falls_merged : Ascends falls falls_total tied (falling (map (λ row. row.prefix) (of_kind kind rows)))
  unfolding falling
  falls_merged = each_ascends falls falls_total tied (map (λ row. row.prefix) (of_kind kind rows))

  has_merged : (prefix : List ℕ) → list_any (bytes_are_equal prefix) (falling (map (λ row. row.prefix) (of_kind kind rows))) ≡ list_any (bytes_are_equal prefix) (map (λ row. row.prefix) (of_kind kind rows))
  unfolding falling
  has_merged prefix = each_has falls falls_total tied (map (λ row. row.prefix) (of_kind kind rows)) prefix

  -- the merged rows of a prefix
  pub merged_of : (prefix : List ℕ) → filter (λ row. bytes_are_equal row.prefix prefix) merged_rows ≡ rows_to prefix
  merged_of prefix = kept_merged prefix (falling (map (λ row. row.prefix) (of_kind kind rows))) falls_merged ∙ ap (λ b. cond b (rows_to prefix) []) (has_merged prefix) ∙ by (list_any (bytes_are_equal prefix) (map (λ row. row.prefix) (of_kind kind rows))) refl
    where
      by : (b : Bool) → list_any (bytes_are_equal prefix) (map (λ row. row.prefix) (of_kind kind rows)) ≡ b → cond b (rows_to prefix) [] ≡ rows_to prefix
      by true e = refl
      by false e = ap (λ list. map (row_to prefix) (first_of_each paths_are_equal (map (λ row. row.folder) list))) (sym (sym (at_prefix prefix) ∙ no_prefix (of_kind kind rows) prefix e))

  abbrev pub by_row_prefix : Route → Route → Bool
  by_row_prefix one other = is_lt (falls one.prefix other.prefix)

  rows_below : (prefix : List ℕ) (prefixes : List (List ℕ)) → AllByRecursion (λ other. falls prefix other ≡ Less) prefixes → AllByRecursion (λ row. falls prefix row.prefix ≡ Less) (merged prefixes)
  rows_below prefix [] h = tt
  rows_below prefix (other ∷ prefixes) h =
      all_append (λ row. falls prefix row.prefix ≡ Less) (rows_to other) (merged prefixes)
      (all_weaker (λ row. row.prefix ≡ other) (λ row. falls prefix row.prefix ≡ Less) (λ row e. ap (falls prefix) e ∙ h.0) (rows_to other) (of_prefix other (folders_of kind rows other)))
      (rows_below prefix prefixes h.1)

  merged_rise : (prefixes : List (List ℕ)) → Ascends falls falls_total tied prefixes → Rises by_row_prefix (merged prefixes)
  merged_rise [] h = tt
  merged_rise (prefix ∷ prefixes) h =
      let own = of_prefix prefix (folders_of kind rows prefix) in
      rises_append falls falls_total tied (λ (row : Route). row.prefix) (rows_to prefix) (merged prefixes) (level_rises falls falls_total tied (λ (row : Route). row.prefix) prefix (rows_to prefix) own) (merged_rise prefixes h.1)
      (all_weaker (λ row. row.prefix ≡ prefix) (λ row. AllByRecursion (λ other. by_row_prefix other row ≡ false) (merged prefixes))
      (λ row e. all_weaker (λ other. falls prefix other.prefix ≡ Less) (λ other. by_row_prefix other row ≡ false) (λ other below. ap (λ k. is_lt (falls other.prefix k)) e ∙ turned falls falls_total tied prefix other.prefix below) (merged prefixes) (rows_below prefix prefixes h.0))
      (rows_to prefix) own)

  -- the merged rows stand by falling prefixes
  pub merged_rows_rise : Rises by_row_prefix merged_rows
  merged_rows_rise = merged_rise (falling (map (λ row. row.prefix) (of_kind kind rows))) falls_merged

  all_of_kind : (some : List (List ℕ)) → of_kind kind (merged some) ≡ merged some
  all_of_kind [] = refl
  all_of_kind (prefix ∷ some) = kept_append (λ row. is_same_kind kind row.kind) (rows_to prefix) (merged some) ∙ ap (λ list. list ++ of_kind kind (merged some)) (each (folders_of kind rows prefix)) ∙ ap (λ list. rows_to prefix ++ list) (all_of_kind some)
    where
      itself : (k : RouteKind) → is_same_kind k k ≡ true
      itself Psr4 = refl
      itself Psr0 = refl

      each : (folders : List (List (List ℕ))) → filter (λ row. is_same_kind kind row.kind) (map (row_to prefix) folders) ≡ map (row_to prefix) folders
      each [] = refl
      each (folder ∷ folders) = rw (itself kind) (ap (λ list. row_to prefix folder ∷ list) (each folders))

  none_of_kind : (other : RouteKind) → is_same_kind other kind ≡ false → (some : List (List ℕ)) → of_kind other (merged some) ≡ []
  none_of_kind other apart [] = refl
  none_of_kind other apart (prefix ∷ some) = kept_append (λ row. is_same_kind other row.kind) (rows_to prefix) (merged some) ∙ ap (λ list. list ++ of_kind other (merged some)) (each (folders_of kind rows prefix)) ∙ none_of_kind other apart some
    where
      each : (folders : List (List (List ℕ))) → filter (λ row. is_same_kind other row.kind) (map (row_to prefix) folders) ≡ []
      each [] = refl
      each (folder ∷ folders) = rw apart (each folders)

  pub own_kind : of_kind kind merged_rows ≡ merged_rows
  own_kind = all_of_kind (falling (map (λ row. row.prefix) (of_kind kind rows)))

  pub other_kind : (other : RouteKind) → is_same_kind other kind ≡ false → of_kind other merged_rows ≡ []
  other_kind other apart = none_of_kind other apart (falling (map (λ row. row.prefix) (of_kind kind rows)))

  module _ (name : List ℕ) (is_file : List (List ℕ) → Bool) where
    abbrev paths : List Route → List (List (List ℕ))
    paths some = map (λ row. row_path_of row name) some

    below : List ℕ → List (List ℕ) → List (List ℕ)
    below prefix folder = folder ++ path_below kind prefix name

    paths_to : (prefix : List ℕ) (folders : List (List (List ℕ))) → paths (map (row_to prefix) folders) ≡ map (below prefix) folders
    unfolding row_path_of below
    paths_to prefix [] = refl
    paths_to prefix (folder ∷ folders) = ap (λ list. (folder ++ path_below kind prefix name) ∷ list) (paths_to prefix folders)

    same_kind : (one other : RouteKind) → is_same_kind one other ≡ true → one ≡ other
    same_kind Psr4 Psr4 e = refl
    same_kind Psr4 Psr0 e = absurd cc
    same_kind Psr0 Psr4 e = absurd cc
    same_kind Psr0 Psr0 e = refl

    both : (a b : Bool) → (a && b) ≡ true → (a ≡ true) × (b ≡ true)
    both true b e = (refl, e)
    both false b e = absurd cc

    paths_of : (prefix : List ℕ) (some : List Route) → paths (filter (is_of kind prefix) some) ≡ map (below prefix) (map (λ row. row.folder) (filter (is_of kind prefix) some))
    unfolding row_path_of below
    paths_of prefix [] = refl
    paths_of prefix (row ∷ some) = by (is_of kind prefix row) refl (paths_of prefix some)
      where
        rest : List Route
        rest = filter (is_of kind prefix) some

        by : (b : Bool) → is_of kind prefix row ≡ b → map (λ row. row.folder ++ path_below row.kind row.prefix name) rest ≡ map (λ folder. folder ++ path_below kind prefix name) (map (λ row. row.folder) rest)
            → map (λ row. row.folder ++ path_below row.kind row.prefix name) (cond b (row ∷ rest) rest) ≡ map (λ folder. folder ++ path_below kind prefix name) (map (λ row. row.folder) (cond b (row ∷ rest) rest))
        by true e more =
            let parts = both (is_same_kind kind row.kind) (bytes_are_equal row.prefix prefix) e in
            ap (λ path. (row.folder ++ path) ∷ map (λ row. row.folder ++ path_below row.kind row.prefix name) rest) (ap (λ k. path_below k row.prefix name) (sym (same_kind kind row.kind parts.0)) ∙ ap (λ t. path_below kind t name) (equal_bytes row.prefix prefix parts.1))
            ∙ ap (λ list. (row.folder ++ path_below kind prefix name) ∷ list) more
        by false e more = more

    -- those of a prefix lead to the same first file
    found_at : (prefix : List ℕ) → find is_file (paths (filter (λ row. bytes_are_equal row.prefix prefix) merged_rows)) ≡ find is_file (paths (filter (λ row. bytes_are_equal row.prefix prefix) (of_kind kind rows)))
    found_at prefix =
        ap (λ some. find is_file (paths some)) (merged_of prefix) ∙ ap (find is_file) (paths_to prefix (folders_of kind rows prefix))
        ∙ found_once paths_are_equal equal_paths is_file (below prefix) (map (λ row. row.folder) (filter (is_of kind prefix) rows))
        ∙ ap (find is_file) (sym (paths_of prefix rows)) ∙ ap (λ some. find is_file (paths some)) (sym (at_prefix prefix))

    -- and so do those of all prefixes of the name
    pub found_upto : (len : ℕ) → find is_file (paths (rows_upto merged_rows name len)) ≡ find is_file (paths (rows_upto (of_kind kind rows) name len))
    found_upto zero = found_at (take zero name)
    found_upto (suc len) =
        ap (find is_file) (map-append (λ row. row_path_of row name) (rows_at merged_rows name (suc len)) (rows_upto merged_rows name len))
        ∙ found_in_front is_file (paths (rows_at merged_rows name (suc len))) (paths (rows_upto merged_rows name len))
        ∙ ap (λ first. option_or first (find is_file (paths (rows_upto merged_rows name len)))) (found_at (take (suc len) name))
        ∙ ap (option_or (find is_file (paths (rows_at (of_kind kind rows) name (suc len))))) (found_upto len)
        ∙ sym (found_in_front is_file (paths (rows_at (of_kind kind rows) name (suc len))) (paths (rows_upto (of_kind kind rows) name len)))
        ∙ ap (find is_file) (sym (map-append (λ row. row_path_of row name) (rows_at (of_kind kind rows) name (suc len)) (rows_upto (of_kind kind rows) name len)))
