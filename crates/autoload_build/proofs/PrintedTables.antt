-- What a printer of tables asks of those that were built.
use Rattle.std.proofs.Common.{◌≡◌, ◌≢◌, ℕ, zero, suc, ◌-◌, ◌<◌, Bool, true, false, not, ◌||◌, cond, List, [], ◌∷◌, length, get_or, map, refl, sym, ap, subst, ◌∙◌, arith}
use Rattle.std.specs.Prelude.{filter, IsTrue, All, slice_get}
use Rattle.std.specs.FinMap.{entries, entries_sorted, from_entries}
use Rattle.std.specs.List.{AllByRecursion, AllPairs, IsDistinct, list_any}
use Rattle.std.specs.Ordering.{eq_by_cmp}
use Rattle.std.specs.declared.cmp.Ordering.TheVariants.{Less}
use Rattle.std.proofs.lemmas.List.Elements.{All-from_recursion, recursion_from_All}
use Rattle.path_name.specs.Orders.{byte_cmp, byte_cmp_total, byte_equality, byte_ties, bytes_are_equal, paths_are_equal}
use Rattle.class_paths.specs.Candidates.{is_of, is_same_kind, of_kind}
use Rattle.class_paths.specs.Prefixes.{is_end_of_prefix, is_psr4_prefix}
use Rattle.class_paths.specs.RowPath.{is_route_prefix}
use Rattle.class_paths.specs.Search.{Listed}
use Rattle.class_paths.specs.declared.types.Route.{Route}
use Rattle.class_paths.specs.declared.types.RouteKind.{RouteKind}
use Rattle.class_paths.specs.declared.types.RouteKind.TheVariants.{Psr4, Psr0}
use Rattle.table_scan.specs.DistinctKeys.{id_of}
use Rattle.table_scan.specs.TableFaults.{class_of, prefix_of}
use Rattle.table_scan.specs.TableGrammar.{is_whole}
use Rattle.table_scan.specs.declared.types.ClassRow.{ClassRow}
use Rattle.table_scan.specs.declared.types.FileRow.{FileRow}
use Rattle.table_scan.specs.declared.types.PrefixRow.{PrefixRow}
use Rattle.autoload_build.specs.Jobs.{Project, falls, falling}
use Rattle.autoload_build.specs.BuiltTables.{class_map_of, class_row, file_table, first_files, first_of_each, folders_of, prefix_table}
use Rattle.autoload_build.specs.Steps.{has_same_id}
use Rattle.autoload_build.proofs.FallingKeys.{falls_total, tied}
use Rattle.autoload_build.proofs.GroupRuns.{are_keys}
use Rattle.autoload_build.proofs.KeyGroups.{Ascends, all_weaker, equal_bytes, keys_ascend, kept_twice, not_less}
use Rattle.autoload_build.proofs.MergedRows.{falls_merged}

-- ---- keys are distinct

distinct : (texts : List (List ℕ)) → Ascends falls falls_total tied texts → IsDistinct bytes_are_equal texts
unfolding IsDistinct
distinct [] h = tt
distinct (text ∷ texts) h = (all_weaker (λ other. falls text other ≡ Less) (λ other. bytes_are_equal text other ≡ false) (λ other e. not_less falls falls_total tied text other e) texts h.0, distinct texts h.1)

prefixes_in : (kind : RouteKind) (routes : List Route) (prefixes : List (List ℕ)) → map prefix_of (map (λ prefix. record { prefix = prefix; folders = folders_of kind routes prefix }) prefixes) ≡ prefixes
prefixes_in kind routes [] = refl
prefixes_in kind routes (prefix ∷ prefixes) = ap (λ list. prefix ∷ list) (prefixes_in kind routes prefixes)

pub distinct_prefixes : (kind : RouteKind) (routes : List Route) → IsDistinct bytes_are_equal (map prefix_of (prefix_table kind routes))
unfolding prefix_table
distinct_prefixes kind routes = subst (IsDistinct bytes_are_equal) (sym (prefixes_in kind routes (falling (map (λ row. row.prefix) (of_kind kind routes))))) (distinct (falling (map (λ row. row.prefix) (of_kind kind routes))) (falls_merged kind routes))

pub rising_tied : (one other : List ℕ) → eq_by_cmp byte_cmp one other ≡ bytes_are_equal one other
rising_tied one other = sym (byte_ties one other)

distinct_rising : (texts : List (List ℕ)) → Ascends byte_cmp byte_cmp_total rising_tied texts → IsDistinct bytes_are_equal texts
unfolding IsDistinct
distinct_rising [] h = tt
distinct_rising (text ∷ texts) h = (all_weaker (λ other. byte_cmp text other ≡ Less) (λ other. bytes_are_equal text other ≡ false) (λ other e. not_less byte_cmp byte_cmp_total rising_tied text other e) texts h.0, distinct_rising texts h.1)

classes_in : (listed : List Listed) → map class_of (map class_row listed) ≡ map (λ (one : Listed). one.0) listed
classes_in [] = refl
classes_in (one ∷ listed) = ap (λ list. one.0 ∷ list) (classes_in listed)

pub rising_classes : (listed : List Listed) → Ascends byte_cmp byte_cmp_total rising_tied (map (λ (one : Listed). one.0) (first_files listed))
unfolding first_files
rising_classes listed = keys_ascend byte_cmp byte_cmp_total rising_tied (entries (from_entries {R = byte_cmp} listed)) (entries_sorted (from_entries {R = byte_cmp} listed))

pub distinct_classes : (listed : List Listed) → IsDistinct bytes_are_equal (map class_of (class_map_of listed))
unfolding class_map_of
distinct_classes listed = subst (IsDistinct bytes_are_equal) (sym (classes_in (first_files listed))) (distinct_rising (map (λ (one : Listed). one.0) (first_files listed)) (rising_classes listed))

unlike : FileRow → FileRow → Bool
unlike row other = not (has_same_id row other)

others : (row : FileRow) (some : List FileRow) → AllByRecursion (λ id. bytes_are_equal row.id id ≡ false) (map id_of (filter (unlike row) some))
unfolding unlike
others row [] = tt
others row (other ∷ some) = by (has_same_id row other) refl (others row some)
  where
    by : (b : Bool) → has_same_id row other ≡ b → AllByRecursion (λ id. bytes_are_equal row.id id ≡ false) (map id_of (filter (λ one. not (has_same_id row one)) some))
        → AllByRecursion (λ id. bytes_are_equal row.id id ≡ false) (map id_of (cond (not b) (other ∷ filter (λ one. not (has_same_id row one)) some) (filter (λ one. not (has_same_id row one)) some)))
    by true e rest = rest
    by false e rest = (e, rest)

all_kept : (P : List ℕ → Type 0) (t : FileRow → Bool) (some : List FileRow) → AllByRecursion P (map id_of some) → AllByRecursion P (map id_of (filter t some))
all_kept P t [] h = tt
all_kept P t (row ∷ some) h = by (t row) (all_kept P t some h.1)
  where
    by : (b : Bool) → AllByRecursion P (map id_of (filter t some)) → AllByRecursion P (map id_of (cond b (row ∷ filter t some) (filter t some)))
    by true rest = (h.0, rest)
    by false rest = rest

distinct_kept : (t : FileRow → Bool) (some : List FileRow) → IsDistinct bytes_are_equal (map id_of some) → IsDistinct bytes_are_equal (map id_of (filter t some))
unfolding IsDistinct
distinct_kept t [] h = tt
distinct_kept t (row ∷ some) h = by (t row) (distinct_kept t some h.1)
  where
    by : (b : Bool) → IsDistinct bytes_are_equal (map id_of (filter t some)) → IsDistinct bytes_are_equal (map id_of (cond b (row ∷ filter t some) (filter t some)))
    by true rest = (all_kept (λ id. bytes_are_equal row.id id ≡ false) t some h.0, rest)
    by false rest = rest

distinct_ids : (some : List FileRow) → IsDistinct bytes_are_equal (map id_of (first_of_each has_same_id some))
unfolding IsDistinct unlike
distinct_ids [] = tt
distinct_ids (row ∷ some) = (others row (first_of_each has_same_id some), distinct_kept (unlike row) (first_of_each has_same_id some) (distinct_ids some))

pub distinct_files : (p : Project) → IsDistinct bytes_are_equal (map id_of (file_table p))
unfolding file_table
distinct_files p = distinct_ids _

-- ---- what holds of each prefix

module _ (Q : List ℕ → Type 0) where
  of_equal : (text : List ℕ) (some : List Route) → list_any (bytes_are_equal text) (map (λ row. row.prefix) some) ≡ true → AllByRecursion (λ row. Q row.prefix) some → Q text
  of_equal text [] e h = absurd cc
  of_equal text (row ∷ some) e h = by (bytes_are_equal text row.prefix) refl (of_equal text some)
    where
      by : (b : Bool) → bytes_are_equal text row.prefix ≡ b → (list_any (bytes_are_equal text) (map (λ row. row.prefix) some) ≡ true → AllByRecursion (λ row. Q row.prefix) some → Q text) → Q text
      by true f later = subst Q (sym (equal_bytes text row.prefix f)) h.0
      by false f later = later (sym (ap (λ b. b || list_any (bytes_are_equal text) (map (λ row. row.prefix) some)) f) ∙ e) h.1

  pub all_prefixes : (some : List Route) → AllByRecursion (λ row. Q row.prefix) some → AllByRecursion Q (falling (map (λ row. row.prefix) some))
  unfolding falling
  all_prefixes some h = all_weaker (λ text. list_any (bytes_are_equal text) (map (λ row. row.prefix) some) ≡ true) Q (λ text e. of_equal text some e h) _ (are_keys falls falls_total tied (λ (row : Route). row.prefix) some)

  -- and so of each row of a table
  pub all_table_rows : (P : PrefixRow → Type 0) (kind : RouteKind) (routes : List Route) → ((prefix : List ℕ) → Q prefix → P (record { prefix = prefix; folders = folders_of kind routes prefix })) → AllByRecursion (λ row. Q row.prefix) (of_kind kind routes) → All P (prefix_table kind routes)
  unfolding prefix_table
  all_table_rows P kind routes f h = All-from_recursion P (prefix_table kind routes) (each (falling (map (λ row. row.prefix) (of_kind kind routes))) (all_prefixes (of_kind kind routes) h))
    where
      each : (prefixes : List (List ℕ)) → AllByRecursion Q prefixes → AllByRecursion P (map (λ prefix. record { prefix = prefix; folders = folders_of kind routes prefix }) prefixes)
      each [] k = tt
      each (prefix ∷ prefixes) k = (f prefix k.0, each prefixes k.1)

-- ---- each prefix has a folder

some_of : (prefix : List ℕ) (some : List Route) → list_any (bytes_are_equal prefix) (map (λ row. row.prefix) some) ≡ true → filter (λ row. bytes_are_equal row.prefix prefix) some ≢ []
some_of prefix [] e = absurd cc
some_of prefix (row ∷ some) e = by (bytes_are_equal prefix row.prefix) refl (some_of prefix some)
  where
    rest : List Route
    rest = filter (λ row. bytes_are_equal row.prefix prefix) some

    by : (b : Bool) → bytes_are_equal prefix row.prefix ≡ b → (list_any (bytes_are_equal prefix) (map (λ row. row.prefix) some) ≡ true → rest ≢ []) → cond (bytes_are_equal row.prefix prefix) (row ∷ rest) rest ≢ []
    by true f later none =
        let no' : row ∷ rest ≡ [] = ap (λ b. cond b (row ∷ rest) rest) (sym (byte_equality.symm row.prefix prefix ∙ f)) ∙ none in
        absurd cc
    by false f later none = later (sym (ap (λ b. b || list_any (bytes_are_equal prefix) (map (λ row. row.prefix) some)) f) ∙ e) (ap (λ b. cond b (row ∷ rest) rest) (sym (byte_equality.symm row.prefix prefix ∙ f)) ∙ none)

no_folders : (some : List Route) → first_of_each paths_are_equal (map (λ row. row.folder) some) ≡ [] → some ≡ []
no_folders [] e = refl
no_folders (row ∷ some) e = absurd cc

own_prefixes : (some : List Route) → AllByRecursion (λ row. list_any (bytes_are_equal row.prefix) (map (λ row. row.prefix) some) ≡ true) some
own_prefixes some = own some some (λ text e. e)
  where
    either : (b : Bool) → (b || true) ≡ true
    either true = refl
    either false = refl

    own : (part all : List Route) → ((text : List ℕ) → list_any (bytes_are_equal text) (map (λ row. row.prefix) part) ≡ true → list_any (bytes_are_equal text) (map (λ row. row.prefix) all) ≡ true) → AllByRecursion (λ row. list_any (bytes_are_equal row.prefix) (map (λ row. row.prefix) all) ≡ true) part
    own [] all h = tt
    own (row ∷ part) all h = (h row.prefix (rw (byte_equality.refl row.prefix) refl), own part all (λ text e. h text (rw e (either (bytes_are_equal text row.prefix)))))

pub has_folders : (kind : RouteKind) (routes : List Route) → All (λ (row : PrefixRow). row.folders ≢ []) (prefix_table kind routes)
has_folders kind routes = all_table_rows (λ prefix. list_any (bytes_are_equal prefix) (map (λ row. row.prefix) (of_kind kind routes)) ≡ true) (λ (row : PrefixRow). row.folders ≢ []) kind routes
    (λ prefix e none. some_of prefix (of_kind kind routes) e (kept_twice (λ row. is_same_kind kind row.kind) (λ row. bytes_are_equal row.prefix prefix) (is_of kind prefix) (λ row. refl) routes ∙ no_folders (filter (is_of kind prefix) routes) none))
    (own_prefixes (of_kind kind routes))

-- ---- prefixes of PSR-4 are whole

ends_whole : (prefix : List ℕ) → is_psr4_prefix prefix ≡ true → is_whole prefix ≡ true
unfolding is_psr4_prefix
ends_whole [] e = refl
ends_whole (byte ∷ []) e = e
ends_whole (byte ∷ next ∷ rest) e = ends_whole (next ∷ rest) (ap is_end_of_prefix (step byte next rest) ∙ e)
  where
    step : (x y : ℕ) (xs : List ℕ) → slice_get (y ∷ xs) (length (y ∷ xs) - 1) ≡ slice_get (x ∷ y ∷ xs) (length (x ∷ y ∷ xs) - 1)
    step x y xs =
        let short : length (y ∷ xs) - 1 ≡ length xs = omega arith in
        let long : length (x ∷ y ∷ xs) - 1 ≡ suc (length xs) = omega arith in
        ap (slice_get (y ∷ xs)) short ∙ sym (ap (slice_get (x ∷ y ∷ xs)) long)

of_psr4 : (routes : List Route) → AllByRecursion (λ row. IsTrue (is_route_prefix row.kind row.prefix)) routes → AllByRecursion (λ row. IsTrue (is_whole row.prefix)) (of_kind Psr4 routes)
of_psr4 [] h = tt
of_psr4 (row ∷ routes) h = by row.kind refl (of_psr4 routes h.1)
  where
    by : (kind : RouteKind) → row.kind ≡ kind → AllByRecursion (λ row. IsTrue (is_whole row.prefix)) (of_kind Psr4 routes) → AllByRecursion (λ row. IsTrue (is_whole row.prefix)) (cond (is_same_kind Psr4 row.kind) (row ∷ of_kind Psr4 routes) (of_kind Psr4 routes))
    by Psr4 e rest = rw e (ends_whole row.prefix (subst (λ kind. IsTrue (is_route_prefix kind row.prefix)) e h.0), rest)
    by Psr0 e rest = rw e rest

pub whole_prefixes : (routes : List Route) → All (λ (row : Route). IsTrue (is_route_prefix row.kind row.prefix)) routes → All (λ (row : PrefixRow). IsTrue (is_whole row.prefix)) (prefix_table Psr4 routes)
whole_prefixes routes h = all_table_rows (λ prefix. IsTrue (is_whole prefix)) (λ (row : PrefixRow). IsTrue (is_whole row.prefix)) Psr4 routes (λ prefix e. e) (of_psr4 routes (recursion_from_All (λ (row : Route). IsTrue (is_route_prefix row.kind row.prefix)) routes h))

-- ---- classes rise

below : (one : Listed) (listed : List Listed) (at : ℕ) (d : ClassRow) → AllByRecursion (λ other. byte_cmp one.0 other ≡ Less) (map (λ (x : Listed). x.0) listed) → at < length (map class_row listed) → byte_cmp one.0 (get_or (map class_row listed) at d).class ≡ Less
below one [] at d h within = absurd (omega (arith, within))
below one (other ∷ listed) zero d h within = h.0
below one (other ∷ listed) (suc at) d h within = below one listed at d h.1 (omega (arith, within))

rows_rise : (listed : List Listed) → Ascends byte_cmp byte_cmp_total rising_tied (map (λ (x : Listed). x.0) listed) → (i j : ℕ) (d : ClassRow) → i < j → j < length (map class_row listed)
    → byte_cmp (get_or (map class_row listed) i d).class (get_or (map class_row listed) j d).class ≡ Less
rows_rise [] h i j d less within = absurd (omega (arith, within))
rows_rise (one ∷ listed) h zero zero d less within = absurd (omega (arith, less))
rows_rise (one ∷ listed) h zero (suc j) d less within = below one listed j d h.0 (omega (arith, within))
rows_rise (one ∷ listed) h (suc i) zero d less within = absurd (omega (arith, less))
rows_rise (one ∷ listed) h (suc i) (suc j) d less within = rows_rise listed h.1 i j d (omega (arith, less)) (omega (arith, within))

pub classes_rise : (listed : List Listed) → AllPairs (λ row other. byte_cmp row.class other.class ≡ Less) (class_map_of listed)
unfolding class_map_of
classes_rise listed = rows_rise (first_files listed) (rising_classes listed)
