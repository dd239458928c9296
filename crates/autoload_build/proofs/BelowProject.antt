-- What tables name lies at or below the project's folder.
use Rattle.std.proofs.Common.{◌≡◌, ℕ, zero, suc, Bool, true, false, not, cond, List, [], ◌∷◌, ◌++◌, length, map, Ok, Some, refl, sym, ap, subst, ◌∙◌, append-nil, append_assoc}
use Rattle.std.specs.Prelude.{All, filter, reverse}
use Rattle.std.specs.FinMap.{FinMap, empty_of_len, entries, entries-from_sorted, entries-insert, from_entries, from_sorted, len-entries}
use Rattle.std.specs.FinMap.Entries.{by_order, put}
use Rattle.std.specs.List.{AllByRecursion, enumerate_from, flat_map, slice_get}
use Rattle.std.specs.declared.cmp.Ordering.{Ordering}
use Rattle.std.specs.declared.cmp.Ordering.TheVariants.{Less, Equal, Greater}
use Rattle.std.proofs.lemmas.List.{reverse-append}
use Rattle.std.proofs.lemmas.List.Elements.{All-from_recursion}
use Rattle.path_name.specs.Orders.{byte_cmp, byte_cmp_total, bytes_are_equal, paths_are_equal}
use Rattle.path_name.specs.Paths.{BeginsWith}
use Rattle.tree_dev.specs.Trees.{FileTree}
use Rattle.manifest_read.specs.declared.types.PathText.{PathText}
use Rattle.manifest_read.specs.declared.types.PrefixDirs.{PrefixDirs}
use Rattle.class_paths.specs.Candidates.{is_of, of_kind}
use Rattle.class_paths.specs.Search.{Listed}
use Rattle.class_paths.specs.declared.types.Route.{Route}
use Rattle.class_paths.specs.declared.types.RouteKind.{RouteKind}
use Rattle.class_paths.specs.declared.types.RouteKind.TheVariants.{Psr4, Psr0}
use Rattle.psr_routes.specs.PackageOrder.{Numbered, ordered}
use Rattle.psr_routes.specs.Routes.{Source, classmap_of, files_of, loading_sources_of, package_sources, paths_by, prefixes_of, root_sources, rows_of, rows_of_kind, rows_of_prefix, rows_of_source, sources_of}
use Rattle.psr_routes.specs.declared.types.Placed.{Placed}
use Rattle.psr_routes.proofs.PackageLaws.{taken_at}
use Rattle.class_walk.specs.Walks as walks
use Rattle.class_walk.specs.Walks.{AreScansOf, Walked, class_scan}
use Rattle.class_walk.specs.declared.job.Scanned.{Scanned}
use Rattle.class_walk.specs.declared.job.WalkJob.{WalkJob}
use Rattle.class_walk.specs.declared.job.WalkRule.TheVariants as rules
use Rattle.table_scan.specs.declared.types.ClassRow.{ClassRow}
use Rattle.table_scan.specs.declared.types.FileRow.{FileRow}
use Rattle.table_scan.specs.declared.types.Mode.{Mode}
use Rattle.table_scan.specs.declared.types.Mode.TheVariants as modes
use Rattle.table_scan.specs.declared.types.PrefixRow.{PrefixRow}
use Rattle.autoload_build.specs.Answers.{walks_of}
use Rattle.autoload_build.specs.BuiltTables.{class_map_of, class_row, classes_in, classes_of, file_row, file_table, first_files, first_of_each, folders_of, prefix_table}
use Rattle.autoload_build.specs.Jobs.{Project, by_prefix, falling, job_of, jobs_of, jobs_of_kind, jobs_of_prefix, jobs_of_rows, jobs_of_source, listed_jobs, patterns_of, prefix_of, row_jobs, rows, rule_of}
use Rattle.autoload_build.proofs.KeyGroups.{all_append}
use Rattle.autoload_build.proofs.WalkedParts.{Finds, IsFoundBy, all_numbered, jobs_find}

-- ---- all of a list

all_reverse : {X : Type 0} (P : X → Type 0) (xs : List X) → AllByRecursion P xs → AllByRecursion P (reverse xs)
all_reverse P [] h = tt
all_reverse P (x ∷ xs) h = subst (AllByRecursion P) (sym (reverse-append (x ∷ []) xs)) (all_append P (reverse xs) (x ∷ []) (all_reverse P xs h.1) (h.0, tt))

all_at : {X : Type 0} (P : X → Type 0) (xs : List X) (k : ℕ) (x : X) → AllByRecursion P xs → slice_get xs k ≡ Some x → P x
all_at P [] k x h e = absurd cc
all_at P (y ∷ xs) zero x h e =
    let same : y ≡ x = cc in
    subst P same h.0
all_at P (y ∷ xs) (suc k) x h e = all_at P xs k x h.1 e

all_each : {X : Type 0} (P : X → Type 0) (xs : List X) → ((k : ℕ) (x : X) → slice_get xs k ≡ Some x → P x) → AllByRecursion P xs
all_each P [] each = tt
all_each P (x ∷ xs) each = (each 0 x refl, all_each P xs (λ k y e. each (suc k) y e))

all_mapped : {X Y : Type 0} (P : Y → Type 0) (f : X → Y) (xs : List X) → AllByRecursion (λ x. P (f x)) xs → AllByRecursion P (map f xs)
all_mapped P f [] h = tt
all_mapped P f (x ∷ xs) h = (h.0, all_mapped P f xs h.1)

every : {X : Type 0} (P : X → Type 0) → ((x : X) → P x) → (xs : List X) → AllByRecursion P xs
every P f [] = tt
every P f (x ∷ xs) = (f x, every P f xs)

all_flat : {X Y : Type 0} (P : Y → Type 0) (Q : X → Type 0) (f : X → List Y) → ((x : X) → Q x → AllByRecursion P (f x)) → (xs : List X) → AllByRecursion Q xs → AllByRecursion P (flat_map f xs)
all_flat P Q f each [] h = tt
all_flat P Q f each (x ∷ xs) h = all_append P (f x) (flat_map f xs) (each x h.0) (all_flat P Q f each xs h.1)

all_kept : {X : Type 0} (P : X → Type 0) (t : X → Bool) (xs : List X) → AllByRecursion P xs → AllByRecursion P (filter t xs)
all_kept P t [] h = tt
all_kept P t (x ∷ xs) h = by (t x) (all_kept P t xs h.1)
  where
    by : (b : Bool) → AllByRecursion P (filter t xs) → AllByRecursion P (cond b (x ∷ filter t xs) (filter t xs))
    by true rest = (h.0, rest)
    by false rest = rest

all_firsts : {X : Type 0} (P : X → Type 0) (same : X → X → Bool) (xs : List X) → AllByRecursion P xs → AllByRecursion P (first_of_each same xs)
all_firsts P same [] h = tt
all_firsts P same (x ∷ xs) h = (h.0, all_kept P (λ y. not (same x y)) (first_of_each same xs) (all_firsts P same xs h.1))

-- ---- rules

module _ (p : Project) (below : AllByRecursion (λ (one : Placed). BeginsWith one.shown p.at) p.members) where
  abbrev IsBelow : List (List ℕ) → Type 0
  IsBelow path = BeginsWith path p.at

  more : (folder path : List (List ℕ)) → IsBelow folder → IsBelow (folder ++ path)
  more folder path h = (h.0 ++ path, ap (λ list. list ++ path) h.1 ∙ append_assoc p.at h.0 path)

  abbrev HasFolder : Source → Type 0
  HasFolder source = IsBelow source.folder

  itself : IsBelow p.at
  itself = ([], sym (append-nil p.at))

  root_below : (dev : Bool) → AllByRecursion HasFolder (root_sources p.at p.root dev)
  root_below true = (itself, (itself, tt))
  root_below false = (itself, tt)

  packages_below : AllByRecursion HasFolder (package_sources p.members)
  packages_below = all_mapped HasFolder (λ (one : Numbered). record { owner = Some one.1; folder = one.1.shown; rules = one.1.package.autoload }) (ordered p.members)
      (all_each (λ (one : Numbered). IsBelow one.1.shown) (ordered p.members) (λ k one e. all_at (λ (one : Placed). IsBelow one.shown) p.members one.0 one.1 below (taken_at p.members k one e)))

  searched_below : AllByRecursion HasFolder (sources_of p.at p.root p.members p.dev)
  unfolding sources_of
  searched_below = all_append HasFolder (root_sources p.at p.root p.dev) (reverse (package_sources p.members)) (root_below p.dev) (all_reverse HasFolder (package_sources p.members) packages_below)

  loaded_below : AllByRecursion HasFolder (loading_sources_of p.at p.root p.members p.dev)
  unfolding loading_sources_of
  loaded_below = all_append HasFolder (package_sources p.members) (root_sources p.at p.root p.dev) packages_below (root_below p.dev)

  -- ---- prefixes

  abbrev HasRowFolder : Route → Type 0
  HasRowFolder row = IsBelow row.folder

  kind_below : (kind : RouteKind) → AllByRecursion HasRowFolder (rows_of_kind kind (sources_of p.at p.root p.members p.dev))
  kind_below kind = all_flat HasRowFolder HasFolder (rows_of_source kind)
      (λ source h. all_flat HasRowFolder (λ (dirs : PrefixDirs). Unit {0}) (rows_of_prefix kind source.folder)
      (λ dirs _. all_mapped HasRowFolder (λ (one : PathText). record { kind = kind; prefix = dirs.prefix; folder = source.folder ++ one.path }) dirs.folders (every (λ (one : PathText). IsBelow (source.folder ++ one.path)) (λ one. more source.folder one.path h) dirs.folders))
      (prefixes_of kind source.rules) (every (λ (dirs : PrefixDirs). Unit {0}) (λ dirs. tt) (prefixes_of kind source.rules)))
      (sources_of p.at p.root p.members p.dev) searched_below

  rows_below : AllByRecursion HasRowFolder (rows p)
  unfolding rows_of
  rows_below = all_append HasRowFolder (rows_of_kind Psr4 (sources_of p.at p.root p.members p.dev)) (rows_of_kind Psr0 (sources_of p.at p.root p.members p.dev)) (kind_below Psr4) (kind_below Psr0)

  folders_below : (kind : RouteKind) (prefix : List ℕ) → AllByRecursion IsBelow (folders_of kind (rows p) prefix)
  folders_below kind prefix = all_firsts IsBelow paths_are_equal (map (λ row. row.folder) (filter (is_of kind prefix) (rows p)))
      (all_mapped IsBelow (λ (row : Route). row.folder) (filter (is_of kind prefix) (rows p)) (all_kept HasRowFolder (is_of kind prefix) (rows p) rows_below))

  pub prefixes_below : (kind : RouteKind) → All (λ (row : PrefixRow). All IsBelow row.folders) (prefix_table kind (rows p))
  unfolding prefix_table
  prefixes_below kind = All-from_recursion (λ (row : PrefixRow). All IsBelow row.folders) (prefix_table kind (rows p))
      (all_mapped (λ (row : PrefixRow). All IsBelow row.folders) (λ prefix. record { prefix = prefix; folders = folders_of kind (rows p) prefix }) (falling (map (λ row. row.prefix) (of_kind kind (rows p))))
      (every (λ prefix. All IsBelow (folders_of kind (rows p) prefix)) (λ prefix. All-from_recursion IsBelow (folders_of kind (rows p) prefix) (folders_below kind prefix)) (falling (map (λ row. row.prefix) (of_kind kind (rows p))))))

  -- ---- files

  abbrev HasFile : FileRow → Type 0
  HasFile row = IsBelow row.path

  pub files_below : All HasFile (file_table p)
  unfolding file_table files_of
  files_below = All-from_recursion HasFile (file_table p) (all_firsts HasFile (λ row other. bytes_are_equal row.id other.id) (map (file_row p.root) (paths_by (λ rules. rules.files) (loading_sources_of p.at p.root p.members p.dev)))
      (all_mapped HasFile (file_row p.root) (paths_by (λ rules. rules.files) (loading_sources_of p.at p.root p.members p.dev))
      (all_flat (λ (one : Source × PathText). IsBelow (one.0.folder ++ one.1.path)) HasFolder (λ source. map (λ one. (source, one)) source.rules.files)
      (λ source h. all_mapped (λ (one : Source × PathText). IsBelow (one.0.folder ++ one.1.path)) (λ one. (source, one)) source.rules.files (every (λ (one : PathText). IsBelow (source.folder ++ one.path)) (λ one. more source.folder one.path h) source.rules.files))
      (loading_sources_of p.at p.root p.members p.dev) loaded_below)))

  -- ---- classes

  abbrev HasPath : Listed → Type 0
  HasPath one = IsBelow one.1

  all_put : (k : List ℕ) (v : List (List ℕ)) (es : List Listed) → IsBelow v → AllByRecursion HasPath es → AllByRecursion HasPath (put byte_cmp k v es)
  all_put k v [] h all = (h, tt)
  all_put k v (e ∷ es) h all = by (byte_cmp k e.0) (all_put k v es h all.1)
    where
      by : (r : Ordering) → AllByRecursion HasPath (put byte_cmp k v es) → AllByRecursion HasPath (by_order r ((k, v) ∷ e ∷ es) ((e.0, v) ∷ es) (e ∷ put byte_cmp k v es))
      by Less rest = (h, all)
      by Equal rest = (h, all.1)
      by Greater rest = (all.0, rest)

  no_entries : entries (from_entries {K = List ℕ} {X = List (List ℕ)} {R = byte_cmp} []) ≡ []
  no_entries =
      let none : FinMap byte_cmp (List (List ℕ)) = from_sorted {R = byte_cmp} [] in
      let is : entries none ≡ [] = entries-from_sorted byte_cmp [] tt in
      ap entries (sym (empty_of_len none (len-entries none ∙ ap length is))) ∙ is

  all_entries : (listed : List Listed) → AllByRecursion HasPath listed → AllByRecursion HasPath (entries (from_entries {R = byte_cmp} listed))
  all_entries [] h = subst (AllByRecursion HasPath) (sym no_entries) tt
  all_entries (one ∷ listed) h = subst (AllByRecursion HasPath) (sym (entries-insert byte_cmp_total (from_entries listed) one.0 one.1)) (all_put one.0 one.1 (entries (from_entries listed)) h.0 (all_entries listed h.1))

  abbrev IsShownBelow : Scanned → Type 0
  IsShownBelow scanned = IsBelow scanned.shown

  pub classes_below : (found : List Scanned) → AllByRecursion IsShownBelow found → All (λ (row : ClassRow). IsBelow row.path) (class_map_of (classes_of found))
  unfolding class_map_of first_files classes_of
  classes_below found h = All-from_recursion (λ (row : ClassRow). IsBelow row.path) (class_map_of (classes_of found))
      (all_mapped (λ (row : ClassRow). IsBelow row.path) class_row (entries (from_entries {R = byte_cmp} (flat_map classes_in found)))
      (all_entries (flat_map classes_in found) (all_flat HasPath IsShownBelow classes_in (λ scanned g. all_mapped HasPath (λ name. (name, scanned.shown)) scanned.names (every (λ (name : List ℕ). IsBelow scanned.shown) (λ name. g) scanned.names)) found h)))

  -- ---- what the walks find

  abbrev IsJobBelow : WalkJob → Type 0
  IsJobBelow job = IsBelow job.shown

  listed_below : AllByRecursion IsJobBelow (listed_jobs p)
  unfolding listed_jobs classmap_of
  listed_below = all_mapped IsJobBelow (λ (one : Source × PathText). job_of rules.Listed one.0 one.1) (paths_by (λ rules. rules.classmap) (sources_of p.at p.root p.members p.dev))
      (all_flat (λ (one : Source × PathText). IsBelow (one.0.folder ++ one.1.path)) HasFolder (λ source. map (λ one. (source, one)) source.rules.classmap)
      (λ source h. all_mapped (λ (one : Source × PathText). IsBelow (one.0.folder ++ one.1.path)) (λ one. (source, one)) source.rules.classmap (every (λ (one : PathText). IsBelow (source.folder ++ one.path)) (λ one. more source.folder one.path h) source.rules.classmap))
      (sources_of p.at p.root p.members p.dev) searched_below)

  kind_jobs_below : (kind : RouteKind) → AllByRecursion IsJobBelow (jobs_of_kind kind (sources_of p.at p.root p.members p.dev))
  kind_jobs_below kind = all_flat IsJobBelow HasFolder (jobs_of_source kind)
      (λ source h. all_flat IsJobBelow (λ (dirs : PrefixDirs). Unit {0}) (jobs_of_prefix kind source)
      (λ dirs _. all_mapped IsJobBelow (job_of (rule_of kind dirs.prefix) source) dirs.folders (every (λ (one : PathText). IsBelow (source.folder ++ one.path)) (λ one. more source.folder one.path h) dirs.folders))
      (prefixes_of kind source.rules) (every (λ (dirs : PrefixDirs). Unit {0}) (λ dirs. tt) (prefixes_of kind source.rules)))
      (sources_of p.at p.root p.members p.dev) searched_below

  row_jobs_below : AllByRecursion IsJobBelow (row_jobs p)
  unfolding row_jobs by_prefix jobs_of_rows
  row_jobs_below =
      let jobs = jobs_of_rows (sources_of p.at p.root p.members p.dev) in
      let all : AllByRecursion IsJobBelow jobs = all_append IsJobBelow (jobs_of_kind Psr4 (sources_of p.at p.root p.members p.dev)) (jobs_of_kind Psr0 (sources_of p.at p.root p.members p.dev)) (kind_jobs_below Psr4) (kind_jobs_below Psr0) in
      let prefixes = falling (map (λ job. prefix_of job.rule) jobs) in
      all_flat IsJobBelow (λ (prefix : List ℕ). Unit {0}) (λ prefix. filter (λ job. bytes_are_equal (prefix_of job.rule) prefix) jobs) (λ prefix _. all_kept IsJobBelow (λ job. bytes_are_equal (prefix_of job.rule) prefix) jobs all)
      prefixes (every (λ (prefix : List ℕ). Unit {0}) (λ prefix. tt) prefixes)

  jobs_below : (mode : Mode) → AllByRecursion IsJobBelow (jobs_of mode p)
  jobs_below modes.Plain = listed_below
  jobs_below modes.Optimised = all_append IsJobBelow (listed_jobs p) (row_jobs p) listed_below row_jobs_below
  jobs_below modes.Authoritative = all_append IsJobBelow (listed_jobs p) (row_jobs p) listed_below row_jobs_below

  scans_below : (t : FileTree) (sources : List walks.Source) (found : List Scanned) → AreScansOf sources found → AllByRecursion (IsFoundBy t IsJobBelow) sources → AllByRecursion IsShownBelow found
  scans_below t [] [] h all = tt
  scans_below t [] (scanned ∷ found) h all = absurd h
  scans_below t (source ∷ sources) [] h all = absurd h
  scans_below t (source ∷ sources) (scanned ∷ found) h all = (subst IsBelow (sym h.0.shown) (more source.search.job.shown source.tail all.0.0), scans_below t sources found h.1 all.1)

  pub found_below : (t : FileTree) (mode : Mode) (left : ℕ) (walked : Walked) (found : List Scanned) → walks_of t p mode left ≡ Ok walked → AreScansOf walked.found found → AllByRecursion IsShownBelow found
  unfolding class_scan
  found_below t mode left walked found e scans =
      let grown = subst (Finds (IsFoundBy t IsJobBelow) (record { found = []; left = left })) e (jobs_find t (patterns_of p) IsJobBelow (enumerate_from 0 (jobs_of mode p)) (record { found = []; left = left }) (all_numbered IsJobBelow 0 (jobs_of mode p) (jobs_below mode))) in
      scans_below t walked.found found scans (subst (AllByRecursion (IsFoundBy t IsJobBelow)) (sym grown.1) grown.2)
