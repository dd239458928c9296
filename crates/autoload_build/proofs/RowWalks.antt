-- The walks of the folders of rows: each is of a row, and shows files that are there in the tree that is shown.
use Rattle.std.proofs.Common.{◌≡◌, ℕ, zero, suc, Bool, true, false, cond, List, [], ◌∷◌, ◌++◌, map, filter, Option, Some, None, refl, sym, ap, ◌∙◌, subst, append_assoc}
use Rattle.std.specs.Prelude.{codes, reverse, ◌||◌}
use Rattle.std.proofs.Common.{inl, inr}
use Rattle.std.specs.List.{AllByRecursion, flat_map, slice_get}
use Rattle.std.proofs.lemmas.List.{reverse-append}
use Rattle.path_name.specs.Orders.{bytes_are_equal}
use Rattle.manifest_read.specs.declared.types.Autoload.{Autoload}
use Rattle.manifest_read.specs.declared.types.PathText.{PathText}
use Rattle.manifest_read.specs.declared.types.PrefixDirs.{PrefixDirs}
use Rattle.tree_dev.specs.Trees.{FileTree}
use Rattle.tree_dev.specs.Projects.{is_within, vendor_path}
use Rattle.class_paths.specs.declared.types.Route.{Route}
use Rattle.class_paths.specs.declared.types.RouteKind.{RouteKind}
use Rattle.class_paths.specs.declared.types.RouteKind.TheVariants.{Psr4, Psr0}
use Rattle.class_paths.proofs.Members.{Member}
use Rattle.psr_routes.specs.declared.types.Placed.{Placed}
use Rattle.psr_routes.specs.PackageOrder.{Numbered, ordered}
use Rattle.psr_routes.specs.Routes.{Source, package_sources, prefixes_of, root_sources, rows_of, rows_of_kind, rows_of_prefix, rows_of_source, sources_of}
use Rattle.psr_routes.proofs.PackageLaws.{taken_at}
use Rattle.class_walk.specs.Walks.{ends_in, is_skipped, last_of}
use Rattle.class_walk.specs.declared.job.WalkJob.{WalkJob}
use Rattle.autoload_build.specs.ClassAgreement.{IsShown, file_in, file_of_package}
use Rattle.autoload_build.specs.Jobs.{Project, by_prefix, falling, job_of, jobs_of_kind, jobs_of_prefix, jobs_of_rows, jobs_of_source, left_out, place_of, prefix_of, row_jobs, rows, rule_of, skipped_for}
use Rattle.autoload_build.proofs.KeyGroups.{all_append, all_weaker}

-- ---- all of a list

module _ {X : Type 0} (P : X → Type 0) where
  pub all_front : (xs ys : List X) → AllByRecursion P (xs ++ ys) → AllByRecursion P xs
  all_front [] ys all = tt
  all_front (x ∷ xs) ys all = (all.0, all_front xs ys all.1)

  pub all_behind : (xs ys : List X) → AllByRecursion P (xs ++ ys) → AllByRecursion P ys
  all_behind [] ys all = all
  all_behind (x ∷ xs) ys all = all_behind xs ys all.1

  all_kept : (test : X → Bool) (xs : List X) → AllByRecursion P xs → AllByRecursion P (filter test xs)
  all_kept test [] all = tt
  all_kept test (x ∷ xs) all = by (test x) (all_kept test xs all.1)
    where
      by : (b : Bool) → AllByRecursion P (filter test xs) → AllByRecursion P (cond b (x ∷ filter test xs) (filter test xs))
      by true rest = (all.0, rest)
      by false rest = rest

  all_reversed : (xs : List X) → AllByRecursion P xs → AllByRecursion P (reverse xs)
  all_reversed [] all = tt
  all_reversed (x ∷ xs) all = subst (AllByRecursion P) (sym (reverse-append (x ∷ []) xs)) (all_append P (reverse xs) (x ∷ []) (all_reversed xs all.1) (all.0, tt))

  all_at : (xs : List X) (k : ℕ) (x : X) → AllByRecursion P xs → slice_get xs k ≡ Some x → P x
  all_at [] k x all e = absurd cc
  all_at (y ∷ xs) zero x all e = subst P (same_one y x e) all.0
    where
      same_one : (a b : X) → Some a ≡ Some b → a ≡ b
      same_one a b f = cc
  all_at (y ∷ xs) (suc k) x all e = all_at xs k x all.1 e

  all_from_each : (xs : List X) → ((k : ℕ) (x : X) → slice_get xs k ≡ Some x → P x) → AllByRecursion P xs
  all_from_each [] each = tt
  all_from_each (x ∷ xs) each = (each 0 x refl, all_from_each xs (λ k y e. each (suc k) y e))

  all_by_key : (key : X → List ℕ) (xs : List X) (texts : List (List ℕ)) → AllByRecursion P xs → AllByRecursion P (flat_map (λ text. filter (λ x. bytes_are_equal (key x) text) xs) texts)
  all_by_key key xs [] all = tt
  all_by_key key xs (text ∷ texts) all = all_append P (filter (λ x. bytes_are_equal (key x) text) xs) (flat_map (λ text. filter (λ x. bytes_are_equal (key x) text) xs) texts) (all_kept (λ x. bytes_are_equal (key x) text) xs all) (all_by_key key xs texts all)

all_mapped : {X Y : Type 0} (P : Y → Type 0) (f : X → Y) (xs : List X) → AllByRecursion (λ x. P (f x)) xs → AllByRecursion P (map f xs)
all_mapped P f [] all = tt
all_mapped P f (x ∷ xs) all = (all.0, all_mapped P f xs all.1)

pub all_members : {X : Type 0} (xs : List X) → AllByRecursion (λ x. Member x xs) xs
all_members [] = tt
all_members {X} (x ∷ xs) = (inl refl, all_weaker (λ (y : X). Member y xs) (λ (y : X). Member y (x ∷ xs)) (λ y there. inr there) xs (all_members xs))

-- ---- rules of a project

-- what holds for the root's rules and for those of packages
pub all_of_sources : (p : Project) (Q : Source → Type 0) (P : Placed → Type 0) → ((rules : Autoload) → Member (record { owner = None; folder = p.at; rules = rules }) (root_sources p.at p.root p.dev) → Q (record { owner = None; folder = p.at; rules = rules }))
    → ((one : Placed) (rules : Autoload) → P one → Q (record { owner = Some one; folder = one.shown; rules = rules })) → AllByRecursion P p.members → AllByRecursion Q (sources_of p.at p.root p.members p.dev)
unfolding sources_of
all_of_sources p Q P of_root of_package each = all_append Q (root_sources p.at p.root p.dev) (reverse (package_sources p.members)) (own p.dev (λ rules there. of_root rules there)) (all_reversed Q (package_sources p.members)
    (all_mapped Q (λ one. record { owner = Some one.1; folder = one.1.shown; rules = one.1.package.autoload }) (ordered p.members)
    (all_from_each (λ (one : Numbered). Q (record { owner = Some one.1; folder = one.1.shown; rules = one.1.package.autoload })) (ordered p.members)
    (λ k one e. of_package one.1 one.1.package.autoload (all_at P p.members one.0 one.1 each (taken_at p.members k one e))))))
  where
    own : (dev : Bool) → ((rules : Autoload) → Member (record { owner = None; folder = p.at; rules = rules }) (root_sources p.at p.root dev) → Q (record { owner = None; folder = p.at; rules = rules })) → AllByRecursion Q (root_sources p.at p.root dev)
    own true each = (each p.root.package.autoload (inl refl), (each p.root.autoload_dev (inr (inl refl)), tt))
    own false each = (each p.root.package.autoload (inl refl), tt)

-- ---- walks of rows

module _ (p : Project) (read shown : FileTree) where
  -- the files of rules are shown
  pub record IsSourceShown (source : Source) : Type 0 where
    pub same : (below : List (List ℕ)) → is_skipped (skipped_for source) (place_of source ++ below) ≡ false → ends_in (codes ".php") (last_of (place_of source ++ below)) ≡ true
        → file_in shown (source.folder ++ below) ≡ file_in read (place_of source ++ below)

  -- a walk of a row's folder
  pub record IsRowWalk (job : WalkJob) : Type 0 where
    pub row : Route
    pub is_row : Member row (rows p)
    pub folder : job.shown ≡ row.folder
    pub rule : job.rule ≡ rule_of row.kind row.prefix
    pub same : (tail : List (List ℕ)) → is_skipped job.skip (job.at ++ tail) ≡ false → ends_in (codes ".php") (last_of (job.at ++ tail)) ≡ true → file_in shown (job.shown ++ tail) ≡ file_in read (job.at ++ tail)

  abbrev IsRow : Route → Type 0
  IsRow row = Member row (rows p)

  of_folders : (kind : RouteKind) (source : Source) (prefix : List ℕ) (folders : List PathText) → IsSourceShown source
      → AllByRecursion IsRow (map (λ f. record { kind = kind; prefix = prefix; folder = source.folder ++ f.path }) folders) → AllByRecursion IsRowWalk (map (job_of (rule_of kind prefix) source) folders)
  of_folders kind source prefix [] is all = tt
  of_folders kind source prefix (f ∷ folders) is all = (
    record {
      row = record { kind = kind; prefix = prefix; folder = source.folder ++ f.path };
      is_row = all.0;
      folder = refl;
      rule = refl;
      same = λ tail kept ending.
          let here = append_assoc (place_of source) f.path tail in
          let there = append_assoc source.folder f.path tail in
          ap (file_in shown) there ∙ is.same (f.path ++ tail) (ap (is_skipped (skipped_for source)) (sym here) ∙ kept) (ap (λ path. ends_in (codes ".php") (last_of path)) (sym here) ∙ ending) ∙ ap (file_in read) (sym here);
    },
    of_folders kind source prefix folders is all.1,
  )

  of_prefixes : (kind : RouteKind) (source : Source) (prefixes : List PrefixDirs) → IsSourceShown source → AllByRecursion IsRow (flat_map (rows_of_prefix kind source.folder) prefixes) → AllByRecursion IsRowWalk (flat_map (jobs_of_prefix kind source) prefixes)
  of_prefixes kind source [] is all = tt
  of_prefixes kind source (dirs ∷ prefixes) is all =
      let first = rows_of_prefix kind source.folder dirs in
      let rest = flat_map (rows_of_prefix kind source.folder) prefixes in
      all_append IsRowWalk (jobs_of_prefix kind source dirs) (flat_map (jobs_of_prefix kind source) prefixes) (of_folders kind source dirs.prefix dirs.folders is (all_front IsRow first rest all)) (of_prefixes kind source prefixes is (all_behind IsRow first rest all))

  of_sources : (kind : RouteKind) (sources : List Source) → AllByRecursion IsSourceShown sources → AllByRecursion IsRow (rows_of_kind kind sources) → AllByRecursion IsRowWalk (jobs_of_kind kind sources)
  of_sources kind [] are all = tt
  of_sources kind (source ∷ sources) are all =
      let first = rows_of_source kind source in
      let rest = rows_of_kind kind sources in
      all_append IsRowWalk (jobs_of_source kind source) (jobs_of_kind kind sources) (of_prefixes kind source (prefixes_of kind source.rules) are.0 (all_front IsRow first rest all)) (of_sources kind sources are.1 (all_behind IsRow first rest all))

  -- ---- rules whose files are shown

  module _ (is : IsShown p read shown) where
    root_shown : (rules : Autoload) → IsSourceShown (record { owner = None; folder = p.at; rules = rules })
    root_shown rules = record { same = λ below kept ending. is.own (p.at ++ below) (outside (is_within (vendor_path p.at) (p.at ++ below)) kept) ending }
      where
        outside : (b : Bool) → (b || false) ≡ false → b ≡ false
        outside true e = e
        outside false e = refl

    package_shown : (one : Placed) (rules : Autoload) → ((below : List (List ℕ)) → file_in shown (one.shown ++ below) ≡ file_of_package read one below) → IsSourceShown (record { owner = Some one; folder = one.shown; rules = rules })
    package_shown one rules same = record { same = λ below kept ending. same below ∙ not_left_out (is_skipped (left_out one) (one.at ++ below)) (file_in read (one.at ++ below)) kept }
      where
        not_left_out : (b : Bool) (file : Option (List ℕ)) → b ≡ false → cond b None file ≡ file
        not_left_out true file e = absurd cc
        not_left_out false file e = refl

    all_shown : AllByRecursion IsSourceShown (sources_of p.at p.root p.members p.dev)
    all_shown = all_of_sources p IsSourceShown (λ (one : Placed). (below : List (List ℕ)) → file_in shown (one.shown ++ below) ≡ file_of_package read one below) (λ rules there. root_shown rules) package_shown is.packages

    pub row_walks : AllByRecursion IsRowWalk (row_jobs p)
    unfolding row_jobs by_prefix jobs_of_rows rows_of
    row_walks =
        let sources = sources_of p.at p.root p.members p.dev in
        let all = all_members (rows p) in
        all_by_key IsRowWalk (λ job. prefix_of job.rule) (jobs_of_rows sources) (falling (map (λ job. prefix_of job.rule) (jobs_of_rows sources)))
        (all_append IsRowWalk (jobs_of_kind Psr4 sources) (jobs_of_kind Psr0 sources)
        (of_sources Psr4 sources all_shown (all_front IsRow (rows_of_kind Psr4 sources) (rows_of_kind Psr0 sources) all))
        (of_sources Psr0 sources all_shown (all_behind IsRow (rows_of_kind Psr4 sources) (rows_of_kind Psr0 sources) all)))
