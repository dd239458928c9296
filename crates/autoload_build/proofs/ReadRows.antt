-- Each row has a walk, which reads what is shown where the row leads.
use Rattle.std.proofs.Common.{◌≡◌, ℕ, Bool, true, false, cond, List, ◌++◌, map, filter, Option, Some, None, inl, inr, refl, sym, ap, ◌∙◌, subst, append_assoc}
use Rattle.std.specs.Prelude.{codes, ◌||◌}
use Rattle.std.specs.List.{AllByRecursion, list_any}
use Rattle.path_name.specs.Orders.{bytes_are_equal}
use Rattle.manifest_read.specs.declared.types.Autoload.{Autoload}
use Rattle.manifest_read.specs.declared.types.PathText.{PathText}
use Rattle.tree_dev.specs.Trees.{FileTree}
use Rattle.tree_dev.specs.Projects.{is_within, vendor_path}
use Rattle.class_paths.specs.declared.types.Route.{Route}
use Rattle.class_paths.specs.declared.types.RouteKind.{RouteKind}
use Rattle.class_paths.specs.declared.types.RouteKind.TheVariants.{Psr4, Psr0}
use Rattle.class_paths.proofs.Members.{Member, all_member, filter_member}
use Rattle.class_paths.proofs.TriedRows.{member_append}
use Rattle.psr_routes.specs.declared.types.Placed.{Placed}
use Rattle.psr_routes.specs.Routes.{Source, prefixes_of, root_sources, rows_of, rows_of_kind, rows_of_prefix, rows_of_source, sources_of}
use Rattle.class_walk.specs.Walks.{ends_in, is_skipped, last_of}
use Rattle.class_walk.specs.declared.job.WalkJob.{WalkJob}
use Rattle.autoload_build.specs.ClassAgreement.{IsShown, file_in, file_of_package, root_rows}
use Rattle.autoload_build.specs.Jobs.{Project, by_prefix, falling, falls, job_of, jobs_of_kind, jobs_of_prefix, jobs_of_rows, jobs_of_source, left_out, place_of, prefix_of, row_jobs, rows, rule_of, skipped_for}
use Rattle.autoload_build.proofs.FallingKeys.{falls_total, tied}
use Rattle.autoload_build.proofs.KeyGroups.{all_keys}
use Rattle.autoload_build.proofs.ListMembers.{any_passes, flat_member, mapped_member, member_behind, member_flat, member_front, unmapped}
use Rattle.autoload_build.proofs.RowWalks.{all_of_sources}

-- no item is lost when walks are brought in order
in_order : (jobs : List WalkJob) (job : WalkJob) → Member job jobs → Member job (by_prefix jobs)
unfolding by_prefix falling
in_order jobs job there =
    let key = λ (one : WalkJob). prefix_of one.rule in
    let texts = falling (map key jobs) in
    let found = any_passes (bytes_are_equal (key job)) texts (all_member (λ one. list_any (bytes_are_equal (key one)) texts ≡ true) jobs job (all_keys falls falls_total tied key jobs) there) in
    flat_member (λ text. filter (λ one. bytes_are_equal (key one) text) jobs) texts found.one job found.within (filter_member (λ one. bytes_are_equal (key one) found.one) jobs job there found.passes)

-- ---- rules whose shown files are read

module _ (p : Project) (read shown : FileTree) where
  -- what is shown at a path below the folder of rules is read by their walks, but by the root's not in `vendor`
  pub record IsSourceRead (source : Source) : Type 0 where
    pub reads : (below : List (List ℕ)) (bytes : List ℕ) → file_in shown (source.folder ++ below) ≡ Some bytes → ends_in (codes ".php") (last_of (source.folder ++ below)) ≡ true
        → (Member source (root_sources p.at p.root p.dev) → is_within (vendor_path p.at) (source.folder ++ below) ≡ false)
        → (is_skipped (skipped_for source) (place_of source ++ below) ≡ false) × (file_in read (place_of source ++ below) ≡ Some bytes)

  -- a walk of a row's folder, which reads what is shown where the row leads
  pub record IsReadRow (row : Route) : Type 0 where
    pub job : WalkJob
    pub is_job : Member job (row_jobs p)
    pub folder : job.shown ≡ row.folder
    pub rule : job.rule ≡ rule_of row.kind row.prefix
    pub reads : (tail : List (List ℕ)) (bytes : List ℕ) → file_in shown (row.folder ++ tail) ≡ Some bytes → ends_in (codes ".php") (last_of (row.folder ++ tail)) ≡ true
        → (Member row (root_rows p) → is_within (vendor_path p.at) (row.folder ++ tail) ≡ false)
        → (is_skipped job.skip (job.at ++ tail) ≡ false) × (file_in read (job.at ++ tail) ≡ Some bytes)

  module _ (is : IsShown p read shown) where
    root_read : (rules : Autoload) → Member (record { owner = None; folder = p.at; rules = rules }) (root_sources p.at p.root p.dev) → IsSourceRead (record { owner = None; folder = p.at; rules = rules })
    root_read rules there = record {
      reads = λ below bytes has ending own.
          let outside = own there in
          (kept (is_within (vendor_path p.at) (p.at ++ below)) outside, sym (is.own (p.at ++ below) outside ending) ∙ has);
    }
      where
        kept : (b : Bool) → b ≡ false → (b || false) ≡ false
        kept true e = e
        kept false e = refl

    package_read : (one : Placed) (rules : Autoload) → ((below : List (List ℕ)) → file_in shown (one.shown ++ below) ≡ file_of_package read one below) → IsSourceRead (record { owner = Some one; folder = one.shown; rules = rules })
    package_read one rules same = record { reads = λ below bytes has ending own. by (is_skipped (left_out one) (one.at ++ below)) (file_in read (one.at ++ below)) bytes (sym (same below) ∙ has) }
      where
        by : (b : Bool) (file : Option (List ℕ)) (bytes : List ℕ) → cond b None file ≡ Some bytes → (b ≡ false) × (file ≡ Some bytes)
        by true file bytes e = absurd cc
        by false file bytes e = (refl, e)

    all_read : AllByRecursion IsSourceRead (sources_of p.at p.root p.members p.dev)
    all_read = all_of_sources p IsSourceRead (λ (one : Placed). (below : List (List ℕ)) → file_in shown (one.shown ++ below) ≡ file_of_package read one below) root_read package_read is.packages

    kind_read : (kind : RouteKind) (row : Route) → ((job : WalkJob) → Member job (jobs_of_kind kind (sources_of p.at p.root p.members p.dev)) → Member job (row_jobs p))
        → ((one : Route) → Member one (rows_of_kind kind (root_sources p.at p.root p.dev)) → Member one (root_rows p))
        → Member row (rows_of_kind kind (sources_of p.at p.root p.members p.dev)) → IsReadRow row
    kind_read kind row to_jobs to_rows there =
        let sources = sources_of p.at p.root p.members p.dev in
        let by_source = member_flat (rows_of_source kind) sources row there in
        let source = by_source.one in
        let by_dirs = member_flat (rows_of_prefix kind source.folder) (prefixes_of kind source.rules) row by_source.made in
        let dirs = by_dirs.one in
        let route = λ (f : PathText). let made : Route = record { kind = kind; prefix = dirs.prefix; folder = source.folder ++ f.path } in made in
        let by_folder = unmapped route dirs.folders row by_dirs.made in
        let f = by_folder.one in
        let job = job_of (rule_of kind dirs.prefix) source f in
        let is_read = all_member IsSourceRead sources source all_read by_source.is_one in
        subst IsReadRow by_folder.made (record {
          job = job;
          is_job = to_jobs job (flat_member (jobs_of_source kind) sources source job by_source.is_one
              (flat_member (jobs_of_prefix kind source) (prefixes_of kind source.rules) dirs job by_dirs.is_one (mapped_member (job_of (rule_of kind dirs.prefix) source) dirs.folders f by_folder.is_one)));
          folder = refl;
          rule = refl;
          reads = λ tail bytes has ending own.
              let here = append_assoc (place_of source) f.path tail in
              let there = append_assoc source.folder f.path tail in
              let found = is_read.reads (f.path ++ tail) bytes (ap (file_in shown) (sym there) ∙ has) (ap (λ path. ends_in (codes ".php") (last_of path)) (sym there) ∙ ending)
              (λ of_root. ap (is_within (vendor_path p.at)) (sym there) ∙ own (to_rows (route f) (flat_member (rows_of_source kind) (root_sources p.at p.root p.dev) source (route f) of_root
              (flat_member (rows_of_prefix kind source.folder) (prefixes_of kind source.rules) dirs (route f) by_dirs.is_one (mapped_member route dirs.folders f by_folder.is_one))))) in
              (ap (is_skipped (skipped_for source)) here ∙ found.0, ap (file_in read) here ∙ found.1);
        })

    pub row_read : (row : Route) → Member row (rows p) → IsReadRow row
    unfolding rows_of row_jobs jobs_of_rows
    row_read row there =
        let sources = sources_of p.at p.root p.members p.dev in
        let own = root_sources p.at p.root p.dev in
        let all = jobs_of_rows sources in
        elim (member_append row (rows_of_kind Psr4 sources) (rows_of_kind Psr0 sources) there) [
          | inl first ↦ kind_read Psr4 row (λ job made. in_order all job (member_front job (jobs_of_kind Psr4 sources) (jobs_of_kind Psr0 sources) made))
              (λ one made. member_front one (rows_of_kind Psr4 own) (rows_of_kind Psr0 own) made) first
          | inr second ↦ kind_read Psr0 row (λ job made. in_order all job (member_behind job (jobs_of_kind Psr4 sources) (jobs_of_kind Psr0 sources) made))
              (λ one made. member_behind one (rows_of_kind Psr4 own) (rows_of_kind Psr0 own) made) second
        ]
