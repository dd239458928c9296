-- What is answered from what the walks answer.
use Rattle.std.proofs.Common.{◌≡◌, ℕ, List, Ok, Err, Vec, Global, sym, ap, subst, ◌∙◌}
use Rattle.std.specs.Prelude.{Result, IsErrAnd}
use Rattle.std.specs.List.{flat_map}
use Rattle.tree_dev.specs.Trees.{FileTree}
use Rattle.psr_routes.specs.Routes.{Source, sources_of, loading_sources_of}
use Rattle.class_paths.specs.declared.types.Route.{Route}
use Rattle.class_walk.specs.Faults.{Answers, Refuses}
use Rattle.class_walk.specs.Walks.{Walked, class_scan}
use Rattle.class_walk.specs.declared.fault.WalkFault.{WalkFault}
use Rattle.class_walk.specs.declared.job.Scanned.{Scanned}
use Rattle.table_scan.specs.declared.types.ClassRow.{ClassRow}
use Rattle.table_scan.specs.declared.types.FileRow.{FileRow}
use Rattle.table_scan.specs.declared.types.Mode.{Mode}
use Rattle.table_scan.specs.declared.types.State.{State}
use Rattle.table_scan.specs.declared.types.Tables.{Tables}
use Rattle.autoload_build.specs.Jobs.{Project, patterns_of, rows}
use Rattle.autoload_build.specs.Answers.{Builds, walks_of}
use Rattle.autoload_build.specs.BuiltTables.{class_map_of, classes_of, first_of_each, tables_of}
use Rattle.autoload_build.specs.Steps.{excluded_by, files_by, has_same_id, jobs_by_mode, tables_with}
use Rattle.autoload_build.proofs.ProjectJobs.{files_are, jobs_are, patterns_are}

module _ (p : Project) (mode : Mode) (sources : List Source) (is : sources ≡ sources_of p.at p.root p.members p.dev) where
  pub same_walks : (t : FileTree) (left : ℕ) → walks_of t p mode left ≡ class_scan t (jobs_by_mode mode sources) (flat_map excluded_by sources) left
  same_walks t left =
      ap (λ jobs. class_scan t jobs (patterns_of p) left) (sym (jobs_are p sources is mode))
      ∙ ap (λ patterns. class_scan t (jobs_by_mode mode sources) patterns left) (sym (patterns_are p sources is))

  pub refused : (t : FileTree) (before : ℕ) (fault : WalkFault) → Refuses fault (class_scan t (jobs_by_mode mode sources) (flat_map excluded_by sources) before) → Refuses fault (walks_of t p mode before)
  refused t before fault h = subst (Refuses fault) (sym (same_walks t before)) h

  pub built : (t : FileTree) (before left generation : ℕ) (found : Vec Scanned Global) (tables : Tables) → tables ≡ tables_of p mode generation found.items
      → Answers (class_scan t (jobs_by_mode mode sources) (flat_map excluded_by sources) before) left (Ok found) → Builds (walks_of t p mode before) p mode generation left (Ok tables)
  built t before left generation found tables made h = (h.0, found.items, same_walks t before ∙ h.1, h.2, made)

pub all_tables : (p : Project) (mode : Mode) (generation : ℕ) (found : List Scanned) (loaded : List Source) → loaded ≡ loading_sources_of p.at p.root p.members p.dev
    → tables_with (rows p) (class_map_of (classes_of found)) (first_of_each has_same_id (files_by p.root loaded)) (record { mode = mode; generation = generation }) ≡ tables_of p mode generation found
unfolding tables_of
all_tables p mode generation found loaded is = ap (λ files. tables_with (rows p) (class_map_of (classes_of found)) files (record { mode = mode; generation = generation })) (files_are p loaded is)

pub made : (p : Project) (mode : Mode) (generation : ℕ) (found : List Scanned) (loaded : List Source) (routes : List Route) (class_map : List ClassRow) (files : List FileRow) (tables : Tables)
    → tables ≡ tables_with routes class_map files (record { mode = mode; generation = generation }) → routes ≡ rows p → class_map ≡ class_map_of (classes_of found) → files ≡ first_of_each has_same_id (files_by p.root loaded)
    → loaded ≡ loading_sources_of p.at p.root p.members p.dev → tables ≡ tables_of p mode generation found
made p mode generation found loaded routes class_map files tables is own classes loads order =
    let state : State = record { mode = mode; generation = generation } in
    is ∙ ap (λ some. tables_with some class_map files state) own ∙ ap (λ some. tables_with (rows p) some files state) classes
    ∙ ap (λ some. tables_with (rows p) (class_map_of (classes_of found)) some state) loads ∙ all_tables p mode generation found loaded order

pub fault_builds : (wanted : Result Walked WalkFault) (p : Project) (mode : Mode) (generation left : ℕ) (r : Result Tables WalkFault) (fault : WalkFault) → IsErrAnd r (λ y. y ≡ fault) → Refuses fault wanted → Builds wanted p mode generation left r
fault_builds wanted p mode generation left (Ok x) fault is refuses = absurd is
fault_builds wanted p mode generation left (Err other) fault is refuses = subst (λ (f : WalkFault). Refuses f wanted) (sym is) refuses
