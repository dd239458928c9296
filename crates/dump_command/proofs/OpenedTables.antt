-- What tables that were built open.
use Rattle.std.proofs.Common.{◌≡◌, ℕ, Bool, true, List, ◌++◌, None, is_some, Result, Ok, Err, refl, sym, ap, subst, ◌∙◌}
use Rattle.std.specs.Prelude.{◌⊎◌}
use Rattle.path_name.specs.Given.{◌>>=◌}
use Rattle.tree_dev.specs.Trees.{FileTree, IsTree}
use Rattle.class_paths.specs.ClassNames.{IsClassName}
use Rattle.class_paths.specs.Search.{listed_file, search_file}
use Rattle.class_lookup.specs.Lookup.{has_file, lookup_in}
use Rattle.class_walk.specs.Walks.{AreScansOf, Walked}
use Rattle.class_walk.specs.declared.fault.WalkFault.{WalkFault}
use Rattle.class_walk.specs.declared.job.Scanned.{Scanned}
use Rattle.table_scan.specs.declared.types.Mode.{Mode}
use Rattle.table_scan.specs.declared.types.Mode.TheVariants.{Authoritative, Optimised, Plain}
use Rattle.table_scan.specs.declared.types.Tables.{Tables}
use Rattle.autoload_build.specs.Answers.{AreFound, walks_of}
use Rattle.autoload_build.specs.ClassAgreement.{IsInScanReach, IsShown, IsUnambiguous}
use Rattle.autoload_build.specs.BuiltTables.{class_map_of, classes_of, tables_of}
use Rattle.autoload_build.specs.Jobs.{HasReadManifests, Project, rows}
use Rattle.run_answers.specs.declared.refusal.Refusal.{Refusal}
use Rattle.table_files.specs.Modes.{next_generation}
use Rattle.table_files.specs.NewTables.{AreNewTables, AreTablesOf, built_tables}
use Rattle.table_files.specs.declared.building.NewTables.{NewTables}
use Rattle.table_files.specs.declared.building.Setting.{Setting}
use Rattle.dump_command.specs.ClassMaps.{OpenAuthoritative, OpenOptimised}
use Rattle.dump_command.specs.Standing.{project_of}
use Rattle.dump_command.specs.declared.standing.Standing.{Standing}

module _ (t : FileTree) (p : Project) (setting : Setting) (left after : ℕ) (new : NewTables) where
  made_with : (found : List Scanned) (rest : ℕ) (g : Result ℕ Refusal)
      → ◌≡◌ {A = Result (NewTables × ℕ) Refusal} (Ok (new, after)) (g >>= λ generation. Ok (built_tables p setting.mode found generation, rest))
      → new.tables ≡ tables_of p setting.mode new.generation found
  made_with found rest (Ok generation) is =
      let both : ◌≡◌ {A = NewTables × ℕ} (new, after) (built_tables p setting.mode found generation, rest) = cc in
      ap (λ (z : NewTables × ℕ). z.0.tables) both ∙ ap (λ (n : ℕ). tables_of p setting.mode n found) (sym (ap (λ (z : NewTables × ℕ). z.0.generation) both))
  made_with found rest (Err refusal) is = absurd cc

  abbrev pub IsBuilt : Type 0
  IsBuilt = (walked : Walked) × (found : List Scanned) × (walks_of t p setting.mode left ≡ Ok walked) × AreScansOf walked.found found × (new.tables ≡ tables_of p setting.mode new.generation found)

  pub built_of : AreNewTables t p setting left (Ok (new, after)) → IsBuilt
  unfolding AreNewTables
  built_of are = by (walks_of t p setting.mode left) refl are
    where
      by : (w : Result Walked WalkFault) → walks_of t p setting.mode left ≡ w → AreTablesOf p setting w (Ok (new, after)) → IsBuilt
      by (Ok walked) e made = (walked, made.0, e, made.1, made_with made.0 walked.left (next_generation setting.stands) made.2)
      by (Err fault) e made = absurd cc

-- Plain tables open what the rows and the listed classes say.
pub plain_opens : ((p : Project) (generation : ℕ) (listed : List Scanned) (is_file : List (List ℕ) → Bool) (name : List ℕ)
    → lookup_in (tables_of p Plain generation listed) is_file name ≡ search_file is_file (rows p) (classes_of listed) name)
    → (project : List (List ℕ)) (t : FileTree) (left after : ℕ) (standing : Standing) (new : NewTables) (is_file : List (List ℕ) → Bool) (name : List ℕ)
    → AreNewTables t (project_of project standing) standing.setting left (Ok (new, after)) → standing.setting.mode ≡ Plain
    → (walked : Walked) × (found : List Scanned) × (walks_of t (project_of project standing) Plain left ≡ Ok walked) × AreScansOf walked.found found
    × (lookup_in new.tables is_file name ≡ search_file is_file (rows (project_of project standing)) (classes_of found) name)
plain_opens law project t left after standing new is_file name are plain =
    let p = project_of project standing in
    let b = built_of t p standing.setting left after new are in (
      b.0,
      b.1,
      subst (λ (mode : Mode). walks_of t p mode left ≡ Ok b.0) plain b.2,
      b.3,
      ap (λ (tables : Tables). lookup_in tables is_file name) (b.4 ∙ ap (λ (mode : Mode). tables_of p mode new.generation b.1) plain) ∙ law p new.generation b.1 is_file name,
    )

-- ---- tables with the classes of rows

map_of_built : (p : Project) (mode : Mode) (generation : ℕ) (found : List Scanned) → (tables_of p mode generation found).class_map ≡ class_map_of (classes_of found)
unfolding tables_of
map_of_built p mode generation found = refl

module _ (parts_law : (t : FileTree) (p : Project) (left : ℕ) (all : Walked) (found : List Scanned) → walks_of t p Optimised left ≡ Ok all → AreScansOf all.found found
    → (listed : List Scanned) × (walked : List Scanned) × (found ≡ listed ++ walked) × AreFound t p left listed walked)
    (project : List (List ℕ)) (t : FileTree) (left after : ℕ) (standing : Standing) (new : NewTables)
    (are : AreNewTables t (project_of project standing) standing.setting left (Ok (new, after))) where
  abbrev IsBuiltOf : Mode → List Scanned → List Scanned → Type 0
  IsBuiltOf mode listed walked = new.tables ≡ tables_of (project_of project standing) mode new.generation (listed ++ walked)

  -- what optimised ones open, by the laws of these
  pub optimised_opens : ((p : Project) (generation left : ℕ) (read shown : FileTree) (listed walked : List Scanned) (name : List ℕ) → AreFound read p left listed walked → IsShown p read shown
      → IsUnambiguous shown (rows p) (classes_of listed) name
      → lookup_in (tables_of p Optimised generation (listed ++ walked)) (has_file shown) name ≡ search_file (has_file shown) (rows p) (classes_of listed) name)
      → ((p : Project) (generation : ℕ) (listed walked : List Scanned) (is_file : List (List ℕ) → Bool) (name : List ℕ)
      → (is_some (listed_file (classes_of listed) name) ≡ true) ⊎ (listed_file (classes_of walked) name ≡ None)
      → lookup_in (tables_of p Optimised generation (listed ++ walked)) is_file name ≡ search_file is_file (rows p) (classes_of listed) name)
      → standing.setting.mode ≡ Optimised → OpenOptimised t (project_of project standing) left new.tables
  optimised_opens law others mode =
      let p = project_of project standing in
      let b = built_of t p standing.setting left after new are in
      let parts = parts_law t p left b.0 b.1 (subst (λ (m : Mode). walks_of t p m left ≡ Ok b.0) mode b.2) b.3 in
      let same : IsBuiltOf Optimised parts.0 parts.1 =
      b.4 ∙ ap (λ (m : Mode). tables_of p m new.generation b.1) mode ∙ ap (λ (found : List Scanned). tables_of p Optimised new.generation found) parts.2 in
      subst (λ (tables : Tables). OpenOptimised t p left tables) (sym same) (record {
        listed = parts.0;
        walked = parts.1;
        are_found = parts.3;
        class_map = map_of_built p Optimised new.generation (parts.0 ++ parts.1);
        unambiguous = λ shown name stands one. law p new.generation left t shown parts.0 parts.1 name parts.3 stands one;
        others = λ is_file name other. others p new.generation parts.0 parts.1 is_file name other;
      })

  -- and authoritative ones
  pub authoritative_opens : ((t : FileTree) (p : Project) (left : ℕ) → walks_of t p Authoritative left ≡ walks_of t p Optimised left)
      → ((p : Project) (generation : ℕ) (found : List Scanned) (is_file : List (List ℕ) → Bool) (name : List ℕ)
      → lookup_in (tables_of p Authoritative generation found) is_file name ≡ listed_file (classes_of found) name)
      → ((p : Project) (generation left : ℕ) (read shown : FileTree) (listed walked : List Scanned) (name : List ℕ) → IsTree read → HasReadManifests p → AreFound read p left listed walked
      → IsShown p read shown → IsClassName name → IsUnambiguous shown (rows p) (classes_of listed) name → IsInScanReach shown p name
      → lookup_in (tables_of p Authoritative generation (listed ++ walked)) (has_file shown) name ≡ search_file (has_file shown) (rows p) (classes_of listed) name)
      → standing.setting.mode ≡ Authoritative → IsTree t → HasReadManifests (project_of project standing) → OpenAuthoritative t (project_of project standing) left new.tables
  authoritative_opens same_walks mapped law mode tree formed =
      let p = project_of project standing in
      let b = built_of t p standing.setting left after new are in
      let parts = parts_law t p left b.0 b.1 (sym (same_walks t p left) ∙ subst (λ (m : Mode). walks_of t p m left ≡ Ok b.0) mode b.2) b.3 in
      let same : IsBuiltOf Authoritative parts.0 parts.1 =
      b.4 ∙ ap (λ (m : Mode). tables_of p m new.generation b.1) mode ∙ ap (λ (found : List Scanned). tables_of p Authoritative new.generation found) parts.2 in
      subst (λ (tables : Tables). OpenAuthoritative t p left tables) (sym same) (record {
        listed = parts.0;
        walked = parts.1;
        are_found = parts.3;
        class_map = map_of_built p Authoritative new.generation (parts.0 ++ parts.1);
        mapped = λ is_file name. mapped p new.generation (parts.0 ++ parts.1) is_file name;
        in_reach = λ shown name stands is_name one reach. law p new.generation left t shown parts.0 parts.1 name tree formed parts.3 stands is_name one reach;
      })
