-- What a job of written files makes of the tables of a project.
use Rattle.std.proofs.Common.{◌≡◌, ℕ, Bool, true, cond, List, [], ◌∷◌, ◌++◌, codes, Option, Some, None, is_some, Ok, refl, sym, ap, ◌∙◌, inl, inr}
use Rattle.std.specs.Prelude.{◌⊎◌, ◌||◌}
use Rattle.std.proofs.Math.Bool.{or-true}
use Rattle.tree_dev.specs.Trees.{FileTree, behind}
use Rattle.tree_dev.specs.Projects.{file_at, is_project_part, is_within, lock_path}
use Rattle.tree_dev.proofs.Behind.{bytes_same}
use Rattle.install_world.specs.InFlight.{Files, HasFiles}
use Rattle.stage_job.specs.Jobs.{job_result, part_entry, put_or}
use Rattle.stage_job.specs.declared.job.Part.{Part}
use Rattle.stage_job.specs.declared.job.Source.TheVariants.{Bytes}
use Rattle.table_scan.specs.TableGrammar.{vendor_name}
use Rattle.table_scan.specs.TableNames.{table_name}
use Rattle.table_print.specs.TablePrinting.{class_table_text, file_table_text, prefix_table_text, printed, state_text}
use Rattle.class_walk.specs.declared.job.Scanned.{Scanned}
use Rattle.table_scan.specs.declared.types.Mode.{Mode}
use Rattle.autoload_build.specs.BuiltTables.{tables_of}
use Rattle.autoload_build.specs.Jobs.{Project}
use Rattle.table_scan.specs.declared.types.TableFile.{TableFile}
use Rattle.table_scan.specs.declared.types.TableFile.TheVariants as files
use Rattle.table_scan.specs.declared.types.TableTexts.{TableTexts}
use Rattle.project_files.specs.Places.{composer_name, table_place}
use Rattle.table_scan.specs.declared.types.Tables.{Tables}
use Rattle.table_files.specs.NewTables.{AreNewTables}
use Rattle.table_files.specs.declared.building.NewTables.{NewTables}
use Rattle.dump_command.specs.Dumping.{installed_text}
use Rattle.dump_command.specs.Standing.{project_of}
use Rattle.dump_command.specs.declared.standing.Standing.{Standing}
use Rattle.dump_command.proofs.OpenedTables.{built_of}
use Rattle.table_files.specs.Readable.{texts_at}
use Rattle.table_files.specs.Written.{file_at_place, parts_of, target_of, text_part, written_files}
use Rattle.table_files.specs.declared.written.FilePlace.TheVariants as places
use Rattle.table_files.specs.declared.written.WrittenFile.{WrittenFile}
use Rattle.table_files.proofs.WrittenParts.{AreTargets, IsFileApart, are_targets}

behind_same : (head a b : List (List ℕ)) → behind (head ++ a) (head ++ b) ≡ behind a b
behind_same [] a b = refl
behind_same (x ∷ head) a b = ap (λ (same : Bool). cond same (behind (head ++ a) (head ++ b)) None) (bytes_same x) ∙ behind_same head a b

abbrev pub IsAmong : WrittenFile → List WrittenFile → Type 0
IsAmong file [] = ⊥
IsAmong file (first ∷ rest) = (file ≡ first) ⊎ IsAmong file rest

apart_among : (target : List (List ℕ)) (written : List WrittenFile) (file : WrittenFile) → IsFileApart target written → IsAmong file written → behind target (target_of file) ≡ None
apart_among target [] file apart among = absurd among
apart_among target (first ∷ rest) file apart (inl same) = ap (λ (one : WrittenFile). behind target (target_of one)) same ∙ apart.0.0
apart_among target (first ∷ rest) file apart (inr later) = apart_among target rest file apart.1 later

module _ (project : List (List ℕ)) (t : FileTree) (old : Files) where
  -- a part elsewhere has no say
  pub skip : (target other : List (List ℕ)) (text : Option (List ℕ)) (rest : List Part) → behind target other ≡ None
      → job_result project t (text_part target text ++ rest) old (project ++ other) ≡ job_result project t rest old (project ++ other)
  unfolding job_result
  skip target other None rest apart = refl
  skip target other (Some text) rest apart =
      ap (λ (o : Option (List (List ℕ))). put_or t (Bytes text) o (job_result project t rest old (project ++ other))) (behind_same project target other ∙ apart)

  hit : (target : List (List ℕ)) (text : List ℕ) (rest : List Part) → job_result project t (text_part target (Some text) ++ rest) old (project ++ target) ≡ Some text
  unfolding job_result part_entry
  hit target text rest =
      ap (λ (o : Option (List (List ℕ))). put_or t (Bytes text) o (job_result project t rest old (project ++ target))) (behind_same project target target ∙ here target)
    where
      here : (path : List (List ℕ)) → behind path path ≡ Some []
      here [] = refl
      here (x ∷ path) = ap (λ (same : Bool). cond same (behind path path) None) (bytes_same x) ∙ here path

  -- a file that is written stands at its target
  pub written_at : (written : List WrittenFile) → AreTargets written → (file : WrittenFile) (text : List ℕ) → IsAmong file written → file.text ≡ Some text
      → job_result project t (parts_of written) old (project ++ target_of file) ≡ Some text
  written_at [] are file text among is = absurd among
  written_at (first ∷ rest) are file text (inl same) is =
      ap (λ (one : WrittenFile). job_result project t (text_part (target_of one) one.text ++ parts_of rest) old (project ++ target_of file)) (sym same)
      ∙ ap (λ (some : Option (List ℕ)). job_result project t (text_part (target_of file) some ++ parts_of rest) old (project ++ target_of file)) is ∙ hit (target_of file) text (parts_of rest)
  written_at (first ∷ rest) are file text (inr later) is =
      skip (target_of first) (target_of file) first.text (parts_of rest) (apart_among (target_of first) rest file are.1 later) ∙ written_at rest are.2 file text later is

in_vendor : (project : List (List ℕ)) (file : TableFile) → is_project_part project (table_place project file) ≡ true
unfolding is_project_part vendor_name
in_vendor project file =
    ap (λ (o : Option (List (List ℕ))). is_within (lock_path project) (table_place project file) || is_some o)
    (behind_same project (codes "vendor" ∷ []) (vendor_name ∷ composer_name ∷ table_name file ∷ []))
    ∙ or-true (is_within (lock_path project) (table_place project file))

-- ---- the tables

module _ (project : List (List ℕ)) (t u : FileTree) (old : Files) (texts : TableTexts) (installed : Option (List ℕ)) (parts : List Part)
    (same : parts ≡ parts_of (written_files texts installed)) (stand : HasFiles project u (job_result project t parts old)) where
  stands : (file : TableFile) (text : List ℕ) → IsAmong (file_at_place (places.Table file) (Some text)) (written_files texts installed) → file_at u (table_place project file) ≡ Some text
  stands file text among =
      stand.each (table_place project file) (in_vendor project file)
      ∙ ap (λ (some : List Part). job_result project t some old (table_place project file)) same
      ∙ written_at project t old (written_files texts installed) (are_targets texts installed) (file_at_place (places.Table file) (Some text)) text among refl

module _ (project : List (List ℕ)) (t u : FileTree) (old : Files) (psr4 psr0 class_map listed state : List ℕ) (installed : Option (List ℕ)) (parts : List Part) where
  abbrev five : TableTexts
  five = record { psr4 = Some psr4; psr0 = Some psr0; class_map = Some class_map; files = Some listed; state = Some state }

  -- the five texts stand in their places
  pub five_stand : parts ≡ parts_of (written_files five installed) → HasFiles project u (job_result project t parts old) → texts_at project u ≡ five
  unfolding written_files
  five_stand same stand = same_texts (file_at u (table_place project files.Psr4)) (file_at u (table_place project files.Psr0)) (file_at u (table_place project files.ClassMap))
      (file_at u (table_place project files.Files)) (file_at u (table_place project files.State))
      (stands project t u old five installed parts same stand files.Psr4 psr4 (inl refl)) (stands project t u old five installed parts same stand files.Psr0 psr0 (inr (inl refl)))
      (stands project t u old five installed parts same stand files.ClassMap class_map (inr (inr (inl refl)))) (stands project t u old five installed parts same stand files.Files listed (inr (inr (inr (inl refl)))))
      (stands project t u old five installed parts same stand files.State state (inr (inr (inr (inr (inl refl))))))
    where
      same_texts : (a b d e f : Option (List ℕ)) → a ≡ Some psr4 → b ≡ Some psr0 → d ≡ Some class_map → e ≡ Some listed → f ≡ Some state
          → ◌≡◌ {A = TableTexts} (record { psr4 = a; psr0 = b; class_map = d; files = e; state = f }) five
      same_texts a b d e f pa pb pd pe pf =
          ap (λ (x : Option (List ℕ)). record { psr4 = x; psr0 = b; class_map = d; files = e; state = f }) pa
          ∙ ap (λ (x : Option (List ℕ)). record { psr4 = Some psr4; psr0 = x; class_map = d; files = e; state = f }) pb
          ∙ ap (λ (x : Option (List ℕ)). record { psr4 = Some psr4; psr0 = Some psr0; class_map = x; files = e; state = f }) pd
          ∙ ap (λ (x : Option (List ℕ)). record { psr4 = Some psr4; psr0 = Some psr0; class_map = Some class_map; files = x; state = f }) pe
          ∙ ap (λ (x : Option (List ℕ)). record { psr4 = Some psr4; psr0 = Some psr0; class_map = Some class_map; files = Some listed; state = x }) pf

-- the texts of built tables
module _ (project : List (List ℕ)) (t u : FileTree) (old : Files) (p : Project) (mode : Mode) (generation : ℕ) (found : List Scanned) (installed : Option (List ℕ)) (parts : List Part) where
  pub printed_stand : parts ≡ parts_of (written_files (printed project (tables_of p mode generation found)) installed) → HasFiles project u (job_result project t parts old)
      → texts_at project u ≡ printed project (tables_of p mode generation found)
  unfolding printed tables_of
  printed_stand same stand =
      let tables = tables_of p mode generation found in
      five_stand project t u old (prefix_table_text project files.Psr4 tables.psr4) (prefix_table_text project files.Psr0 tables.psr0) (class_table_text project tables.class_map)
      (file_table_text project tables.files) (state_text (record { mode = mode; generation = generation })) installed parts same stand

-- the same of the tables of what stands
pub built_stand : (project : List (List ℕ)) (t u : FileTree) (left after : ℕ) (standing : Standing) (new : NewTables) (old : Files) (parts : List Part)
    → AreNewTables t (project_of project standing) standing.setting left (Ok (new, after)) → parts ≡ parts_of (written_files (printed project new.tables) (installed_text standing.is_listed))
    → HasFiles project u (job_result project t parts old) → texts_at project u ≡ printed project new.tables
built_stand project t u left after standing new old parts are same stand =
    let p = project_of project standing in
    let b = built_of t p standing.setting left after new are in
    printed_stand project t u old p standing.setting.mode new.generation b.1 (installed_text standing.is_listed) parts
    (same ∙ ap (λ (tables : Tables). parts_of (written_files (printed project tables) (installed_text standing.is_listed))) b.4) stand
    ∙ ap (λ (tables : Tables). printed project tables) (sym b.4)
