-- Tables that were built, whose files stand.
use Rattle.std.proofs.Common.{◌≡◌, ℕ, Bool, false, List, [], ◌∷◌, ◌++◌, Option, Some, Result, Ok, Err, refl, ap, ◌∙◌}
use Rattle.path_name.specs.Given.{◌>>=◌}
use Rattle.tree_dev.specs.Changes.{is_root}
use Rattle.tree_dev.specs.Projects.{file_at}
use Rattle.tree_dev.specs.Trees.{FileTree}
use Rattle.install_world.specs.InFlight.{NoJournal}
use Rattle.class_lookup.specs.Lookup.{has_file, lookup_in}
use Rattle.class_paths.specs.Search.{search_file}
use Rattle.class_walk.specs.declared.job.Scanned.{Scanned}
use Rattle.table_print.specs.AutoloadText.{autoload_text}
use Rattle.table_print.specs.TablePrinting.{class_table_text, file_table_text, prefix_table_text, printed, state_text}
use Rattle.table_scan.specs.TableFaults as grammar
use Rattle.table_scan.specs.declared.types.Mode.{Mode}
use Rattle.table_scan.specs.declared.types.TableFile.{TableFile}
use Rattle.table_scan.specs.declared.types.TableFile.TheVariants as files
use Rattle.table_scan.specs.declared.types.TableTexts.{TableTexts}
use Rattle.table_scan.specs.declared.types.Tables.{Tables}
use Rattle.autoload_build.specs.BuiltTables.{classes_of, tables_of}
use Rattle.autoload_build.specs.Jobs.{Project, rows}
use Rattle.run_answers.specs.declared.refusal.Refusal.{Refusal}
use Rattle.project_files.specs.Places.{table_place}
use Rattle.project_files.specs.Texts.{text_in}
use Rattle.table_files.specs.Readable.{texts_at}
use Rattle.table_files.specs.Written.{AreReadBack, file_at_place, file_checked, files_checked, text_checked, written_files}
use Rattle.table_files.specs.declared.written.FilePlace.TheVariants as places
use Rattle.table_files.specs.declared.written.WrittenFile.{WrittenFile}
use Rattle.composer_top.specs.Opened.{AreTablesStanding, OpensByRows, searched_in}
use Rattle.composer_top.specs.Outcome.Lookup.{found_in, lookup_outcome, named, or_nothing}
use Rattle.composer_top.proofs.LookedUp.{text_read, word_looked_up}

-- ---- files that pass the test of their lengths

abbrev Passed : Type 0
Passed = Result (Unit {0}) Refusal

two : (first rest : Passed) → (first >>= λ done. rest) ≡ Ok tt → (first ≡ Ok tt) × (rest ≡ Ok tt)
two (Ok tt) rest e = (refl, e)
two (Err refusal) rest e = absurd cc

module _ (project : List (List ℕ)) where
  next : (file : WrittenFile) (rest : List WrittenFile) → files_checked project (file ∷ rest) ≡ Ok tt → (file_checked project file ≡ Ok tt) × (files_checked project rest ≡ Ok tt)
  next file rest e = two (file_checked project file) (files_checked project rest) e

  abbrev Passes : WrittenFile → Type 0
  Passes file = file_checked project file ≡ Ok tt

  five_pass : (a b c d e : WrittenFile) (rest : List WrittenFile) → files_checked project (a ∷ b ∷ c ∷ d ∷ e ∷ rest) ≡ Ok tt → Passes a × Passes b × Passes c × Passes d × Passes e
  five_pass a b c d e rest passes =
      let one = next a (b ∷ c ∷ d ∷ e ∷ rest) passes in
      let two = next b (c ∷ d ∷ e ∷ rest) one.1 in
      let three = next c (d ∷ e ∷ rest) two.1 in
      let four = next d (e ∷ rest) three.1 in
      let five = next e rest four.1 in
      (one.0, two.0, three.0, four.0, five.0)

  table_under : (table : TableFile) → is_root (table_place project table) ≡ false
  table_under table = by project
    where
      by : (at : List (List ℕ)) → is_root (table_place at table) ≡ false
      by [] = refl
      by (name ∷ at) = refl

  -- a table's text that stands
  module _ (u : FileTree) (table : TableFile) where
    abbrev pub Stands : Type 0
    Stands = (some : List ℕ) × (text_in u (table_place project table) ≡ Ok (Some some)) × (file_at u (table_place project table) ≡ Some some)

    stands : (text : List ℕ) → file_at u (table_place project table) ≡ Some text → text_checked (table_place project table) (Some text) ≡ Ok tt → Stands
    stands text there passes = (text, text_read u (table_place project table) text (table_under table) there passes, there)

  -- five of them
  module _ (u : FileTree) where
    abbrev At : TableFile → List ℕ → Type 0
    At some text = file_at u (table_place project some) ≡ Some text

    abbrev Short : TableFile → List ℕ → Type 0
    Short some text = text_checked (table_place project some) (Some text) ≡ Ok tt

    five : (psr4 psr0 classes listed state : List ℕ) → Short files.Psr4 psr4 → Short files.Psr0 psr0 → Short files.ClassMap classes → Short files.Files listed → Short files.State state
        → At files.Psr4 psr4 → At files.Psr0 psr0 → At files.ClassMap classes → At files.Files listed → At files.State state → (table : TableFile) → Stands u table
    five psr4 psr0 classes listed state a b d e f pa pb pd pe pf files.Psr4 = stands u files.Psr4 psr4 pa a
    five psr4 psr0 classes listed state a b d e f pa pb pd pe pf files.Psr0 = stands u files.Psr0 psr0 pb b
    five psr4 psr0 classes listed state a b d e f pa pb pd pe pf files.ClassMap = stands u files.ClassMap classes pd d
    five psr4 psr0 classes listed state a b d e f pa pb pd pe pf files.Files = stands u files.Files listed pe e
    five psr4 psr0 classes listed state a b d e f pa pb pd pe pf files.State = stands u files.State state pf f

-- ---- tables that were built

module _ (project : List (List ℕ)) (u : FileTree) (p : Project) (mode : Mode) (generation : ℕ) (found : List Scanned) where
  abbrev built : Tables
  built = tables_of p mode generation found

  module _ (installed : Option (List ℕ)) (rest : List WrittenFile) (same : texts_at project u ≡ printed project built) where
    texts : files_checked project (written_files (printed project built) installed ++ rest) ≡ Ok tt → (table : TableFile) → Stands project u table
    unfolding written_files printed tables_of
    texts passes table =
        let psr4 = prefix_table_text project files.Psr4 built.psr4 in
        let psr0 = prefix_table_text project files.Psr0 built.psr0 in
        let classes = class_table_text project built.class_map in
        let listed = file_table_text project built.files in
        let state = state_text (record { mode = mode; generation = generation }) in
        let pass = five_pass project (file_at_place (places.Table files.Psr4) (Some psr4)) (file_at_place (places.Table files.Psr0) (Some psr0)) (file_at_place (places.Table files.ClassMap) (Some classes))
        (file_at_place (places.Table files.Files) (Some listed)) (file_at_place (places.Table files.State) (Some state))
        (file_at_place places.Installed installed ∷ file_at_place places.Autoloader (Some autoload_text) ∷ rest) passes in
        five project u psr4 psr0 classes listed state pass.0 pass.1 pass.2 pass.3 pass.4 (ap (λ (it : TableTexts). it.psr4) same) (ap (λ (it : TableTexts). it.psr0) same) (ap (λ (it : TableTexts). it.class_map) same)
        (ap (λ (it : TableTexts). it.files) same) (ap (λ (it : TableTexts). it.state) same) table

    pub built_stand : NoJournal project u → files_checked project (written_files (printed project built) installed ++ rest) ≡ Ok tt → AreReadBack project built → AreTablesStanding project u built
    built_stand none passes back = record { no_journal = none; texts = texts passes; read = ap (grammar.tables_of project) same ∙ back }

-- ---- what plain ones open

module _ (p : Project) (found : List Scanned) (u : FileTree) (tables : Tables) (standing : AreTablesStanding p.at u tables)
    (opens : (is_file : List (List ℕ) → Bool) (name : List ℕ) → lookup_in tables is_file name ≡ search_file is_file (rows p) (classes_of found) name) where
  found_searched : (name : List ℕ) → found_in u tables name ≡ or_nothing (search_file (has_file u) (rows p) (classes_of found) name)
  unfolding found_in
  found_searched name = ap or_nothing (opens (has_file u) name)

  searched : (word : List ℕ) → lookup_outcome u p.at word ≡ searched_in u (rows p) (classes_of found) word
  searched word = word_looked_up p.at u tables standing word ∙ by (named word)
    where
      by : (name : Result (List ℕ) Refusal) → (name >>= found_in u tables) ≡ (name >>= λ some. or_nothing (search_file (has_file u) (rows p) (classes_of found) some))
      by (Ok name) = found_searched name
      by (Err refusal) = refl

  pub opens_by_rows : OpensByRows p found u
  opens_by_rows = record { tables = tables; standing = standing; opens = opens; looked_up = searched }
