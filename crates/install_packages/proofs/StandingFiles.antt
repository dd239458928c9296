-- The tables and the lock that stand in a project once it is installed.
use Rattle.std.proofs.Common.{◌≡◌, ℕ, List, [], ◌∷◌, ◌++◌, Option, Some, Ok, ap, subst, ◌∙◌}
use Rattle.std.specs.Prelude.{IfSome}
use Rattle.std.specs.List.{AllByRecursion}
use Rattle.tree_dev.specs.Projects.{lock_path}
use Rattle.tree_dev.specs.Trees.{FileTree}
use Rattle.stage_job.specs.Jobs.{Files}
use Rattle.class_walk.specs.declared.job.Scanned.{Scanned}
use Rattle.project_files.specs.Places.{table_place}
use Rattle.table_scan.specs.TableFaults as grammar
use Rattle.table_scan.specs.declared.types.Mode.{Mode}
use Rattle.table_scan.specs.declared.types.TableFile.TheVariants as files
use Rattle.table_scan.specs.declared.types.TableTexts.{TableTexts}
use Rattle.table_print.specs.AutoloadText.{autoload_text}
use Rattle.table_print.specs.TablePrinting.{class_table_text, file_table_text, prefix_table_text, printed, state_text}
use Rattle.autoload_build.specs.BuiltTables.{tables_of}
use Rattle.autoload_build.specs.Jobs.{Project}
use Rattle.install_choice.specs.declared.chosen.Chosen.{Chosen}
use Rattle.install_commands.specs.declared.work.Work.{Work}
use Rattle.table_files.specs.NewTables.{project_with}
use Rattle.table_files.specs.Readable.{texts_of}
use Rattle.table_files.specs.Written.{file_at_place, place_in, written_files}
use Rattle.table_files.specs.declared.building.Setting.{Setting}
use Rattle.table_files.specs.declared.written.FilePlace.TheVariants as places
use Rattle.table_files.specs.declared.written.WrittenFile.{WrittenFile}
use Rattle.install_packages.specs.InstallParts.{install_files, lock_file_of}
use Rattle.install_packages.specs.Installations.{AreWrittenAt, Installation, installed_files, tables_in}
use Rattle.install_packages.proofs.NewProjects.{files_stand}

-- ---- one of many

module _ {X : Type 0} (P : X → Type 0) where
  first : (x : X) (xs : List X) → AllByRecursion P (x ∷ xs) → P x
  first x xs all = all.0

  rest : (x : X) (xs : List X) → AllByRecursion P (x ∷ xs) → AllByRecursion P xs
  rest x xs all = all.1

  front : (xs ys : List X) → AllByRecursion P (xs ++ ys) → AllByRecursion P xs
  front [] ys all = tt
  front (x ∷ xs) ys all = (all.0, front xs ys all.1)

  last : (xs : List X) (x : X) → AllByRecursion P (xs ++ x ∷ []) → P x
  last [] x all = first x [] all
  last (y ∷ xs) x all = last xs x (rest y (xs ++ x ∷ []) all)

  five : (a b d e f : X) (more : List X) → AllByRecursion P (a ∷ b ∷ d ∷ e ∷ f ∷ more) → P a × P b × P d × P e × P f
  five a b d e f more all =
      let one = rest a (b ∷ d ∷ e ∷ f ∷ more) all in
      let two = rest b (d ∷ e ∷ f ∷ more) one in
      let three = rest d (e ∷ f ∷ more) two in
      let four = rest e (f ∷ more) three in
      (first a (b ∷ d ∷ e ∷ f ∷ more) all, first b (d ∷ e ∷ f ∷ more) one, first d (e ∷ f ∷ more) two, first e (f ∷ more) three, first f more four)

-- ---- the tables

module _ (at : List (List ℕ)) (all : Files) where
  abbrev Stands : WrittenFile → Type 0
  Stands file = IfSome file.text (λ text. all (place_in at file.place) ≡ Some text)

  same_texts : (psr4 psr0 class_map listed state : List ℕ) (a b d e f : Option (List ℕ)) → a ≡ Some psr4 → b ≡ Some psr0 → d ≡ Some class_map → e ≡ Some listed → f ≡ Some state
      → ◌≡◌ {A = TableTexts} (record { psr4 = a; psr0 = b; class_map = d; files = e; state = f }) (record { psr4 = Some psr4; psr0 = Some psr0; class_map = Some class_map; files = Some listed; state = Some state })
  same_texts psr4 psr0 class_map listed state a b d e f pa pb pd pe pf =
      ap (λ (x : Option (List ℕ)). record { psr4 = x; psr0 = b; class_map = d; files = e; state = f }) pa
      ∙ ap (λ (x : Option (List ℕ)). record { psr4 = Some psr4; psr0 = x; class_map = d; files = e; state = f }) pb
      ∙ ap (λ (x : Option (List ℕ)). record { psr4 = Some psr4; psr0 = Some psr0; class_map = x; files = e; state = f }) pd
      ∙ ap (λ (x : Option (List ℕ)). record { psr4 = Some psr4; psr0 = Some psr0; class_map = Some class_map; files = x; state = f }) pe
      ∙ ap (λ (x : Option (List ℕ)). record { psr4 = Some psr4; psr0 = Some psr0; class_map = Some class_map; files = Some listed; state = x }) pf

  -- five texts that stand in their places
  five_texts : (psr4 psr0 class_map listed state : List ℕ) (installed : Option (List ℕ))
      → AllByRecursion Stands (written_files (record { psr4 = Some psr4; psr0 = Some psr0; class_map = Some class_map; files = Some listed; state = Some state }) installed)
      → texts_of at all ≡ record { psr4 = Some psr4; psr0 = Some psr0; class_map = Some class_map; files = Some listed; state = Some state }
  unfolding written_files
  five_texts psr4 psr0 class_map listed state installed stand =
      let it = five Stands (file_at_place (places.Table files.Psr4) (Some psr4)) (file_at_place (places.Table files.Psr0) (Some psr0)) (file_at_place (places.Table files.ClassMap) (Some class_map))
      (file_at_place (places.Table files.Files) (Some listed)) (file_at_place (places.Table files.State) (Some state))
      (file_at_place places.Installed installed ∷ file_at_place places.Autoloader (Some autoload_text) ∷ []) stand in
      same_texts psr4 psr0 class_map listed state (all (place_in at (places.Table files.Psr4))) (all (place_in at (places.Table files.Psr0))) (all (place_in at (places.Table files.ClassMap)))
      (all (place_in at (places.Table files.Files))) (all (place_in at (places.Table files.State))) it.0 it.1 it.2 it.3 it.4

  pub printed_texts : (p : Project) (mode : Mode) (generation : ℕ) (found : List Scanned) (installed : List ℕ) (lock : Option (List ℕ))
      → AreWrittenAt at all (install_files (printed at (tables_of p mode generation found)) installed lock) → texts_of at all ≡ printed at (tables_of p mode generation found)
  unfolding printed tables_of
  printed_texts p mode generation found installed lock stand =
      let tables = tables_of p mode generation found in
      five_texts (prefix_table_text at files.Psr4 tables.psr4) (prefix_table_text at files.Psr0 tables.psr0) (class_table_text at tables.class_map) (file_table_text at tables.files)
      (state_text (record { mode = mode; generation = generation })) (Some installed)
      (front Stands (written_files (printed at tables) (Some installed)) (lock_file_of lock ∷ []) stand)

  pub lock_text_there : (texts : TableTexts) (installed text : List ℕ) → AreWrittenAt at all (install_files texts installed (Some text)) → all (lock_path at) ≡ Some text
  lock_text_there texts installed text stand = last Stands (written_files texts (Some installed)) (lock_file_of (Some text)) stand

-- ---- an installation

module _ (t : FileTree) (at : List (List ℕ)) (chosen : Chosen) (setting : Setting) (left after : ℕ) (work : Work) (made : Installation t at chosen setting left after work) (old : Files) where
  abbrev stands : Files
  stands = installed_files at t made.members made.files old

  pub there : AreWrittenAt at stands (install_files (printed at (tables_in made)) made.are_files.installed chosen.text)
  there = subst (AreWrittenAt at stands) made.are_files.are (files_stand t at chosen setting left after work made old)

  pub texts_stand : texts_of at stands ≡ printed at (tables_in made)
  texts_stand = printed_texts at stands (project_with at chosen.root made.members setting.dev) setting.mode work.generation made.found made.are_files.installed chosen.text there

  pub tables_read : grammar.tables_of at (texts_of at stands) ≡ Ok (tables_in made)
  tables_read = ap (grammar.tables_of at) texts_stand ∙ made.are_files.read_back

  -- the state among them
  pub state_stands : stands (table_place at files.State) ≡ Some (state_text (record { mode = setting.mode; generation = work.generation }))
  unfolding printed tables_of
  state_stands = ap (λ (texts : TableTexts). texts.state) texts_stand

  pub lock_stands : (text : List ℕ) → chosen.text ≡ Some text → stands (lock_path at) ≡ Some text
  lock_stands text is =
      lock_text_there at stands (printed at (tables_in made)) made.are_files.installed text
      (subst (λ (some : Option (List ℕ)). AreWrittenAt at stands (install_files (printed at (tables_in made)) made.are_files.installed some)) is there)
