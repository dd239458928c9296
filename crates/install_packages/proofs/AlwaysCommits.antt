-- An installation always has something to commit: the state that stands is of another generation than the new one.
use Rattle.std.proofs.Common.{◌≡◌, ℕ, ◌+◌, Bool, true, false, cond, List, [], ◌∷◌, ◌++◌, length, Option, Some, None, Result, Ok, Err, refl, sym, ap, subst, ◌∙◌, arith}
use Rattle.std.specs.Prelude.{nat_eq, nat_lt}
use Rattle.std.specs.FinMap as maps
use Rattle.std.specs.Option.{option_map}
use Rattle.path_name.specs.Given.{◌>>=◌}
use Rattle.tree_dev.specs.Projects.{bytes_of, file_at, lock_path}
use Rattle.tree_dev.specs.Trees.{FileTree, IsTree, read_at, read_of}
use Rattle.tree_dev.specs.declared.entry.Entry.{Entry}
use Rattle.tree_dev.specs.declared.entry.Entry.TheVariants as entries
use Rattle.tree_dev.specs.declared.entry.ReadAnswer.TheVariants as answers
use Rattle.tree_dev.specs.declared.limits.LimitKind.TheVariants.{FileBytes, Generation}
use Rattle.tree_dev.specs.declared.limits.TheConstants.{FILE_BYTES, LAST_GENERATION}
use Rattle.package_moves.proofs.SameEntries.{entry_below}
use Rattle.stage_job.specs.Jobs.{job_result}
use Rattle.stage_job.specs.declared.job.Part.{Part}
use Rattle.table_scan.specs.TableFaults.{class_table, file_table, prefix_table, state_table, tables_of as tables_said}
use Rattle.table_scan.specs.TableGrammar.{is_any, is_whole, vendor_name}
use Rattle.table_scan.specs.TableNames.{table_name}
use Rattle.table_scan.specs.declared.types.State.{State}
use Rattle.table_scan.specs.declared.types.TableFault.{TableFault}
use Rattle.table_scan.specs.declared.types.TableFile.TheVariants as files
use Rattle.table_scan.specs.declared.types.TableTexts.{TableTexts}
use Rattle.table_scan.specs.declared.types.Tables.{Tables}
use Rattle.table_print.specs.AutoloadText.{autoload_text}
use Rattle.table_print.specs.TablePrinting.{printed, state_text}
use Rattle.autoload_build.specs.BuiltTables.{tables_of}
use Rattle.project_files.specs.Places.{composer_name, table_place}
use Rattle.project_files.specs.States.{generation_in, generation_of, generation_or_none, generation_read}
use Rattle.run_answers.specs.declared.refusal.Refusal.{Refusal}
use Rattle.run_answers.specs.declared.refusal.Refusal.TheVariants as refusals
use Rattle.install_choice.specs.declared.chosen.Chosen.{Chosen}
use Rattle.install_choice.proofs.Steps.{both_ok, same_value}
use Rattle.install_commands.specs.declared.work.Work.{Work}
use Rattle.table_files.specs.Modes.{next_generation}
use Rattle.table_files.specs.Written.{file_at_place, file_checked, files_checked, text_checked, written_files}
use Rattle.table_files.specs.declared.building.Setting.{Setting}
use Rattle.table_files.specs.declared.written.FilePlace.TheVariants as places
use Rattle.table_files.specs.declared.written.WrittenFile.{WrittenFile}
use Rattle.install_packages.specs.InstallParts.{install_files}
use Rattle.install_packages.specs.Installations.{Installation, tables_in}
use Rattle.install_packages.proofs.NewProjects.{new_project}
use Rattle.install_packages.proofs.StandingFiles.{state_stands}

-- ---- texts that are written are no longer than a file may be

pub texts_checked : (at : List (List ℕ)) (texts : TableTexts) (installed : List ℕ) (lock : Option (List ℕ)) → files_checked at (install_files texts installed lock) ≡ Ok tt
    → (text_checked (table_place at files.State) texts.state ≡ Ok tt) × (text_checked (lock_path at) lock ≡ Ok tt)
unfolding written_files
texts_checked at texts installed lock e =
    let one = both_ok (file_checked at (file_at_place (places.Table files.Psr4) texts.psr4)) _ tt e in
    let two = both_ok (file_checked at (file_at_place (places.Table files.Psr0) texts.psr0)) _ tt one.2 in
    let three = both_ok (file_checked at (file_at_place (places.Table files.ClassMap) texts.class_map)) _ tt two.2 in
    let four = both_ok (file_checked at (file_at_place (places.Table files.Files) texts.files)) _ tt three.2 in
    let five = both_ok (file_checked at (file_at_place (places.Table files.State) texts.state)) _ tt four.2 in
    let six = both_ok (file_checked at (file_at_place places.Installed (Some installed))) _ tt five.2 in
    let seven = both_ok (file_checked at (file_at_place places.Autoloader (Some autoload_text))) _ tt six.2 in
    let eight = both_ok (file_checked at (file_at_place places.Lock lock)) _ tt seven.2 in
    (five.1, eight.1)

pub fits : (at : List (List ℕ)) (text : List ℕ) → text_checked at (Some text) ≡ Ok tt → nat_lt FILE_BYTES (length text) ≡ false
fits at text e = by (nat_lt FILE_BYTES (length text)) e
  where
    by : (b : Bool) → ◌≡◌ {A = Result (Unit {0}) Refusal} (cond b (Err (refusals.Limit (FileBytes at))) (Ok tt)) (Ok tt) → b ≡ false
    by true f = absurd cc
    by false f = refl

-- ---- the generation that a text says

both_read : {X Y : Type 0} (r : Result X TableFault) (next : X → Result Y TableFault) (y : Y) → r >>= next ≡ Ok y → (x : X) × (r ≡ Ok x) × (next x ≡ Ok y)
both_read (Ok x) next y e = (x, refl, e)
both_read (Err fault) next y e = absurd cc

same_tables : (one other : Tables) → ◌≡◌ {A = Result Tables TableFault} (Ok one) (Ok other) → one ≡ other
same_tables one other e = cc

state_read : (at : List (List ℕ)) (texts : TableTexts) (tables : Tables) → tables_said at texts ≡ Ok tables → state_table texts.state ≡ Ok tables.state
unfolding tables_said
state_read at texts tables e =
    let psr4 = both_read (prefix_table at is_whole files.Psr4 texts.psr4) _ tables e in
    let psr0 = both_read (prefix_table at is_any files.Psr0 texts.psr0) _ tables psr4.2 in
    let classes = both_read (class_table at texts.class_map) _ tables psr0.2 in
    let listed = both_read (file_table at texts.files) _ tables classes.2 in
    let state = both_read (state_table texts.state) _ tables listed.2 in
    let made : Tables = record { psr4 = psr4.0; psr0 = psr0.0; class_map = classes.0; files = listed.0; state = state.0 } in
    state.1 ∙ ap (λ (it : Tables). Ok it.state) (same_tables made tables state.2)

alone : (at : List (List ℕ)) (text : List ℕ) (state : Option State) → state_table (Some text) ≡ Ok state → generation_of at text ≡ option_map (λ it. it.generation) state
unfolding generation_of tables_said prefix_table class_table file_table
alone at text state e =
    ap (λ (r : Result (Option State) TableFault). generation_or_none (r >>= λ some. Ok (record { psr4 = []; psr0 = []; class_map = []; files = []; state = some }))) e

-- ---- the state that stands

pub file_is : (e : Option Entry) (text : List ℕ) → bytes_of e ≡ Some text → e ≡ Some (entries.File text)
file_is None text is = absurd cc
file_is (Some (entries.File bytes)) text is = let same : bytes ≡ text = cc in ap (λ some. Some (entries.File some)) same
file_is (Some entries.Folder) text is = absurd cc
file_is (Some entries.Other) text is = absurd cc

-- a file that is no longer than one may be is read
pub is_read : (t : FileTree) (at : List (List ℕ)) (name : List ℕ) (rest : List (List ℕ)) (text : List ℕ) → file_at t (at ++ name ∷ rest) ≡ Some text → nat_lt FILE_BYTES (length text) ≡ false
    → read_at t (at ++ name ∷ rest) FILE_BYTES ≡ answers.Bytes text
unfolding read_at
is_read t at name rest text there short =
    let entry = entry_below t at name rest ∙ file_is (maps.get t (at ++ name ∷ rest)) text there in
    ap (read_of FILE_BYTES) entry ∙ ap (λ (b : Bool). cond b answers.TooLong (answers.Bytes text)) short

state_said : (t : FileTree) (at : List (List ℕ)) (text : List ℕ) → file_at t (table_place at files.State) ≡ Some text → nat_lt FILE_BYTES (length text) ≡ false → generation_in t at ≡ generation_of at text
unfolding generation_in
state_said t at text there short = ap (generation_read at) (is_read t at vendor_name (composer_name ∷ table_name files.State ∷ []) text there short)

-- a generation is not the one behind it
no_rise : (generation : ℕ) (stands : Option ℕ) → stands ≡ Some generation → next_generation stands ≡ Ok generation → ⊥
unfolding next_generation
no_rise generation stands is next = by (nat_eq generation LAST_GENERATION) (sym (ap next_generation is) ∙ next)
  where
    by : (b : Bool) → cond b (Err (refusals.Limit Generation)) (Ok (generation + 1)) ≡ Ok generation → ⊥
    by true e = cc
    by false e = let same : generation + 1 ≡ generation = same_value (generation + 1) generation e in omega (arith, same)

-- ---- an installation

module _ (t : FileTree) (at : List (List ℕ)) (chosen : Chosen) (setting : Setting) (left after : ℕ) (work : Work) (made : Installation t at chosen setting left after work) where
  abbrev place : List (List ℕ)
  place = table_place at files.State

  abbrev text : List ℕ
  text = state_text (record { mode = setting.mode; generation = work.generation })

  -- a job without parts leaves the files of before, which are then those of the new project
  state_there : IsTree t → work.job.parts ≡ [] → file_at t place ≡ Some text
  unfolding job_result
  state_there tree none =
      ap (λ (parts : List Part). job_result at t parts (file_at t) place) (sym none) ∙ new_project t at chosen setting left after work made place tree
      ∙ state_stands t at chosen setting left after work made (file_at t)

  state_short : nat_lt FILE_BYTES (length text) ≡ false
  unfolding printed tables_of
  state_short =
      fits place text
      (texts_checked at (printed at (tables_in made)) made.are_files.installed chosen.text (subst (λ (some : List WrittenFile). files_checked at some ≡ Ok tt) made.are_files.are made.none_long)).0

  state_says : generation_of at text ≡ Some work.generation
  unfolding printed tables_of
  state_says = alone at text (tables_in made).state (state_read at (printed at (tables_in made)) (tables_in made) made.are_files.read_back)

  -- the text of a lock that is written
  pub lock_short : (lock : List ℕ) → chosen.text ≡ Some lock → nat_lt FILE_BYTES (length lock) ≡ false
  lock_short lock is =
      let checked = texts_checked at (printed at (tables_in made)) made.are_files.installed chosen.text (subst (λ (some : List WrittenFile). files_checked at some ≡ Ok tt) made.are_files.are made.none_long) in
      fits (lock_path at) lock (subst (λ (some : Option (List ℕ)). text_checked (lock_path at) some ≡ Ok tt) is checked.1)

  pub has_parts : IsTree t → setting.stands ≡ generation_in t at → work.job.parts ≡ [] → ⊥
  has_parts tree stands none =
      no_rise work.generation setting.stands (stands ∙ state_said t at text (state_there tree none) state_short ∙ state_says) made.next
