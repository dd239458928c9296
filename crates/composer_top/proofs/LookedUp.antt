-- What `lookup` opens where five tables stand.
use Rattle.std.proofs.Common.{◌≡◌, ℕ, Bool, true, false, cond, List, [], length, Option, Some, None, Result, Ok, Err, refl, sym, ap, ◌∙◌}
use Rattle.std.specs.Prelude.{nat_lt}
use Rattle.std.specs.FinMap as map
use Rattle.path_name.specs.Given.{◌>>=◌}
use Rattle.tree_dev.specs.Changes.{is_root}
use Rattle.tree_dev.specs.Projects.{bytes_of, file_at, journal_path}
use Rattle.tree_dev.specs.Trees.{FileTree, kind_at, kind_of, read_at, read_of}
use Rattle.tree_dev.specs.declared.entry.Entry.{Entry}
use Rattle.tree_dev.specs.declared.entry.Entry.TheVariants as entries
use Rattle.tree_dev.specs.declared.entry.ReadAnswer.TheVariants as answers
use Rattle.tree_dev.specs.declared.limits.TheConstants.{FILE_BYTES}
use Rattle.install_world.proofs.RecoveryFits.{journal_under}
use Rattle.install_world.proofs.WayMoves.{entry_is}
use Rattle.class_lookup.specs.Lookup.{candidates_in, lookup_in}
use Rattle.table_scan.specs.TableFaults as grammar
use Rattle.table_scan.specs.TableGrammar.{is_any, is_whole}
use Rattle.table_scan.specs.declared.types.ClassRow.{ClassRow}
use Rattle.table_scan.specs.declared.types.FileRow.{FileRow}
use Rattle.table_scan.specs.declared.types.PrefixRow.{PrefixRow}
use Rattle.table_scan.specs.declared.types.State.{State}
use Rattle.table_scan.specs.declared.types.TableFault.{TableFault}
use Rattle.table_scan.specs.declared.types.TableFile.{TableFile}
use Rattle.table_scan.specs.declared.types.TableFile.TheVariants as files
use Rattle.table_scan.specs.declared.types.TableTexts.{TableTexts}
use Rattle.table_scan.specs.declared.types.Tables.{Tables}
use Rattle.run_answers.specs.declared.refusal.Refusal.{Refusal}
use Rattle.run_answers.specs.declared.refusal.Refusal.TheVariants as refusals
use Rattle.project_files.specs.Texts.{text_in, text_of}
use Rattle.table_files.specs.Readable.{texts_at}
use Rattle.table_files.specs.Written.{text_checked}
use Rattle.composer_top.specs.Opened.{AreTablesStanding, opened_in}
use Rattle.composer_top.specs.Outcome.Lookup.{found_in, looked_up, lookup_outcome, named}
use Rattle.composer_top.specs.Outcome.Tables.{class_tables_in, class_texts_in, is_kind_there, not_pending, or_refused, table_text_in, tables_in}

-- ---- a text that stands

entry_of : (entry : Option Entry) (text : List ℕ) → bytes_of entry ≡ Some text → entry ≡ Some (entries.File text)
entry_of None text e = absurd cc
entry_of (Some (entries.File bytes)) text e = let same : ◌≡◌ {A = Option (List ℕ)} (Some bytes) (Some text) = e in cc
entry_of (Some entries.Folder) text e = absurd cc
entry_of (Some entries.Other) text e = absurd cc

-- no longer than a file may be
fits : (path : List (List ℕ)) (text : List ℕ) → text_checked path (Some text) ≡ Ok tt → nat_lt FILE_BYTES (length text) ≡ false
fits path text passes = by (nat_lt FILE_BYTES (length text)) _ passes
  where
    by : (long : Bool) (refusal : Refusal) → ◌≡◌ {A = Result (Unit {0}) Refusal} (cond long (Err refusal) (Ok tt)) (Ok tt) → long ≡ false
    by false refusal e = refl
    by true refusal e = absurd cc

-- a file that is no longer than that is read
pub text_read : (u : FileTree) (path : List (List ℕ)) (text : List ℕ) → is_root path ≡ false → file_at u path ≡ Some text → text_checked path (Some text) ≡ Ok tt → text_in u path ≡ Ok (Some text)
unfolding text_in read_at
text_read u path text under stands passes =
    ap (λ (entry : Option Entry). text_of path (read_of FILE_BYTES entry)) (entry_is u path under ∙ entry_of (map.get u path) text stands)
    ∙ ap (λ (long : Bool). text_of path (cond long answers.TooLong (answers.Bytes text))) (fits path text passes)

-- ---- the tables without that of files

-- the tables by which classes are looked up are the same without the table of files
abbrev without_files : Tables → Tables
without_files tables = record { psr4 = tables.psr4; psr0 = tables.psr0; class_map = tables.class_map; files = []; state = tables.state }

-- what is read of five files, one after another
abbrev Read : Type 0 → Type 0
Read X = Result X TableFault

abbrev all_read : Read (List PrefixRow) → Read (List PrefixRow) → Read (List ClassRow) → Read (List FileRow) → Read (Option State) → Read Tables
all_read psr4 psr0 class_map listed state =
    psr4 >>= λ a. psr0 >>= λ b. class_map >>= λ c. listed >>= λ d. state >>= λ e. Ok (record { psr4 = a; psr0 = b; class_map = c; files = d; state = e })

none_listed : (psr4 psr0 : Read (List PrefixRow)) (class_map : Read (List ClassRow)) (listed : Read (List FileRow)) (state : Read (Option State)) (tables : Tables)
    → all_read psr4 psr0 class_map listed state ≡ Ok tables → all_read psr4 psr0 class_map (Ok []) state ≡ Ok (without_files tables)
none_listed (Ok a) (Ok b) (Ok c) (Ok d) (Ok e) tables is = ap Ok (ap without_files (same (record { psr4 = a; psr0 = b; class_map = c; files = d; state = e }) tables is))
  where
    same : (one other : Tables) → ◌≡◌ {A = Read Tables} (Ok one) (Ok other) → one ≡ other
    same one other is = cc
none_listed (Err fault) psr0 class_map listed state tables is = absurd cc
none_listed (Ok a) (Err fault) class_map listed state tables is = absurd cc
none_listed (Ok a) (Ok b) (Err fault) listed state tables is = absurd cc
none_listed (Ok a) (Ok b) (Ok c) (Err fault) state tables is = absurd cc
none_listed (Ok a) (Ok b) (Ok c) (Ok d) (Err fault) tables is = absurd cc

module _ (project : List (List ℕ)) (psr4 psr0 class_map listed state : Option (List ℕ)) (tables : Tables) where
  class_tables : grammar.tables_of project (record { psr4 = psr4; psr0 = psr0; class_map = class_map; files = listed; state = state }) ≡ Ok tables
      → grammar.tables_of project (record { psr4 = psr4; psr0 = psr0; class_map = class_map; files = None; state = state }) ≡ Ok (without_files tables)
  unfolding grammar.tables_of grammar.file_table
  class_tables is =
      none_listed (grammar.prefix_table project is_whole files.Psr4 psr4) (grammar.prefix_table project is_any files.Psr0 psr0) (grammar.class_table project class_map) (grammar.file_table project listed)
      (grammar.state_table state) tables is

-- ---- the look-up

module _ (project : List (List ℕ)) (u : FileTree) (tables : Tables) (stand : AreTablesStanding project u tables) where
  none_pending : not_pending u project ≡ Ok tt
  unfolding not_pending kind_at
  none_pending = ap (λ (entry : Option Entry). cond (is_kind_there (kind_of entry)) (Err refusals.Pending) (Ok tt)) (entry_is u (journal_path project) (journal_under project) ∙ stand.no_journal.absent)

  abbrev text : TableFile → List ℕ
  text table = (stand.texts table).0

  read_texts : class_texts_in u project ≡ Ok (record { psr4 = Some (text files.Psr4); psr0 = Some (text files.Psr0); class_map = Some (text files.ClassMap); files = None; state = Some (text files.State) })
  unfolding class_texts_in table_text_in
  read_texts = rw ((stand.texts files.Psr4).1, (stand.texts files.Psr0).1, (stand.texts files.ClassMap).1, (stand.texts files.State).1) refl

  abbrev all_texts : TableTexts
  all_texts = record { psr4 = Some (text files.Psr4); psr0 = Some (text files.Psr0); class_map = Some (text files.ClassMap); files = Some (text files.Files); state = Some (text files.State) }

  same_texts : texts_at project u ≡ all_texts
  same_texts = rw ((stand.texts files.Psr4).2, (stand.texts files.Psr0).2, (stand.texts files.ClassMap).2, (stand.texts files.Files).2, (stand.texts files.State).2) refl

  read_tables : class_tables_in u project ≡ Ok (without_files tables)
  unfolding class_tables_in
  read_tables =
      ap (λ (texts : Result TableTexts Refusal). texts >>= tables_in project) read_texts
      ∙ ap or_refused (class_tables project (Some (text files.Psr4)) (Some (text files.Psr0)) (Some (text files.ClassMap)) (Some (text files.Files)) (Some (text files.State)) tables
      (ap (grammar.tables_of project) (sym same_texts) ∙ stand.read))

  name_looked_up : (name : List ℕ) → looked_up u project name ≡ found_in u tables name
  unfolding looked_up found_in lookup_in candidates_in
  name_looked_up name =
      ap (λ (passed : Result (Unit {0}) Refusal). passed >>= λ done. class_tables_in u project >>= λ some. found_in u some name) none_pending
      ∙ ap (λ (some : Result Tables Refusal). some >>= λ one. found_in u one name) read_tables

  pub word_looked_up : (word : List ℕ) → lookup_outcome u project word ≡ opened_in u tables word
  unfolding lookup_outcome
  word_looked_up word = by (named word)
    where
      by : (name : Result (List ℕ) Refusal) → (name >>= looked_up u project) ≡ (name >>= found_in u tables)
      by (Ok name) = name_looked_up name
      by (Err refusal) = refl
