-- What is printed of tables holds them.
use Rattle.std.proofs.Common.{◌≡◌, ℕ, Bool, List, [], ◌∷◌, map, All, Option, Some, refl, sym, ap, subst}
use Rattle.std.specs.Prelude.{IsTrue}
use Rattle.std.specs.Option.{option_map}
use Rattle.std.proofs.lemmas.List.Elements.{All-nil, All-cons}
use Rattle.table_scan.specs.declared.types.PrefixRow.{PrefixRow}
use Rattle.table_scan.specs.declared.types.ClassRow.{ClassRow}
use Rattle.table_scan.specs.declared.types.FileRow.{FileRow}
use Rattle.table_scan.specs.declared.types.Tables.{Tables}
use Rattle.table_scan.specs.declared.types.TableTexts.{TableTexts}
use Rattle.table_scan.specs.declared.types.TableFile.{TableFile}
use Rattle.table_scan.specs.declared.types.TableFile.TheVariants as files
use Rattle.table_scan.specs.TableGrammar.{is_whole, is_any}
use Rattle.table_scan.specs.TableFaults.{file_row, prefix_of, class_of, HoldsPrefixes, HoldsClasses, HoldsFiles, HoldsState, IsTableText}
use Rattle.table_print.specs.TablePrinting.{prefix_table_text, class_table_text, file_table_text, state_text, printed}
use Rattle.table_print.specs.Printable.{HasFoldersBelow, HasClassBelow, HasFileBelow, AreBelow}
use Rattle.table_scan.specs.DistinctKeys.{id_of, AreDistinct, HaveDistinctKeys}
use Rattle.table_print.specs.Parts.{HasSegments, HasClassSegments, HasFileSegments, HaveSegments}
use Rattle.table_scan.proofs.Distinct.{distinct_are_last}
use Rattle.table_print.proofs.TableTexts.{class_of_file, prefix_text_is, class_text_is, file_text_is}

prefixes_hold : (project : List (List ℕ)) (allowed : List ℕ → Bool) (file : TableFile) (rows : List PrefixRow) → All (λ row. IsTrue (allowed row.prefix)) rows → AreDistinct (map prefix_of rows) → All (HasFoldersBelow project) rows → All HasSegments rows
    → HoldsPrefixes project allowed (Some (prefix_table_text project file rows)) rows
prefixes_hold project allowed file rows a d b s = (rows, prefix_text_is project allowed file rows a b s, distinct_are_last prefix_of rows d)

classes_hold : (project : List (List ℕ)) (rows : List ClassRow) → AreDistinct (map class_of rows) → All (HasClassBelow project) rows → All HasClassSegments rows → HoldsClasses project (Some (class_table_text project rows)) rows
classes_hold project rows d b s = (rows, class_text_is project rows b s, distinct_are_last class_of rows d)

there_and_back : (rows : List FileRow) → rows ≡ map file_row (map class_of_file rows)
there_and_back [] = refl
there_and_back (row ∷ rows) = ap (λ rs. row ∷ rs) (there_and_back rows)

same_keys : (rows : List FileRow) → map id_of rows ≡ map class_of (map class_of_file rows)
same_keys [] = refl
same_keys (row ∷ rows) = ap (λ ks. row.id ∷ ks) (same_keys rows)

files_hold : (project : List (List ℕ)) (rows : List FileRow) → AreDistinct (map id_of rows) → All (HasFileBelow project) rows → All HasFileSegments rows → HoldsFiles project (Some (file_table_text project rows)) rows
files_hold project rows d b s = (
  map class_of_file rows,
  (map class_of_file rows, file_text_is project rows b s, distinct_are_last class_of (map class_of_file rows) (subst AreDistinct (same_keys rows) d)),
  there_and_back rows,
)

any_prefix : (rows : List PrefixRow) → All (λ row. IsTrue (is_any row.prefix)) rows
any_prefix [] = All-nil (λ row. IsTrue (is_any row.prefix))
any_prefix (row ∷ rows) = All-cons (λ row. IsTrue (is_any row.prefix)) row rows refl (any_prefix rows)

pub printed_hold : (project : List (List ℕ)) (tables : Tables) → AreBelow project tables → HaveDistinctKeys tables → All (λ row. IsTrue (is_whole row.prefix)) tables.psr4
    → HaveSegments tables
    → HoldsState (printed project tables).state tables.state → IsTableText (printed project tables) project tables
unfolding printed
printed_hold project tables below distinct whole segments held = record {
  psr4 = prefixes_hold project is_whole files.Psr4 tables.psr4 whole distinct.psr4 below.psr4 segments.psr4;
  psr0 = prefixes_hold project is_any files.Psr0 tables.psr0 (any_prefix tables.psr0) distinct.psr0 below.psr0 segments.psr0;
  class_map = classes_hold project tables.class_map distinct.class_map below.class_map segments.class_map;
  files = files_hold project tables.files distinct.files below.files segments.files;
  state = held;
}

pub same_texts : (project : List (List ℕ)) (tables : Tables) (psr4 psr0 class_map loaded : List ℕ) (state : Option (List ℕ)) → psr4 ≡ prefix_table_text project files.Psr4 tables.psr4 → psr0 ≡ prefix_table_text project files.Psr0 tables.psr0
    → class_map ≡ class_table_text project tables.class_map → loaded ≡ file_table_text project tables.files → state ≡ option_map state_text tables.state
    → ◌≡◌ {A = TableTexts} (record { psr4 = Some psr4; psr0 = Some psr0; class_map = Some class_map; files = Some loaded; state = state }) (printed project tables)
unfolding printed
same_texts project tables psr4 psr0 class_map loaded state a b d e f = rw (a, b, d, e, f) refl

pub held : (project : List (List ℕ)) (tables : Tables) (texts : TableTexts) → AreBelow project tables → HaveDistinctKeys tables → All (λ row. IsTrue (is_whole row.prefix)) tables.psr4
    → texts ≡ printed project tables → HaveSegments tables → HoldsState texts.state tables.state → IsTableText texts project tables
held project tables texts below distinct whole made segments state =
    subst (λ t. IsTableText t project tables) (sym made) (printed_hold project tables below distinct whole segments (subst (λ t. HoldsState t.state tables.state) made state))
