-- The keys of what is read are distinct.
use Rattle.std.proofs.Common.{◌≡◌, ℕ, Bool, false, List, [], ◌∷◌, map, Option, Some, None, Result, Ok, Err, refl, ap, subst}
use Rattle.std.specs.Prelude.{IfOk}
use Rattle.std.specs.List.{AllByRecursion, IsDistinct}
use Rattle.std.specs.Cmp.Lexicographic.{bytes_decides}
use Rattle.path_name.specs.Given.{Gives}
use Rattle.path_name.specs.Orders.{bytes_are_equal}
use Rattle.table_scan.specs.declared.types.PrefixRow.{PrefixRow}
use Rattle.table_scan.specs.declared.types.ClassRow.{ClassRow}
use Rattle.table_scan.specs.declared.types.FileRow.{FileRow}
use Rattle.table_scan.specs.declared.types.Tables.{Tables}
use Rattle.table_scan.specs.declared.types.TableTexts.{TableTexts}
use Rattle.table_scan.specs.declared.types.TableFault.{TableFault}
use Rattle.table_scan.specs.declared.types.TableFault.TheVariants as faults
use Rattle.table_scan.specs.TableGrammar.{put, put_all, last_values}
use Rattle.table_scan.specs.TableFaults.{file_row, prefix_of, class_of, HoldsPrefixes, HoldsClasses, HoldsFiles, IsTableText, tables_of}
use Rattle.table_scan.specs.DistinctKeys.{id_of, AreDistinct, HaveDistinctKeys}
use Rattle.table_scan.proofs.Cases.{by_test}
use Rattle.table_scan.proofs.Meaning.{tables_are}

module _ {R : Type 0} (key : R → List ℕ) where
  -- the key is that of none of the rows
  abbrev IsNew : List ℕ → List R → Type 0
  IsNew k rows = AllByRecursion (λ other. bytes_are_equal k other ≡ false) (map key rows)

  still_new : (rows : List R) (row : R) (k : List ℕ) → IsNew k rows → bytes_are_equal k (key row) ≡ false → IsNew k (put key rows row)
  still_new [] row k h e = (e, tt)
  still_new (first ∷ rows) row k h e = by_test (bytes_are_equal (key first) (key row))
      (λ b. rw b (e, h.1))
      (λ b. rw b (h.0, still_new rows row k h.1 e))

  put_distinct : (rows : List R) (row : R) → AreDistinct (map key rows) → AreDistinct (map key (put key rows row))
  unfolding IsDistinct
  put_distinct [] row d = (tt, tt)
  put_distinct (first ∷ rows) row d = by_test (bytes_are_equal (key first) (key row))
      (λ b. rw b (subst (λ k. IsNew k rows) ((bytes_decides (key first) (key row)).0 b) d.0, d.1))
      (λ b. rw b (still_new rows row (key first) d.0 b, put_distinct rows row d.1))

  put_all_distinct : (done rows : List R) → AreDistinct (map key done) → AreDistinct (map key (put_all key done rows))
  put_all_distinct done [] d = d
  put_all_distinct done (row ∷ rows) d = put_all_distinct (put key done row) rows (put_distinct done row d)

  pub last_distinct : (rows : List R) → AreDistinct (map key (last_values key rows))
  unfolding last_values IsDistinct
  last_distinct rows = put_all_distinct [] rows tt

prefixes_distinct : (project : List (List ℕ)) (allowed : List ℕ → Bool) (text : Option (List ℕ)) (rows : List PrefixRow) → HoldsPrefixes project allowed text rows → AreDistinct (map prefix_of rows)
unfolding IsDistinct
prefixes_distinct project allowed None rows h = rw h tt
prefixes_distinct project allowed (Some text) rows h = rw h.2 (last_distinct prefix_of h.0)

classes_distinct : (project : List (List ℕ)) (text : Option (List ℕ)) (rows : List ClassRow) → HoldsClasses project text rows → AreDistinct (map class_of rows)
unfolding IsDistinct
classes_distinct project None rows h = rw h tt
classes_distinct project (Some text) rows h = rw h.2 (last_distinct class_of h.0)

same_ids : (rows : List ClassRow) → map class_of rows ≡ map id_of (map file_row rows)
same_ids [] = refl
same_ids (row ∷ rows) = ap (λ ks. row.class ∷ ks) (same_ids rows)

files_distinct : (project : List (List ℕ)) (text : Option (List ℕ)) (rows : List FileRow) → HoldsFiles project text rows → AreDistinct (map id_of rows)
files_distinct project text rows h = rw h.2 (subst AreDistinct (same_ids h.0) (classes_distinct project text h.0 h.1))

pub held_distinct : (project : List (List ℕ)) (texts : TableTexts) (tables : Tables) → IsTableText texts project tables → HaveDistinctKeys tables
held_distinct project texts tables are = record {
  psr4 = prefixes_distinct project _ texts.psr4 tables.psr4 are.psr4;
  psr0 = prefixes_distinct project _ texts.psr0 tables.psr0 are.psr0;
  class_map = classes_distinct project texts.class_map tables.class_map are.class_map;
  files = files_distinct project texts.files tables.files are.files;
}

-- in the words of a contract
pub distinct_read : (project : List (List ℕ)) (texts : TableTexts) (result : Result Tables TableFault) → Gives (λ tables. tables) faults.OutOfMemory (tables_of project texts) result → IfOk result (λ tables. HaveDistinctKeys tables)
distinct_read project texts (Ok tables) h = held_distinct project texts tables (tables_are project texts tables h)
distinct_read project texts (Err fault) h = tt
