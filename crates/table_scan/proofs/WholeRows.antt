-- The prefixes of a PSR-4 table are whole.
use Rattle.std.proofs.Common.{ℕ, List, [], ◌∷◌, Option, Some, None, Result, Ok, Err, All}
use Rattle.std.specs.Prelude.{IsTrue, IfOk}
use Rattle.std.proofs.lemmas.List.Elements.{All-nil, All-cons, All-head, All-tail}
use Rattle.path_name.specs.Given.{Gives}
use Rattle.path_name.specs.Orders.{bytes_are_equal}
use Rattle.table_scan.specs.declared.types.PrefixRow.{PrefixRow}
use Rattle.table_scan.specs.declared.types.Tables.{Tables}
use Rattle.table_scan.specs.declared.types.TableTexts.{TableTexts}
use Rattle.table_scan.specs.declared.types.TableFault.{TableFault}
use Rattle.table_scan.specs.declared.types.TableFault.TheVariants as faults
use Rattle.table_scan.specs.TableTokens.{Token}
use Rattle.table_scan.specs.TableGrammar.{IsFolders, IsList, no_items, last_item, next_item, IsRow, is_whole, put, put_all, last_values}
use Rattle.table_scan.specs.TableFaults.{prefix_row, prefix_of, HoldsPrefixes, tables_of}
use Rattle.table_scan.proofs.Cases.{by_test}
use Rattle.table_scan.proofs.Meaning.{tables_are}

abbrev pub IsWholeRow : PrefixRow → Type 0
IsWholeRow row = IsTrue (is_whole row.prefix)

row_whole : (project : List (List ℕ)) (ks : List Token) (row : PrefixRow) → IsRow is_whole (IsFolders project) prefix_row ks row → IsWholeRow row
row_whole project ks row r = rw r.made r.is_allowed

list_whole : (project : List (List ℕ)) {ks : List Token} {rows : List PrefixRow} → IsList (IsRow is_whole (IsFolders project) prefix_row) ks rows → All IsWholeRow rows
list_whole project no_items = All-nil IsWholeRow
list_whole project (last_item {ts} {x} i) = All-cons IsWholeRow x [] (row_whole project ts x i) (All-nil IsWholeRow)
list_whole project (next_item ts more {x} {xs} i l) = All-cons IsWholeRow x xs (row_whole project ts x i) (list_whole project l)

put_whole : (rows : List PrefixRow) (row : PrefixRow) → All IsWholeRow rows → IsWholeRow row → All IsWholeRow (put prefix_of rows row)
put_whole [] row h r = All-cons IsWholeRow row [] r (All-nil IsWholeRow)
put_whole (first ∷ rows) row h r = by_test (bytes_are_equal (prefix_of first) (prefix_of row))
    (λ b. rw b (All-cons IsWholeRow row rows r (All-tail IsWholeRow first rows h)))
    (λ b. rw b (All-cons IsWholeRow first (put prefix_of rows row) (All-head IsWholeRow first rows h) (put_whole rows row (All-tail IsWholeRow first rows h) r)))

put_all_whole : (done rows : List PrefixRow) → All IsWholeRow done → All IsWholeRow rows → All IsWholeRow (put_all prefix_of done rows)
put_all_whole done [] d h = d
put_all_whole done (row ∷ rows) d h = put_all_whole (put prefix_of done row) rows (put_whole done row d (All-head IsWholeRow row rows h)) (All-tail IsWholeRow row rows h)

holds_whole : (project : List (List ℕ)) (text : Option (List ℕ)) (rows : List PrefixRow) → HoldsPrefixes project is_whole text rows → All IsWholeRow rows
unfolding last_values
holds_whole project None rows h = rw h (All-nil IsWholeRow)
holds_whole project (Some text) rows h = rw h.2 (put_all_whole [] h.0 (All-nil IsWholeRow) (list_whole project h.1.list))

pub read_whole : (project : List (List ℕ)) (texts : TableTexts) (result : Result Tables TableFault) → Gives (λ tables. tables) faults.OutOfMemory (tables_of project texts) result → IfOk result (λ tables. All (λ row. IsTrue (is_whole row.prefix)) tables.psr4)
read_whole project texts (Ok tables) h = holds_whole project texts.psr4 tables.psr4 (tables_are project texts tables h).psr4
read_whole project texts (Err fault) h = tt
