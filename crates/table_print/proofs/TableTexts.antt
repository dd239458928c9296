-- Whole texts of tables and of the state: they are read as they were printed.
use Rattle.std.proofs.Common.{◌≡◌, ℕ, ◌<◌, ◌^◌, Bool, List, [], ◌∷◌, ◌++◌, map, All, refl, ap, ◌∙◌, append_assoc, inl, inr, arith}
use Rattle.std.specs.Prelude.{IsTrue}
use Rattle.std.specs.List.{flat_map}
use Rattle.std.proofs.lemmas.Fmt.{length-decimal-le}
use Rattle.std.proofs.lemmas.List.Elements.{All-head, All-tail}
use Rattle.path_name.specs.Decimals.{decimal_text}
use Rattle.path_name.proofs.DecimalTexts.{number_in-decimal_text}
use Rattle.table_scan.specs.declared.mark.Mark.TheVariants as marks
use Rattle.table_scan.specs.declared.types.PrefixRow.{PrefixRow}
use Rattle.table_scan.specs.declared.types.ClassRow.{ClassRow}
use Rattle.table_scan.specs.declared.types.FileRow.{FileRow}
use Rattle.table_scan.specs.declared.types.State.{State}
use Rattle.table_scan.specs.declared.types.TableFile.{TableFile}
use Rattle.table_scan.specs.declared.types.TableFile.TheVariants as files
use Rattle.table_scan.specs.TableTokens.{Token, Marked, Quoted, Number, Gap, spelling, piece_at, text_tokens, behind_tag}
use Rattle.table_scan.specs.TableGrammar.{IsPath as IsPathOf, IsList, IsFolders, IsRow, IsTable, IsState, is_any, marked, before_folder, this_folder, behind_folder, mode_key, generation_key, mode_text}
use Rattle.table_scan.specs.TableFaults.{prefix_row, class_row, token_list, ArePrefixRows, AreClassRows, IsTextOf}
use Rattle.table_scan.proofs.Spelled.{few_digits}
use Rattle.table_scan.proofs.Tokens.{tokens-nil}
use Rattle.table_scan.specs.QuotedTexts.{quoted}
use Rattle.table_scan.specs.TableNames.{table_name}
use Rattle.table_print.specs.TablePrinting.{tag_text, generated_text, variables_text, array_text, end_text, row_arrow, row_end, row_text, prefix_row_text, class_row_text, file_row_text, opening, table_text, prefix_table_text, class_table_text, file_table_text, state_text}
use Rattle.table_print.specs.Printable.{HasFoldersBelow, HasClassBelow, HasFileBelow}
use Rattle.table_print.specs.Parts.{HasSegments, HasClassSegments, HasFileSegments}
use Rattle.table_scan.proofs.TokenKinds.{kinds, over_gap, over_blank, at_quoted, at_number}
use Rattle.table_print.proofs.Words.{Word, Sign, Blank, Equals, at_words}
use Rattle.table_print.proofs.PathTexts.{IsRead, path_is_read}
use Rattle.table_print.proofs.RowTexts.{folders_value, key_is_read, arrow_is_read, end_is_read, row_parts, row_kinds, row_before, no_rows}

-- ---- rows

prefixes_are_read : (project : List (List ℕ)) (allowed : List ℕ → Bool) (rows : List PrefixRow) → All (λ row. IsTrue (allowed row.prefix)) rows → All (HasFoldersBelow project) rows → All HasSegments rows
    → IsRead (IsList (IsRow allowed (IsFolders project) prefix_row)) (flat_map (prefix_row_text project) rows) rows
prefixes_are_read project allowed [] a b s = no_rows (IsRow allowed (IsFolders project) prefix_row)
prefixes_are_read project allowed (row ∷ rows) a b s = row_before allowed (IsFolders project) prefix_row row.prefix row.folders _ rows (flat_map (prefix_row_text project) rows)
    (All-head (λ row. IsTrue (allowed row.prefix)) row rows a)
    (folders_value project row.folders (All-head (HasFoldersBelow project) row rows b) (All-head HasSegments row rows s))
    (prefixes_are_read project allowed rows (All-tail (λ row. IsTrue (allowed row.prefix)) row rows a) (All-tail (HasFoldersBelow project) row rows b) (All-tail HasSegments row rows s))

classes_are_read : (project : List (List ℕ)) (rows : List ClassRow) → All (HasClassBelow project) rows → All HasClassSegments rows → IsRead (IsList (IsRow is_any (IsPathOf project) class_row)) (flat_map (class_row_text project) rows) rows
classes_are_read project [] b s = no_rows (IsRow is_any (IsPathOf project) class_row)
classes_are_read project (row ∷ rows) b s = row_before is_any (IsPathOf project) class_row row.class row.path _ rows (flat_map (class_row_text project) rows) refl
    (path_is_read project row.path (All-head (HasClassBelow project) row rows b) (All-head HasClassSegments row rows s))
    (classes_are_read project rows (All-tail (HasClassBelow project) row rows b) (All-tail HasClassSegments row rows s))

-- a row of the table of files as one of the class map
abbrev pub class_of_file : FileRow → ClassRow
class_of_file row = record { class = row.id; path = row.path }

files_are_read : (project : List (List ℕ)) (rows : List FileRow) → All (HasFileBelow project) rows → All HasFileSegments rows → IsRead (IsList (IsRow is_any (IsPathOf project) class_row)) (flat_map (file_row_text project) rows) (map class_of_file rows)
files_are_read project [] b s = no_rows (IsRow is_any (IsPathOf project) class_row)
files_are_read project (row ∷ rows) b s = row_before is_any (IsPathOf project) class_row row.id row.path _ (map class_of_file rows) (flat_map (file_row_text project) rows) refl
    (path_is_read project row.path (All-head (HasFileBelow project) row rows b) (All-head HasFileSegments row rows s))
    (files_are_read project rows (All-tail (HasFileBelow project) row rows b) (All-tail HasFileSegments row rows s))

-- ---- the first lines

-- behind the tag
abbrev behind_opening : TableFile → List ℕ → List ℕ
behind_opening file rest = 10 ∷ 10 ∷ 47 ∷ 47 ∷ 32 ∷ (table_name file ++ (generated_text ++ rest))

tag_first : (file : TableFile) (rest : List ℕ) → token_list (text_tokens (opening file ++ rest)) ≡ Marked marks.Tag ∷ kinds (behind_opening file rest)
unfolding text_tokens behind_tag spelling tag_text
tag_first file rest = ap (λ t. Marked marks.Tag ∷ kinds (10 ∷ 10 ∷ 47 ∷ 47 ∷ 32 ∷ t)) (append_assoc (table_name file) generated_text rest)

comment_is_gap : (file : TableFile) (rest : List ℕ) → piece_at (47 ∷ 47 ∷ 32 ∷ (table_name file ++ (generated_text ++ rest))) ≡ Gap (10 ∷ 10 ∷ rest)
unfolding piece_at table_name generated_text
comment_is_gap files.Psr4 rest = refl
comment_is_gap files.Psr0 rest = refl
comment_is_gap files.ClassMap rest = refl
comment_is_gap files.Files rest = refl
comment_is_gap files.State rest = refl

pub opening_is_read : (file : TableFile) (rest : List ℕ) → token_list (text_tokens (opening file ++ rest)) ≡ Marked marks.Tag ∷ kinds rest
opening_is_read file rest =
    let comment = 47 ∷ 47 ∷ 32 ∷ (table_name file ++ (generated_text ++ rest)) in
    tag_first file rest ∙ ap (λ ts. Marked marks.Tag ∷ ts) (over_blank 10 (10 ∷ comment) refl ∙ over_blank 10 comment refl ∙ over_gap comment (10 ∷ 10 ∷ rest) (comment_is_gap file rest) ∙ over_blank 10 (10 ∷ rest) refl ∙ over_blank 10 rest refl)

abbrev variable_words : List Word
variable_words = Sign marks.VendorDir ∷ Blank 32 ∷ Equals ∷ Sign marks.Dirname ∷ Sign marks.Open ∷ Sign marks.ThisDir ∷ Sign marks.Close ∷ Sign marks.Semicolon ∷ Blank 10
    ∷ Sign marks.BaseDir ∷ Blank 32 ∷ Equals ∷ Sign marks.Dirname ∷ Sign marks.Open ∷ Sign marks.VendorDir ∷ Sign marks.Close ∷ Sign marks.Semicolon ∷ Blank 10 ∷ Blank 10 ∷ []

abbrev variable_marks : List Token
variable_marks = marked (marks.VendorDir ∷ marks.Assign ∷ marks.Dirname ∷ marks.Open ∷ marks.ThisDir ∷ marks.Close ∷ marks.Semicolon
    ∷ marks.BaseDir ∷ marks.Assign ∷ marks.Dirname ∷ marks.Open ∷ marks.VendorDir ∷ marks.Close ∷ marks.Semicolon ∷ [])

variables_are_read : (rest : List ℕ) → kinds (variables_text ++ rest) ≡ variable_marks ++ kinds rest
unfolding variables_text spelling
variables_are_read rest = at_words variable_words rest (tt, (refl, (tt, (tt, (tt, (tt, (tt, (refl, (tt, (refl, (tt, (tt, (tt, (tt, (tt, (refl, (refl, tt)))))))))))))))))

abbrev array_words : List Word
array_words = Sign marks.Return ∷ Blank 32 ∷ Sign marks.Array ∷ Sign marks.Open ∷ Blank 10 ∷ []

pub array_is_read : (rest : List ℕ) → kinds (array_text ++ rest) ≡ Marked marks.Return ∷ Marked marks.Array ∷ Marked marks.Open ∷ kinds rest
unfolding array_text spelling
array_is_read rest = at_words array_words rest (tt, (refl, (tt, (tt, (refl, tt)))))

nothing_left : kinds [] ≡ []
nothing_left = ap (λ ts. token_list ts) tokens-nil

pub end_of_text : kinds end_text ≡ Marked marks.Close ∷ Marked marks.Semicolon ∷ []
unfolding end_text spelling
end_of_text = at_words (Sign marks.Close ∷ Sign marks.Semicolon ∷ Blank 10 ∷ []) [] (tt, (tt, (refl, tt))) ∙ ap (λ ts. Marked marks.Close ∷ Marked marks.Semicolon ∷ ts) nothing_left

abbrev head_marks : List Token
head_marks = marked (before_folder ++ (this_folder ++ behind_folder))

table_is_read : {R : Type 0} (IsOneRow : List Token → R → Type 0) (file : TableFile) (lines : List ℕ) (rows : List R) → IsRead (IsList IsOneRow) lines rows → IsTextOf (IsTable IsOneRow) (table_text file lines) rows
table_is_read IsOneRow file lines rows list = record {
  head = head_marks;
  inside = list.inside;
  is_head = inl refl;
  list = list.is;
  parts = opening_is_read file (variables_text ++ (array_text ++ (lines ++ end_text)))
      ∙ ap (λ ts. Marked marks.Tag ∷ ts) (variables_are_read (array_text ++ (lines ++ end_text))
      ∙ ap (λ ts. variable_marks ++ ts) (array_is_read (lines ++ end_text)
      ∙ ap (λ ts. Marked marks.Return ∷ Marked marks.Array ∷ Marked marks.Open ∷ ts) (list.read end_text ∙ ap (λ ts. list.inside ++ ts) end_of_text)));
}

pub prefix_text_is : (project : List (List ℕ)) (allowed : List ℕ → Bool) (file : TableFile) (rows : List PrefixRow) → All (λ row. IsTrue (allowed row.prefix)) rows → All (HasFoldersBelow project) rows → All HasSegments rows
    → IsTextOf (ArePrefixRows project allowed) (prefix_table_text project file rows) rows
prefix_text_is project allowed file rows a b s = table_is_read (IsRow allowed (IsFolders project) prefix_row) file (flat_map (prefix_row_text project) rows) rows (prefixes_are_read project allowed rows a b s)

pub class_text_is : (project : List (List ℕ)) (rows : List ClassRow) → All (HasClassBelow project) rows → All HasClassSegments rows → IsTextOf (AreClassRows project) (class_table_text project rows) rows
class_text_is project rows b s = table_is_read (IsRow is_any (IsPathOf project) class_row) files.ClassMap (flat_map (class_row_text project) rows) rows (classes_are_read project rows b s)

pub file_text_is : (project : List (List ℕ)) (rows : List FileRow) → All (HasFileBelow project) rows → All HasFileSegments rows → IsTextOf (AreClassRows project) (file_table_text project rows) (map class_of_file rows)
file_text_is project rows b s = table_is_read (IsRow is_any (IsPathOf project) class_row) files.Files (flat_map (file_row_text project) rows) (map class_of_file rows) (files_are_read project rows b s)

-- ---- the state

number_before_comma : (n : ℕ) (rest : List ℕ) → n < 2 ^ 64 → kinds (row_text generation_key (decimal_text n) ++ rest) ≡ Quoted generation_key ∷ Marked marks.Arrow ∷ Number (decimal_text n) ∷ Marked marks.Comma ∷ kinds rest
unfolding row_end
number_before_comma n rest h = ap (λ t. kinds t) (row_parts generation_key (decimal_text n) rest) ∙ key_is_read generation_key (row_arrow ++ (decimal_text n ++ (row_end ++ rest)))
    ∙ ap (λ ts. Quoted generation_key ∷ ts) (arrow_is_read (decimal_text n ++ (row_end ++ rest))
    ∙ ap (λ ts. Marked marks.Arrow ∷ ts) (at_number n (10 ∷ rest) h ∙ ap (λ ts. Number (decimal_text n) ∷ ts) (end_is_read rest)))

pub state_text_is : (state : State) → state.generation < 2 ^ 64 → IsTextOf IsState (state_text state) state
state_text_is state h = record {
  digits = decimal_text state.generation;
  comma = Marked marks.Comma ∷ [];
  number = few_digits (decimal_text state.generation) (length-decimal-le 20 state.generation (omega arith) (omega arith) h) ∙ number_in-decimal_text state.generation h;
  is_comma = inr refl;
  parts = opening_is_read files.State (array_text ++ (row_text mode_key (quoted (mode_text state.mode)) ++ (row_text generation_key (decimal_text state.generation) ++ end_text)))
      ∙ ap (λ ts. Marked marks.Tag ∷ ts) (array_is_read (row_text mode_key (quoted (mode_text state.mode)) ++ (row_text generation_key (decimal_text state.generation) ++ end_text))
      ∙ ap (λ ts. Marked marks.Return ∷ Marked marks.Array ∷ Marked marks.Open ∷ ts) (mode_row (row_text generation_key (decimal_text state.generation) ++ end_text)
      ∙ ap (λ ts. Quoted mode_key ∷ Marked marks.Arrow ∷ Quoted (mode_text state.mode) ∷ Marked marks.Comma ∷ ts) (number_before_comma state.generation end_text h
      ∙ ap (λ ts. Quoted generation_key ∷ Marked marks.Arrow ∷ Number (decimal_text state.generation) ∷ Marked marks.Comma ∷ ts) end_of_text)));
}
  where
    mode_row : (rest : List ℕ) → kinds (row_text mode_key (quoted (mode_text state.mode)) ++ rest) ≡ Quoted mode_key ∷ Marked marks.Arrow ∷ Quoted (mode_text state.mode) ∷ Marked marks.Comma ∷ kinds rest
    mode_row rest = row_kinds mode_key (quoted (mode_text state.mode)) (Quoted (mode_text state.mode) ∷ []) (λ more. at_quoted (mode_text state.mode) more) rest
