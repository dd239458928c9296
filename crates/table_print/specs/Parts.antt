-- The parts of a table's text, as the printer adds them, and what its paths are.
use Rattle.std.specs.Prelude.{◌≡◌, ℕ, zero, suc, List, [], ◌∷◌, ◌++◌, true, All}
use Rattle.path_name.specs.Paths.{IsPath}
use Rattle.table_scan.specs.declared.types.PrefixRow.{PrefixRow}
use Rattle.table_scan.specs.declared.types.ClassRow.{ClassRow}
use Rattle.table_scan.specs.declared.types.FileRow.{FileRow}
use Rattle.table_scan.specs.declared.types.Tables.{Tables}
use Rattle.table_scan.specs.declared.types.TableFile.{TableFile}
use Rattle.table_scan.specs.TableTokens.{is_special}
use Rattle.table_print.specs.declared.parts.Part.{Part}
use Rattle.table_print.specs.declared.parts.Part.TheVariants as parts
use Rattle.table_print.specs.TablePrinting.{tag_text, generated_text, variables_text, array_text, end_text, row_start, row_arrow, row_end, folders_start, folders_between, folders_end, vendor_start, base_start, opening}

abbrev pub part_text : Part → List ℕ
part_text parts.Tag = tag_text
part_text parts.Generated = generated_text
part_text parts.Variables = variables_text
part_text parts.Array = array_text
part_text parts.End = end_text
part_text parts.RowStart = row_start
part_text parts.RowArrow = row_arrow
part_text parts.RowEnd = row_end
part_text parts.FoldersStart = folders_start
part_text parts.FoldersBetween = folders_between
part_text parts.FoldersEnd = folders_end
part_text parts.VendorStart = vendor_start
part_text parts.BaseStart = base_start

-- what stands before the rows
abbrev pub table_start : TableFile → List ℕ
table_start file = opening file ++ (variables_text ++ array_text)

-- what stands before the folder at a place
abbrev pub separator : ℕ → List ℕ
separator zero = []
separator (suc place) = folders_between

-- nothing, or a `\` or `'` and more
abbrev pub StartsSpecial : List ℕ → Type 0
StartsSpecial [] = Unit {0}
StartsSpecial (byte ∷ rest) = is_special byte ≡ true

-- the paths of rows
abbrev pub HasSegments : PrefixRow → Type 0
HasSegments row = All IsPath row.folders

abbrev pub HasClassSegments : ClassRow → Type 0
HasClassSegments row = IsPath row.path

abbrev pub HasFileSegments : FileRow → Type 0
HasFileSegments row = IsPath row.path

pub record HaveSegments (tables : Tables) : Type 0 where
  pub psr4 : All HasSegments tables.psr4
  pub psr0 : All HasSegments tables.psr0
  pub class_map : All HasClassSegments tables.class_map
  pub files : All HasFileSegments tables.files
