-- Folders seen from a project: a number of `..`, and then a path.
use Rattle.std.specs.Prelude.{ℕ, ◌+◌, ◌-◌, List, [], ◌∷◌, ◌++◌, length, take, replicate, nat_lt, if◌then◌else◌, Option, Some, None, Result, Ok, Err}
use Rattle.std.specs.List.{concat}
use Rattle.path_name.specs.Paths.{is_clean, entered, parts_of, read_parts, path_text}
use Rattle.path_name.specs.declared.fault.PathFault.{PathFault}
use Rattle.path_name.specs.declared.fault.PathFault.TheVariants.{BadSegment, AboveRoot}
use Rattle.path_name.specs.declared.folder_ref.FolderRef.{FolderRef}

-- a `..` with nothing before it leads up
abbrev pub folder_entered : FolderRef → Option (List (List ℕ)) → FolderRef
folder_entered before None = record { up = before.up + 1; path = before.path }
folder_entered before (Some path) = record { up = before.up; path = path }

abbrev pub folder_step : FolderRef → ℕ × List ℕ → Result FolderRef PathFault
folder_step before part = if is_clean part.1 then Ok (folder_entered before (entered before.path part.1)) else Err (BadSegment part.0)

-- the folder that a text names, or its fault
unfoldable pub folder_of : List ℕ → Result FolderRef PathFault
folder_of text = read_parts folder_step (record { up = 0; path = [] }) (parts_of text)

-- `../` as often as it leads up, then the path's text
abbrev pub folder_text : FolderRef → List ℕ
folder_text folder = concat (replicate folder.up (46 ∷ 46 ∷ 47 ∷ [])) ++ path_text folder.path

-- The folder's path where the project has so many segments to leave.
abbrev pub resolved : FolderRef → List (List ℕ) → Result (List (List ℕ)) PathFault
resolved folder project = if nat_lt (length project) folder.up then Err (AboveRoot 0) else Ok (take (length project - folder.up) project ++ folder.path)
