-- Which files are scanned for classes, and which names count (Composer's documentation, "autoload"; PSR-4; PSR-0).
use Rattle.std.specs.Prelude.{◌≡◌, ℕ, ◌-◌, List, [], ◌∷◌, ◌++◌, codes, length, Bool, false, not, ◌&&◌, ◌||◌, ◌==◌, nat_eq, nat_lt, if◌then◌else◌, filter, Option, Some, None, Result, Ok, Err}
use Rattle.std.specs.List.{list_all, list_any, enumerate_from, ends_with}
use Rattle.std.specs.Str.{is_utf8}
use Rattle.path_name.specs.Given.{◌>>=◌}
use Rattle.path_name.specs.Orders.{paths_are_equal}
use Rattle.class_paths.specs.ClassNames.{is_class_name}
use Rattle.class_paths.specs.RowPath.{begins, is_route_prefix, path_below}
use Rattle.class_paths.specs.declared.types.RouteKind.{RouteKind}
use Rattle.class_paths.specs.declared.types.RouteKind.TheVariants as kinds
use Rattle.php_lex.specs.Cut.{Lex, IsCut}
use Rattle.php_decl.specs.Declarations.{names_of}
use Rattle.tree_dev.specs.Projects.{is_within}
use Rattle.tree_dev.specs.Trees.{FileTree, entry_at, names_in}
use Rattle.tree_dev.specs.declared.entry.Entry.{Entry}
use Rattle.tree_dev.specs.declared.entry.Entry.TheVariants as entries
use Rattle.tree_dev.specs.declared.limits.LimitKind.TheVariants as limits
use Rattle.tree_dev.specs.declared.limits.TheConstants.{DEPTH, FILE_BYTES}
use Rattle.class_walk.specs.Patterns.{is_excluded}
use Rattle.class_walk.specs.Reached.{tails_in}
use Rattle.class_walk.specs.declared.fault.WalkFault.{WalkFault}
use Rattle.class_walk.specs.declared.fault.WalkFault.TheVariants as faults
use Rattle.class_walk.specs.declared.job.WalkJob.{WalkJob}
use Rattle.class_walk.specs.declared.job.WalkRule.{WalkRule}
use Rattle.class_walk.specs.declared.job.WalkRule.TheVariants as rules
use Rattle.class_walk.specs.declared.job.Scanned.{Scanned}
use Rattle.class_walk.specs.declared.pattern.Pattern.{Pattern}

-- ---- names of files

abbrev pub ends_in : List ℕ → List ℕ → Bool
ends_in ending name = ends_with nat_eq name ending

-- a listed path's files end in `.php` or `.inc`, those of a row in `.php`
abbrev pub has_ending : WalkRule → List ℕ → Bool
has_ending rules.Listed name = ends_in (codes ".php") name || ends_in (codes ".inc") name
has_ending (rules.Psr4 prefix) name = ends_in (codes ".php") name
has_ending (rules.Psr0 prefix) name = ends_in (codes ".php") name

abbrev pub last_of : List (List ℕ) → List ℕ
last_of [] = []
last_of (name ∷ []) = name
last_of (name ∷ next ∷ rest) = last_of (next ∷ rest)

-- ---- names of classes

-- the row's prefix begins the class's name, and the row leads it to this path below the row's folder
abbrev pub is_row_file : RouteKind → List ℕ → List (List ℕ) → List ℕ → Bool
is_row_file kind prefix tail name = is_class_name name && is_route_prefix kind prefix && begins prefix name && paths_are_equal (path_below kind prefix name) tail

-- whether a name counts that a file declares, by the file's path below the walk's folder
abbrev pub counts : WalkRule → List (List ℕ) → List ℕ → Bool
counts rules.Listed tail name = is_utf8 name
counts (rules.Psr4 prefix) tail name = is_row_file kinds.Psr4 prefix tail name
counts (rules.Psr0 prefix) tail name = is_row_file kinds.Psr0 prefix tail name

-- a job with its number, and the patterns of all packages
pub record Search : Type 0 where
  pub number : ℕ
  pub job : WalkJob
  pub exclude : List Pattern

-- a file that is scanned: its path below the walk's folder, and its bytes
pub record Source : Type 0 where
  pub search : Search
  pub tail : List (List ℕ)
  pub bytes : List ℕ

-- what is found in it
pub record IsScanOf (source : Source) (scanned : Scanned) : Type 0 where
  pub job : scanned.job ≡ source.search.number
  pub shown : scanned.shown ≡ source.search.job.shown ++ source.tail
  pub names : (lexemes : List Lex) → IsCut source.bytes lexemes → scanned.names ≡ filter (counts source.search.job.rule source.tail) (names_of lexemes)

abbrev pub AreScansOf : List Source → List Scanned → Type 0
AreScansOf [] [] = Unit {0}
AreScansOf [] (scanned ∷ more) = ⊥
AreScansOf (source ∷ sources) [] = ⊥
AreScansOf (source ∷ sources) (scanned ∷ more) = IsScanOf source scanned × AreScansOf sources more

-- ---- one entry

-- the files that were found so far, and how many entries may still be listed
pub record Walked : Type 0 where
  pub found : List Source
  pub left : ℕ

abbrev pub Step : Type 0
Step = Walked → Result Walked WalkFault

-- at or below one of these
abbrev pub is_skipped : List (List (List ℕ)) → List (List ℕ) → Bool
is_skipped skip path = list_any (λ head. is_within head path) skip

abbrev pub is_hidden : List ℕ → Bool
is_hidden [] = false
is_hidden (byte ∷ rest) = byte == 46

-- An entry below the walk's folder is walked where no name on the way begins with `.`, and it is not skipped.
unfoldable pub is_reached : WalkJob → List (List ℕ) → Bool
is_reached job tail = list_all (λ name. not (is_hidden name)) tail && not (is_skipped job.skip (job.at ++ tail))

-- a file is scanned where its name has the ending and no pattern excludes it
unfoldable pub is_scanned : Search → List (List ℕ) → Bool
is_scanned search tail = has_ending search.job.rule (last_of (search.job.at ++ tail)) && not (is_excluded search.exclude (search.job.shown ++ tail))

abbrev pub with_file : Search → List (List ℕ) → List ℕ → Walked → Walked
with_file search tail bytes walked = record { found = walked.found ++ record { search = search; tail = tail; bytes = bytes } ∷ []; left = walked.left }

abbrev pub read_file : Search → List (List ℕ) → List ℕ → Step
read_file search tail bytes walked = if nat_lt FILE_BYTES (length bytes) then Err (faults.Limit (limits.FileBytes (search.job.at ++ tail))) else Ok (with_file search tail bytes walked)

abbrev pub file_walked : Search → List (List ℕ) → List ℕ → Step
file_walked search tail bytes walked = if is_scanned search tail then read_file search tail bytes walked else Ok walked

-- a folder is listed, and all its names count
unfoldable pub folder_listed : FileTree → List (List ℕ) → Step
folder_listed t folder walked = if nat_lt walked.left (length (names_in t folder)) then Err (faults.Limit limits.Entries)
    else Ok (record { found = walked.found; left = walked.left - length (names_in t folder) })

abbrev pub is_deep : List (List ℕ) → Bool
is_deep tail = nat_lt DEPTH (length tail)

abbrev pub kind_walked : FileTree → Search → List (List ℕ) → Option Entry → Step
kind_walked t search tail None walked = Ok walked
kind_walked t search tail (Some (entries.File bytes)) walked = if is_deep tail then Err (faults.Limit (limits.Depth (search.job.at ++ tail))) else file_walked search tail bytes walked
kind_walked t search tail (Some entries.Folder) walked = if is_deep tail then Err (faults.Limit (limits.Depth (search.job.at ++ tail))) else folder_listed t (search.job.at ++ tail) walked
kind_walked t search tail (Some entries.Other) walked = Err (faults.OtherEntry (search.job.at ++ tail))

-- an entry below the walk's folder
unfoldable pub entry_walked : FileTree → Search → List (List ℕ) → Step
entry_walked t search tail walked = kind_walked t search tail (entry_at t (search.job.at ++ tail)) walked

-- entries one after another; the first refusal counts
abbrev pub each_walked : FileTree → Search → List (List (List ℕ)) → Step
each_walked t search [] walked = Ok walked
each_walked t search (tail ∷ tails) walked = entry_walked t search tail walked >>= λ next. each_walked t search tails next

-- ---- one job

-- the entries below the walk's folder that are walked, in path order
unfoldable pub reached : FileTree → WalkJob → List (List (List ℕ))
reached t job = filter (is_reached job) (tails_in t job.at)

abbrev pub absent_walked : WalkRule → List (List ℕ) → Step
absent_walked rules.Listed at walked = Err (faults.ClassmapMissing at)
absent_walked (rules.Psr4 prefix) at walked = Ok walked
absent_walked (rules.Psr0 prefix) at walked = Ok walked

-- a row's folder that is a file gives nothing
abbrev pub lone_file_walked : WalkRule → Search → List ℕ → Step
lone_file_walked rules.Listed search bytes walked = file_walked search [] bytes walked
lone_file_walked (rules.Psr4 prefix) search bytes walked = Ok walked
lone_file_walked (rules.Psr0 prefix) search bytes walked = Ok walked

abbrev pub start_walked : FileTree → Search → Option Entry → Step
start_walked t search None walked = absent_walked search.job.rule search.job.at walked
start_walked t search (Some (entries.File bytes)) walked = lone_file_walked search.job.rule search bytes walked
start_walked t search (Some entries.Folder) walked = folder_listed t search.job.at walked >>= λ next. each_walked t search (reached t search.job) next
start_walked t search (Some entries.Other) walked = Err (faults.OtherEntry search.job.at)

unfoldable pub job_walked : FileTree → Search → Step
job_walked t search walked = if is_skipped search.job.skip search.job.at then absent_walked search.job.rule search.job.at walked
    else start_walked t search (entry_at t search.job.at) walked

-- ---- all jobs

abbrev pub jobs_walked : FileTree → List Pattern → List (ℕ × WalkJob) → Step
jobs_walked t exclude [] walked = Ok walked
jobs_walked t exclude (job ∷ jobs) walked = job_walked t (record { number = job.0; job = job.1; exclude = exclude }) walked >>= λ next. jobs_walked t exclude jobs next

-- the files that the jobs scan, in the order of jobs and paths, and how many entries may still be listed; or the first refusal
unfoldable pub class_scan : FileTree → List WalkJob → List Pattern → ℕ → Result Walked WalkFault
class_scan t jobs exclude left = jobs_walked t exclude (enumerate_from 0 jobs) (record { found = []; left = left })
