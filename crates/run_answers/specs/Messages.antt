-- The messages of refusals.
use Rattle.std.specs.Prelude.{ℕ, List, [], ◌∷◌, ◌++◌, codes}
use Rattle.std.specs.List.{flat_map}
use Rattle.path_name.specs.Paths.{path_text}
use Rattle.path_name.specs.Decimals.{decimal_text}
use Rattle.tree_dev.specs.declared.limits.LimitKind.{LimitKind}
use Rattle.tree_dev.specs.declared.limits.LimitKind.TheVariants as limits
use Rattle.table_scan.specs.TableNames.{table_name}
use Rattle.run_answers.specs.declared.refusal.NamedFile.{NamedFile}
use Rattle.run_answers.specs.declared.refusal.NamedFile.TheVariants as files
use Rattle.run_answers.specs.declared.refusal.DocumentFault.{DocumentFault}
use Rattle.run_answers.specs.declared.refusal.DocumentFault.TheVariants as faults
use Rattle.run_answers.specs.declared.refusal.BrokenRule.{BrokenRule}
use Rattle.run_answers.specs.declared.refusal.BrokenRule.TheVariants as rules
use Rattle.run_answers.specs.declared.refusal.Place.{Place}
use Rattle.run_answers.specs.declared.refusal.Place.TheVariants as places
use Rattle.run_answers.specs.declared.refusal.Refusal.{Refusal}
use Rattle.run_answers.specs.declared.refusal.Refusal.TheVariants as refusals

-- the name of a file of JSON; of a package's manifest its path
unfoldable pub file_text : NamedFile → List ℕ
file_text files.Manifest = codes "composer.json"
file_text (files.Member path) = path_text path
file_text files.Lock = codes "composer.lock"
file_text files.Installed = codes "installed.json"

unfoldable pub fault_text : DocumentFault → List ℕ
fault_text (faults.Syntax at) = codes "syntax at " ++ decimal_text at
fault_text (faults.NotUtf8 at) = codes "not UTF-8 at " ++ decimal_text at
fault_text (faults.TooDeep at) = codes "too deep at " ++ decimal_text at
fault_text (faults.BadField pointer) = codes "bad field " ++ pointer
fault_text (faults.ReservedName name) = codes "reserved name " ++ name

-- each behind a blank
abbrev pub names_text : List (List ℕ) → List ℕ
names_text names = flat_map (λ name. 32 ∷ name) names

unfoldable pub rule_text : BrokenRule → List ℕ
rule_text (rules.NotAllowed name) = codes "not allowed" ++ names_text (name ∷ [])
rule_text (rules.TwoOwners name one other) = codes "two owners" ++ names_text (name ∷ one ∷ other ∷ [])
rule_text (rules.Unmet from name) = codes "unmet" ++ names_text (from ∷ name ∷ [])
rule_text (rules.Conflict from name other) = codes "conflict" ++ names_text (from ∷ name ∷ other ∷ [])
rule_text (rules.Platform from name) = codes "platform" ++ names_text (from ∷ name ∷ [])

unfoldable pub limit_text : LimitKind → List ℕ
limit_text (limits.FileBytes path) = codes "limit FileBytes " ++ path_text path
limit_text (limits.Depth path) = codes "limit Depth " ++ path_text path
limit_text limits.Entries = codes "limit Entries"
limit_text limits.Packages = codes "limit Packages"
limit_text (limits.Candidates name) = codes "limit Candidates " ++ name
limit_text limits.PoolBytes = codes "limit PoolBytes"
limit_text limits.Generation = codes "limit Generation"

unfoldable pub place_text : Place → List ℕ
place_text (places.Entry path) = codes "vanished " ++ path_text path
place_text (places.Part number) = codes "vanished part " ++ decimal_text number

unfoldable pub colon : List ℕ
colon = codes ": "

unfoldable pub not_offered : List ℕ
not_offered = codes ": not offered "

unfoldable pub bad_table_at : List ℕ
bad_table_at = codes ": bad table at "

unfoldable pub lock_breaks : List ℕ
lock_breaks = codes "lock breaks "

-- the message of a refusal
unfoldable pub message_of : Refusal → List ℕ
message_of refusals.Usage = codes "usage: composer [-d DIR] COMMAND"
message_of refusals.BadName = codes "not a class name"
message_of refusals.Nothing = codes "not found"
message_of refusals.NoManifest = codes "no composer.json"
message_of refusals.NoLock = codes "no composer.lock"
message_of refusals.NoTables = codes "no autoload_psr4.php"
message_of (refusals.BadDocument file fault) = file_text file ++ colon ++ fault_text fault
message_of (refusals.NotOffered file pointer) = file_text file ++ not_offered ++ pointer
message_of refusals.NoPlan = codes "no plan"
message_of (refusals.LockUnmet rule) = lock_breaks ++ rule_text rule
message_of (refusals.Breaks rule) = lock_breaks ++ rule_text rule
message_of refusals.Unfinished = codes "unfinished install"
message_of refusals.Pending = codes "install pending"
message_of refusals.Changed = codes "changed while reading"
message_of refusals.DeviceFault = codes "device fault"
message_of refusals.SinkFault = codes "output fault"
message_of refusals.OutOfMemory = codes "out of memory"
message_of (refusals.BadJournal at) = codes "bad journal at " ++ decimal_text at
message_of (refusals.BadTables table at) = table_name table ++ bad_table_at ++ decimal_text at
message_of (refusals.Limit limit) = limit_text limit
message_of (refusals.MissingPath text) = codes "missing " ++ text
message_of (refusals.ClassmapMissing path) = codes "missing " ++ path_text path
message_of (refusals.OtherEntry path) = codes "wrong kind " ++ path_text path
message_of (refusals.Vanished place) = place_text place

-- the line of a refusal
unfoldable pub error_line : Refusal → List ℕ
error_line refusal = codes "error: " ++ message_of refusal ++ 10 ∷ []
