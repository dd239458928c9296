-- With which status a refused command ends, and what its refusal comes from.
use Rattle.std.specs.Prelude.{ℕ}
use Rattle.run_answers.specs.declared.refusal.NamedFile.{NamedFile}
use Rattle.run_answers.specs.declared.refusal.NamedFile.TheVariants as files
use Rattle.run_answers.specs.declared.refusal.Refusal.{Refusal}
use Rattle.run_answers.specs.declared.refusal.Refusal.TheVariants as refusals

abbrev pub document_status : NamedFile → ℕ
document_status files.Manifest = 3
document_status (files.Member path) = 3
document_status files.Lock = 4
document_status files.Installed = 4

abbrev pub status_of : Refusal → ℕ
status_of refusals.Nothing = 1
status_of (refusals.Breaks rule) = 1
status_of refusals.Usage = 2
status_of refusals.BadName = 2
status_of refusals.NoManifest = 3
status_of refusals.NoLock = 4
status_of (refusals.BadDocument file fault) = document_status file
status_of refusals.NoPlan = 5
status_of (refusals.LockUnmet rule) = 6
status_of refusals.Unfinished = 7
status_of refusals.Pending = 7
status_of refusals.Changed = 7
status_of refusals.DeviceFault = 8
status_of refusals.SinkFault = 9
status_of refusals.OutOfMemory = 10
status_of (refusals.BadJournal at) = 11
status_of (refusals.Limit limit) = 12
status_of (refusals.NotOffered file pointer) = 13
status_of refusals.NoTables = 14
status_of (refusals.BadTables table at) = 14
status_of (refusals.MissingPath text) = 15
status_of (refusals.ClassmapMissing path) = 15
status_of (refusals.OtherEntry path) = 15
status_of (refusals.Vanished place) = 15
