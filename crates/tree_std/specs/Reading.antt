-- What reading an open file may answer.
use Rattle.std.specs.Prelude.{ℕ, ◌≤◌, length}
use Rattle.std.specs.declared.io.ErrorKind.{ErrorKind}
use Rattle.std.specs.declared.io.ErrorKind.TheVariants as kinds
use Rattle.tree_std.specs.declared.trouble.Trouble.{Trouble}
use Rattle.tree_std.specs.declared.trouble.Trouble.TheVariants as troubles
use Rattle.tree_dev.specs.declared.entry.ReadAnswer.{ReadAnswer}
use Rattle.tree_dev.specs.declared.entry.ReadAnswer.TheVariants as answers

-- at most so many bytes, or TooLong
abbrev pub IsBounded : ℕ → ReadAnswer → Type 0
IsBounded most (answers.Bytes text) = length text ≤ most
IsBounded most answers.TooLong = Unit {0}
IsBounded most answers.Absent = ⊥
IsBounded most answers.NotFile = ⊥

-- What an error of the system says: no entry is there, memory ran out, or the system failed.
abbrev pub trouble_of : ErrorKind → Trouble
trouble_of kinds.NotFound = troubles.Absent
trouble_of kinds.NotADirectory = troubles.Absent
trouble_of kinds.FilesystemLoop = troubles.Absent
trouble_of kinds.InvalidFilename = troubles.Absent
trouble_of kinds.OutOfMemory = troubles.OutOfMemory
trouble_of _ = troubles.Failed
