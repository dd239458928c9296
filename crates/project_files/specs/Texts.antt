-- The text of a file over a tree, or its refusal.
use Rattle.std.specs.Prelude.{ℕ, List, Option, Some, None, Result, Ok, Err}
use Rattle.tree_dev.specs.Trees.{FileTree, read_at}
use Rattle.tree_dev.specs.declared.limits.TheConstants.{FILE_BYTES}
use Rattle.tree_dev.specs.declared.limits.LimitKind.TheVariants.{FileBytes}
use Rattle.tree_dev.specs.declared.entry.ReadAnswer.{ReadAnswer}
use Rattle.tree_dev.specs.declared.entry.ReadAnswer.TheVariants as answers
use Rattle.run_answers.specs.declared.refusal.Refusal.{Refusal}
use Rattle.run_answers.specs.declared.refusal.Refusal.TheVariants as refusals

abbrev pub text_of : List (List ℕ) → ReadAnswer → Result (Option (List ℕ)) Refusal
text_of path (answers.Bytes text) = Ok (Some text)
text_of path answers.Absent = Ok None
text_of path answers.NotFile = Err (refusals.OtherEntry path)
text_of path answers.TooLong = Err (refusals.Limit (FileBytes path))

-- the text of the file at a path, and None where nothing is there
unfoldable pub text_in : FileTree → List (List ℕ) → Result (Option (List ℕ)) Refusal
text_in t path = text_of path (read_at t path FILE_BYTES)
