use Rattle.std.proofs.Common.{◌≡◌, take}
use Rattle.autoload_build.specs.Steps.{files_by, seen}
use Rattle.autoload_build.proofs.file_rows.all_files.Given as goal

abbrev pub invariant-loop-source : goal.invariant-loop-source
invariant-loop-source l = l.rows.items ≡ files_by l.root (seen (take l.source-index l.sources))
