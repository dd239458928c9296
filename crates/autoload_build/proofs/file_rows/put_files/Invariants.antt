use Rattle.std.proofs.Common.{◌≡◌, ◌++◌, map, take}
use Rattle.autoload_build.specs.BuiltTables.{file_row}
use Rattle.autoload_build.specs.Steps.{source_of}
use Rattle.autoload_build.proofs.file_rows.put_files.Given as goal

abbrev pub invariant-loop-file : goal.invariant-loop-file
invariant-loop-file l = l.rows.items ≡ l.fn.rows.items ++ map (λ file. file_row l.root (source_of l.source, file)) (take l.file-index l.source.rules.now.files)
