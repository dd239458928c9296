use Rattle.std.proofs.Common.{◌≡◌, Ok}
use Rattle.table_files.specs.Written.{files_checked, parts_of}
use Rattle.table_files.proofs.written.parts_of.Given as goal

abbrev pub invariant-loop-file : goal.invariant-loop-file
invariant-loop-file l = record {
  checked : files_checked l.project l.yielded ≡ Ok tt;
  put : l.parts.items ≡ parts_of l.yielded;
}
