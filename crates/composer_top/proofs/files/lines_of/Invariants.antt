use Rattle.std.proofs.Common.{◌≡◌, take}
use Rattle.composer_top.specs.Outcome.Files.{file_lines}
use Rattle.composer_top.proofs.files.lines_of.Given as goal

abbrev pub invariant-loop-row : goal.invariant-loop-row
invariant-loop-row l = l.lines.items ≡ file_lines (take l.row-index l.rows)
