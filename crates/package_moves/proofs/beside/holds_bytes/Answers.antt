use Rattle.std.proofs.Common.{sym, ◌∙◌}
use Rattle.std.specs.Cmp.Lexicographic.{bytes_decides}
use Rattle.package_moves.proofs.ReadBeside.{absent_decides, long_decides, no_file_decides, read_decides}
use Rattle.package_moves.proofs.beside.holds_bytes.Goals as goal

pub returns-in-Bytes-clause-holds : goal.returns-in-Bytes-clause-holds
returns-in-Bytes-clause-holds g c = λ t told. read_decides t c.args.at.now c.args.bytes.now c.in-Bytes.found c.eq.result (sym c.in-Bytes.is ∙ c.in_ok-found.ensures.answer t told)
    (rw (c.eq.ensures, c.as_slice.ensures) (bytes_decides c.in-Bytes.found c.args.bytes.now))

pub returns-in-Absent-clause-holds : goal.returns-in-Absent-clause-holds
returns-in-Absent-clause-holds g c = λ t told. absent_decides t c.args.at.now c.args.bytes.now (sym c.in-Absent.is ∙ c.in_ok-found.ensures.answer t told)

pub returns-in-NotFile-clause-holds : goal.returns-in-NotFile-clause-holds
returns-in-NotFile-clause-holds g c = λ t told. no_file_decides t c.args.at.now c.args.bytes.now (sym c.in-NotFile.is ∙ c.in_ok-found.ensures.answer t told)

pub returns-in-TooLong-clause-holds : goal.returns-in-TooLong-clause-holds
returns-in-TooLong-clause-holds g c = λ t told. long_decides t c.args.at.now c.args.bytes.now (sym c.in-TooLong.is ∙ c.in_ok-found.ensures.answer t told)
