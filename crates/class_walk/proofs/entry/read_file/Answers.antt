use Rattle.std.proofs.Common.{sym, ap, ◌∙◌}
use Rattle.tree_dev.specs.declared.limits.LimitKind.TheVariants as limits
use Rattle.class_walk.proofs.ReadAnswers.{read_file, read_no_file, read_long, read_absent}
use Rattle.class_walk.proofs.entry.read_file.Goals as goal

pub returns-in-Bytes-clause-answer : goal.returns-in-Bytes-clause-answer
returns-in-Bytes-clause-answer g c = λ t told. let file = read_file t c.args.at.now _ (sym c.in-Bytes.is ∙ c.in_ok-bytes.ensures.answer t told) in (file.file, file.fits)

pub returns-in-NotFile-clause-answer : goal.returns-in-NotFile-clause-answer
returns-in-NotFile-clause-answer g c = λ t told. read_no_file t c.args.at.now (sym c.in-NotFile.is ∙ c.in_ok-bytes.ensures.answer t told)

pub returns-in_ok-copy-in-TooLong-clause-answer : goal.returns-in_ok-copy-in-TooLong-clause-answer
returns-in_ok-copy-in-TooLong-clause-answer g c = λ t told. let long = read_long t c.args.at.now (sym c.in-TooLong.is ∙ c.in_ok-bytes.ensures.answer t told) in (ap limits.FileBytes c.in_ok-copy-in-TooLong.ensures, long.bytes, long.file, long.long)

pub returns-in_ok-copy-in-Absent-clause-answer : goal.returns-in_ok-copy-in-Absent-clause-answer
returns-in_ok-copy-in-Absent-clause-answer g c = λ t told. read_absent t c.args.at.now (sym c.in-Absent.is ∙ c.in_ok-bytes.ensures.answer t told)
