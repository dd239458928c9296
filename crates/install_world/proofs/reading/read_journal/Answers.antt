use Rattle.install_world.proofs.ReadJournal.{bad_behind_version, no_first_line, no_version_line, says_journal}
use Rattle.install_world.proofs.reading.read_journal.Goals as goal

pub returns-in_default-clause-bad : goal.returns-in_default-clause-bad
returns-in_default-clause-bad c = λ at e. no_first_line c.args.text.now at c.in_default.ensures (cc e)

pub returns-in_default-version_of-clause-bad : goal.returns-in_default-version_of-clause-bad
returns-in_default-version_of-clause-bad c = λ at e.
    no_version_line c.args.text.now c.in-Some.cut.words.now c.in-Some.cut.after.now at c.in-Some.ensures.0 c.in-Some.ensures.1
    c.in_default-version_of.ensures (cc e)

pub returns-in-Ok-clause-says : goal.returns-in-Ok-clause-says
returns-in-Ok-clause-says c =
    says_journal c.in-Some-version_of.version c.args.text.now c.in-Some.cut.words.now c.in-Some.cut.after.now c.in-Ok.journal c.in-Some.ensures.1
    c.in-Some-version_of.ensures c.in-Ok.ensures.says

pub returns-in-Err-clause-bad : goal.returns-in-Err-clause-bad
returns-in-Err-clause-bad c = λ at e.
    bad_behind_version c.in-Some-version_of.version c.in-Some.cut.words.now c.in-Some.cut.after.now c.args.text.now c.in-Err.fault c.behind_line.result at
    c.in-Some.ensures.1 c.in-Some-version_of.ensures (λ k f. c.in-Err.ensures.bad k (cc f)) c.behind_line.ensures.bad c.behind_line.ensures.memory (cc e)
