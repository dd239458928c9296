use Rattle.install_world.proofs.ReadJournal.{bad_behind_generation, no_generation_line, no_second_line}
use Rattle.install_world.proofs.reading.read_behind_version.Goals as goal

pub returns-in_default-clause-bad : goal.returns-in_default-clause-bad
returns-in_default-clause-bad c = λ at e. no_second_line c.args.version c.args.text.now at c.in_default.ensures (cc e)

pub returns-in_default-generation_of-clause-bad : goal.returns-in_default-generation_of-clause-bad
returns-in_default-generation_of-clause-bad c = λ at e.
    no_generation_line c.args.version c.args.text.now c.in-Some.cut.words.now c.in-Some.cut.after.now at c.in-Some.ensures.0 c.in-Some.ensures.1
    c.in_default-generation_of.ensures (cc e)

pub returns-in-Err-clause-bad : goal.returns-in-Err-clause-bad
returns-in-Err-clause-bad c = λ at e.
    bad_behind_generation c.args.version c.in-Some-generation_of.generation c.in-Some.cut.words.now c.in-Some.cut.after.now c.args.text.now c.in-Err.fault
    c.behind_line.result at c.in-Some.ensures.1 c.in-Some-generation_of.ensures.1 c.in-Some-generation_of.ensures.0
    (λ k f. c.in-Err.ensures.bad k (cc f)) c.behind_line.ensures.bad c.behind_line.ensures.memory (cc e)
