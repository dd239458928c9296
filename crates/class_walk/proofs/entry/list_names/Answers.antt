use Rattle.std.proofs.Common.{refl, sym, ◌∙◌}
use Rattle.class_walk.proofs.Lists.{absent, counted, leaf, not_few, too_many}
use Rattle.class_walk.proofs.entry.list_names.Goals as goal

pub returns-then-take_entries-clause-answer : goal.returns-then-take_entries-clause-answer
returns-then-take_entries-clause-answer g c = λ t told.
    counted t c.args.at.now _ _ c.args.walked.now.left _ _ (sym c.in-Names.is ∙ c.in_ok-names.ensures.answer t told) c.as_slice.ensures c.take_entries.ensures.taken c.if-take_entries.true

pub returns-else-take_entries-clause-answer : goal.returns-else-take_entries-clause-answer
returns-else-take_entries-clause-answer g c = λ t told.
    absurd (not_few t c.args.at.now _ _ c.args.walked.now.left (sym c.in-Names.is ∙ c.in_ok-names.ensures.answer t told) c.as_slice.ensures (c.take_entries.ensures.full c.if-take_entries.false))

pub returns-in-TooMany-clause-answer : goal.returns-in-TooMany-clause-answer
returns-in-TooMany-clause-answer g c = λ t told. (refl, too_many t c.args.at.now c.args.walked.now.left (sym c.in-TooMany.is ∙ c.in_ok-names.ensures.answer t told))

pub returns-in_ok-copy-in-Absent-clause-answer : goal.returns-in_ok-copy-in-Absent-clause-answer
returns-in_ok-copy-in-Absent-clause-answer g c = λ t told. absent t c.args.at.now c.args.walked.now.left (sym c.in-Absent.is ∙ c.in_ok-names.ensures.answer t told)

pub returns-in_ok-copy-in-NotFolder-clause-answer : goal.returns-in_ok-copy-in-NotFolder-clause-answer
returns-in_ok-copy-in-NotFolder-clause-answer g c = λ t told.
    (c.in_ok-copy-in-NotFolder.ensures, leaf t c.args.at.now c.args.walked.now.left (sym c.in-NotFolder.is ∙ c.in_ok-names.ensures.answer t told))
