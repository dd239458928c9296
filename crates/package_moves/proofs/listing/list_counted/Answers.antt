use Rattle.std.proofs.Common.{refl, sym, ◌∙◌}
use Rattle.package_moves.proofs.ReadBeside.{listed_many, listed_names, listed_nothing, listed_other, listed_over}
use Rattle.package_moves.proofs.listing.list_counted.Goals as goal

pub returns-then-add-clause-listed : goal.returns-then-add-clause-listed
returns-then-add-clause-listed g c = λ t told.
    listed_names t c.args.at.now c.args.counts.now _ _ _ c.add.new.self (sym c.in-Names.is ∙ c.in_ok-names.ensures.answer t told) c.as_slice.ensures c.add.ensures.counted

pub returns-else-add-clause-listed : goal.returns-else-add-clause-listed
returns-else-add-clause-listed g c = λ t told.
    listed_over t c.args.at.now c.args.counts.now _ _ _ c.add.new.self (sym c.in-Names.is ∙ c.in_ok-names.ensures.answer t told) c.as_slice.ensures c.add.ensures.counted (c.add.ensures.passed c.if-add.false)

pub returns-in-TooMany-clause-listed : goal.returns-in-TooMany-clause-listed
returns-in-TooMany-clause-listed g c = λ t told.
    listed_many t c.args.at.now c.args.counts.now _ _ (sym c.in-TooMany.is ∙ c.in_ok-names.ensures.answer t told) c.room.ensures refl refl

pub returns-in-Absent-clause-listed : goal.returns-in-Absent-clause-listed
returns-in-Absent-clause-listed g c = λ t told. listed_nothing t c.args.at.now c.args.counts.now _ (sym c.in-Absent.is ∙ c.in_ok-names.ensures.answer t told)

pub returns-in-NotFolder-clause-listed : goal.returns-in-NotFolder-clause-listed
returns-in-NotFolder-clause-listed g c = λ t told. listed_other t c.args.at.now c.args.counts.now _ (sym c.in-NotFolder.is ∙ c.in_ok-names.ensures.answer t told)
