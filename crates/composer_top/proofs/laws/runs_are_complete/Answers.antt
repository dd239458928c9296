use Rattle.composer_top.proofs.Completeness.{answered, reported, unrefused}
use Rattle.composer_top.proofs.laws.runs_are_complete.Goals as goal

pub returns-clause-answered : goal.returns-clause-answered
returns-clause-answered c = answered

pub returns-clause-unrefused : goal.returns-clause-unrefused
returns-clause-unrefused c = λ t before now words outputs status run still none. unrefused t before now words outputs status none run still

pub returns-clause-statuses : goal.returns-clause-statuses
returns-clause-statuses c = reported
