use Rattle.class_paths.proofs.TriedRows.{tried_are_begun, tried_in_order, tried_stable}
use Rattle.class_paths.proofs.laws.order_of_candidates.Goals as goal

pub returns-clause-rows : goal.returns-clause-rows
returns-clause-rows c = tried_are_begun

pub returns-clause-order : goal.returns-clause-order
returns-clause-order c = tried_in_order

pub returns-clause-stable : goal.returns-clause-stable
returns-clause-stable c = tried_stable
