use Rattle.class_paths.proofs.PrefixOrder.{rows_merged, row_added}
use Rattle.class_paths.proofs.laws.candidates_by_rows.Goals as goal

pub returns-clause-merged : goal.returns-clause-merged
returns-clause-merged c = rows_merged

pub returns-clause-added : goal.returns-clause-added
returns-clause-added c = row_added
