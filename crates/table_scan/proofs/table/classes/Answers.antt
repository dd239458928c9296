use Rattle.table_scan.specs.TableGrammar.{is_any}
use Rattle.table_scan.specs.TableTokens.{text_tokens}
use Rattle.table_scan.specs.TableFaults.{classes_of, class_row}
use Rattle.table_scan.specs.TableReading.{At_root, path_next}
use Rattle.table_scan.proofs.Steps.{reads_as}
use Rattle.table_scan.proofs.RowSteps.{table-steps}
use Rattle.table_scan.proofs.table.classes.Goals as goal

pub returns : goal.returns
unfolding classes_of
returns c = reads_as _ _ _ c.class_steps.result (table-steps is_any class_row At_root (path_next c.args.roots.now.project.now) (text_tokens c.args.text.now)) c.class_steps.ensures
