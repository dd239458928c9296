use Rattle.table_scan.specs.Keys.{allows}
use Rattle.table_scan.specs.TableTokens.{text_tokens}
use Rattle.table_scan.specs.TableFaults.{prefixes_of, prefix_row}
use Rattle.table_scan.specs.TableReading.{At_array, folders_next}
use Rattle.table_scan.proofs.Steps.{reads_as}
use Rattle.table_scan.proofs.RowSteps.{table-steps}
use Rattle.table_scan.proofs.table.prefixes.Goals as goal

pub returns : goal.returns
unfolding prefixes_of
returns c = reads_as _ _ _ c.prefix_steps.result (table-steps (allows c.args.keys) prefix_row At_array (folders_next c.args.roots.now.project.now) (text_tokens c.args.text.now)) c.prefix_steps.ensures
