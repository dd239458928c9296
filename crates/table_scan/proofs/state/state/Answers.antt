use Rattle.table_scan.specs.TableTokens.{text_tokens}
use Rattle.table_scan.specs.TableFaults.{state_of}
use Rattle.table_scan.proofs.Steps.{reads_as}
use Rattle.table_scan.proofs.StateSteps.{state-steps}
use Rattle.table_scan.proofs.state.state.Goals as goal

pub returns : goal.returns
unfolding state_of
returns c = reads_as _ _ _ c.state_steps.result (state-steps (text_tokens c.args.text.now)) c.state_steps.ensures
