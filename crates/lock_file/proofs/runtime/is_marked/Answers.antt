use Rattle.std.proofs.Common.{◌∙◌, ap, false}
use Rattle.std.specs.Option.{unwrap_or}
use Rattle.lock_file.proofs.Findings.{marked_has}
use Rattle.lock_file.proofs.runtime.is_marked.Goals as goal

pub returns : goal.returns
returns c = c.unwrap_or.ensures ∙ ap (λ o. unwrap_or o false) c.mark_of.ensures ∙ marked_has c.args.marks.now c.args.number
