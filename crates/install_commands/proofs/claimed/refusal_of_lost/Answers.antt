use Rattle.std.proofs.Common.{sym, ◌∙◌}
use Rattle.std.proofs.lemmas.Bool.{false≢true}
use Rattle.install_commands.proofs.Claims.{lost_manifest}
use Rattle.install_commands.proofs.claimed.refusal_of_lost.Goals as goal

pub returns-in-Ok-true-clause-told : goal.returns-in-Ok-true-clause-told
returns-in-Ok-true-clause-told g c = λ t told no_folder.
    let none = lost_manifest t c.args.project.now c.in-Ok-true.field-0 (g.met.T.Tree.tells_trees c.args.tree.now t told) no_folder (c.in-Ok-true.ensures.told t told) in
    absurd (false≢true (sym none ∙ c.in-Ok-true.field-0-test))
