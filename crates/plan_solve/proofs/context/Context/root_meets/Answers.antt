use Rattle.std.proofs.Common.{◌∙◌, ◌∷◌, []}
use Rattle.plan_rules.specs.Requirements.{meets}
use Rattle.plan_solve.proofs.Searching.{or_false}
use Rattle.plan_solve.proofs.context.Context.root_meets.Goals as goal

pub returns : goal.returns
returns c =
    let root = c.args.self.now.pool.now.root.«package» in
    c.meets.ensures (root ∷ []) c.requires.root ∙ or_false (meets c.args.need.now root)
