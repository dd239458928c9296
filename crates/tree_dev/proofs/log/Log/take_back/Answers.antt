use Rattle.std.proofs.Common.{◌∙◌, sym, ap}
use Rattle.tree_dev.proofs.Logs.{taken_back, sound_back}
use Rattle.tree_dev.proofs.log.Log.take_back.Goals as goal

pub invariant_of-self : goal.invariant_of-self
invariant_of-self c =
    sound_back c.self.inside.steps.items c.pop.new.self.items c.pop.result c.self.inside.safe c.args.safe c.requires.before c.pop.ensures.items
    (λ e. sym c.self.inside.steps.ok.0 ∙ (rw e at c.pop.ensures.cases).0) (ap (λ d. d.past) c.self.view_is ∙ c.requires.past) c.requires.counted c.self.invariant

pub returns : goal.returns
returns c = λ before is.
    taken_back c.self.inside.steps.items c.pop.new.self.items c.pop.result before c.pop.ensures.items (λ e. sym c.self.inside.steps.ok.0 ∙ (rw e at c.pop.ensures.cases).0)
    (ap (λ d. d.past) c.self.view_is ∙ is)
