use Rattle.std.proofs.Common.{◌≡◌, false, is_some, ap}
use Rattle.std.specs.FinMap as map
use Rattle.std.proofs.lemmas.Result.{IfOk-weaker}
use Rattle.std.proofs.lemmas.Bool.{false≢true}
use Rattle.install_world.proofs.parts.is_to_be_put.Goals as goal

pub returns-then-gone-clause-needed : goal.returns-then-gone-clause-needed
returns-then-gone-clause-needed g c = λ is t told goes there. let gone = c.if-gone.true in absurd cc

pub returns-clause-needed : goal.returns-clause-needed
returns-clause-needed g c = IfOk-weaker c.is_there.result _ _
    (λ needed absent is t told goes there. let none : is_some (map.get t c.args.places.now.staged) ≡ false = ap is_some (absent is t told) in cc)
    c.is_there.ensures.absent

pub returns-then-gone-clause-put : goal.returns-then-gone-clause-put
returns-then-gone-clause-put g c = λ is. absurd (false≢true is)

pub returns-clause-put : goal.returns-clause-put
returns-clause-put g c = IfOk-weaker c.is_there.result _ _ (λ needed there is. (c.if-gone.false, λ t told under. there is t told under)) c.is_there.ensures.there
