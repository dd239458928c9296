use Rattle.pkg_pool.proofs.ByName.{indexed}
use Rattle.pkg_pool.proofs.gather.add.Goals as goal

pub returns-clause-index : goal.returns-clause-index
returns-clause-index c = λ name.
    rw c.in_ok-push.ensures.items (indexed c.args.held.now c.hold.new.held c.args.candidates.now.items c.args.candidate c.requires c.in_ok-hold.ensures name)
