use Rattle.plan_solve.specs.Search.{IsRight, IsSearch, work}
use Rattle.plan_solve.proofs.solving.search.Given as goal

abbrev pub invariant-loop-member : goal.invariant-loop-member
invariant-loop-member l = record { right : IsRight l.context; searched : IsSearch l.context.pool.now l.search }

abbrev pub decreases-loop-member : goal.decreases-loop-member
decreases-loop-member l = work l.context.pool.now l.search.choices.items l.search.pending
