use Rattle.std.proofs.Common.{sym, ◌∙◌}
use Rattle.std.proofs.lemmas.Option.{slice_get_within}
use Rattle.plan_solve.specs.Search.{chosen}
use Rattle.plan_solve.proofs.Searching.{next_is_dead}
use Rattle.plan_solve.proofs.solving.search.Goals as goal

pub pass-requires-clause-dead : goal.pass-requires-clause-dead
pass-requires-clause-dead c choice found =
    next_is_dead c.args.context.now.pool.now (chosen c.loop-member.search.choices.items) c.in-Some.member choice c.next.result c.in-Some.is (c.next.ensures ∙ found) (c.fits.ensures.no c.if-not-fits.true)

pub pass-requires-clause-more : goal.pass-requires-clause-more
pass-requires-clause-more c = slice_get_within c.loop-member.search.pending.alternatives.items c.loop-member.search.pending.passed c.in-Some.member (sym c.next.ensures ∙ c.in-Some.is)
