use Rattle.std.proofs.Common.{◌∙◌}
use Rattle.plan_solve.specs.Search.{chosen}
use Rattle.plan_solve.proofs.Searching.{joins, unfit_is_dead}
use Rattle.plan_solve.proofs.search.Search.fits.Goals as goal

pub returns : goal.returns
returns c =
    let pool = c.args.context.now.pool.now in
    let before = chosen c.args.self.now.choices.items in
    let known = c.requires.searched in
    let marks = c.as_slice.ensures.value ∙ known.members.marks in
    let joins = joins pool c.args.self.now.choices.items c.args.self.now.pending c.args.member known.searched c.requires.found in
    record {
      yes = c.fits.ensures.yes before marks joins;
      no = λ fails. unfit_is_dead pool before c.args.member (c.fits.ensures.no before marks joins fails);
    }
