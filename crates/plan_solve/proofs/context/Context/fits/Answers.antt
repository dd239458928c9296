use Rattle.std.proofs.Common.{◌∙◌, sym}
use Rattle.plan_rules.proofs.FitsBeside.{larger_breaks_none, larger_fits}
use Rattle.plan_solve.proofs.Searching.{at_number, not_both}
use Rattle.plan_solve.proofs.context.Context.fits.Goals as goal

pub returns : goal.returns
returns c = record {
  yes = λ before marks joins fits.
      let pool = c.args.self.now.pool.now in
      let one = at_number pool.candidates c.args.number joins.within in
      larger_breaks_none pool before c.args.number one.0 one.1 joins.new joins.sound (sym (c.fits.ensures pool before one.0 c.requires.rivals marks one.1) ∙ fits);
  no = λ before marks joins fails none.
      let pool = c.args.self.now.pool.now in
      let one = at_number pool.candidates c.args.number joins.within in
      not_both c.fits.result fails (c.fits.ensures pool before one.0 c.requires.rivals marks one.1 ∙ larger_fits pool before c.args.number one.0 one.1 joins.new none);
}
