use Rattle.plan_solve.proofs.context.Context.root_fits.Goals as goal

pub returns : goal.returns
returns c = record {
  yes = c.root_fits.ensures.yes c.args.self.now.pool.now c.requires.rivals;
  no = c.root_fits.ensures.no c.args.self.now.pool.now c.requires.rivals;
}
