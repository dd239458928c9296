use Rattle.std.proofs.Common.{◌<◌, sym, subst}
use Rattle.plan_solve.specs.Search.{IsSearched, work}
use Rattle.plan_solve.proofs.Searching.{pass_searched, less_passed}
use Rattle.plan_solve.proofs.search.Search.pass.Goals as goal

pub returns-clause-searched : goal.returns-clause-searched
returns-clause-searched c =
    let pool = c.args.pool.now in
    let choices = c.args.self.now.choices.items in
    record {
      searched = subst (IsSearched pool choices) (sym c.pass.ensures) (pass_searched pool choices c.args.self.now.pending c.requires.searched.searched c.requires.more c.requires.dead);
      members = c.requires.searched.members;
    }

pub returns-clause-less : goal.returns-clause-less
returns-clause-less c =
    let pool = c.args.pool.now in
    let choices = c.args.self.now.choices.items in
    subst (λ pending. work pool choices pending < work pool choices c.args.self.now.pending) (sym c.pass.ensures) (less_passed pool choices c.args.self.now.pending c.requires.more)
