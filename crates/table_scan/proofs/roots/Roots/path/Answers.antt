use Rattle.table_scan.proofs.Steps.{reads_as, path_reads}
use Rattle.table_scan.proofs.roots.Roots.path.Goals as goal
use Rattle.table_scan.specs.TableTokens.{tokens}

pub returns-clause-path : goal.returns-clause-path
returns-clause-path c =
    let project = c.args.self.now.project.now in
    reads_as _ _ _ c.path_behind.result (path_reads project (tokens c.args.text.now) (tokens c.in_ok-from.after.now) (tokens c.in_ok-behind_dot.behind_dot.now) c.in_ok-from.from.now c.in_ok-from.ensures.root c.in_ok-behind_dot.ensures.token) (c.path_behind.ensures.path project)
