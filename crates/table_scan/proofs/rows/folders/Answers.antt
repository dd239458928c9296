use Rattle.table_scan.proofs.Steps.{reads_as, folders_open}
use Rattle.table_scan.specs.TableTokens.{tokens}
use Rattle.table_scan.proofs.rows.folders.Goals as goal

pub returns-clause-reads : goal.returns-clause-reads
returns-clause-reads c =
    reads_as _ _ _ c.folders_inside.result (folders_open c.args.roots.now.project.now (tokens c.args.text.now) (tokens c.in_ok-behind_array.behind_array.now) (tokens c.in_ok-inside.inside.now) c.in_ok-behind_array.ensures.token c.in_ok-inside.ensures.token) c.folders_inside.ensures.reads
