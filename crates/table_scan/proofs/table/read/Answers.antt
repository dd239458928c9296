use Rattle.table_scan.proofs.Meaning.{tables_held, held_read, fault_meant}
use Rattle.table_scan.proofs.WholeRows.{read_whole}
use Rattle.table_scan.proofs.KeptKeys.{distinct_read}
use Rattle.table_scan.proofs.table.read.Goals as goal

pub returns-clause-tables : goal.returns-clause-tables
returns-clause-tables c = tables_held c.args.project.now c.args.texts.now c.tables.result (rw c.in_ok-roots.ensures at c.tables.ensures)

pub returns-clause-reads : goal.returns-clause-reads
returns-clause-reads c = held_read c.args.project.now c.args.texts.now c.tables.result (rw c.in_ok-roots.ensures at c.tables.ensures)

pub returns-clause-fault : goal.returns-clause-fault
returns-clause-fault c = fault_meant c.args.project.now c.args.texts.now c.tables.result (rw c.in_ok-roots.ensures at c.tables.ensures)

pub returns-clause-exact : goal.returns-clause-exact
returns-clause-exact c = rw c.in_ok-roots.ensures at c.tables.ensures

pub returns-clause-whole : goal.returns-clause-whole
returns-clause-whole c = read_whole c.args.project.now c.args.texts.now c.tables.result (rw c.in_ok-roots.ensures at c.tables.ensures)

pub returns-clause-distinct : goal.returns-clause-distinct
returns-clause-distinct c = distinct_read c.args.project.now c.args.texts.now c.tables.result (rw c.in_ok-roots.ensures at c.tables.ensures)
