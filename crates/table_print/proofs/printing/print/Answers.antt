use Rattle.table_scan.proofs.Meaning.{are_tables}
use Rattle.table_print.proofs.Printed.{held}
use Rattle.table_print.proofs.printing.print.Goals as goal

pub returns-clause-holds : goal.returns-clause-holds
returns-clause-holds c = held c.args.project.now c.args.tables.now c.in_ok-table_texts.field-0 c.requires.below c.requires.distinct c.requires.whole c.in_ok-table_texts.ensures.texts c.in_ok-table_texts.ensures.segments c.in_ok-table_texts.ensures.state

pub returns-clause-read_back : goal.returns-clause-read_back
returns-clause-read_back c = are_tables c.args.project.now c.in_ok-table_texts.field-0 c.args.tables.now
    (held c.args.project.now c.args.tables.now c.in_ok-table_texts.field-0 c.requires.below c.requires.distinct c.requires.whole c.in_ok-table_texts.ensures.texts c.in_ok-table_texts.ensures.segments c.in_ok-table_texts.ensures.state)
