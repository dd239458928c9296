use Rattle.table_scan.proofs.Meaning.{tables_are, are_tables, one_tables, tables_fault}
use Rattle.table_scan.proofs.KeptKeys.{held_distinct}
use Rattle.table_scan.proofs.laws.table_texts.Goals as goal

pub returns-clause-tables : goal.returns-clause-tables
returns-clause-tables c = λ project texts tables. (tables_are project texts tables, are_tables project texts tables)

pub returns-clause-one : goal.returns-clause-one
returns-clause-one c = one_tables

pub returns-clause-fault : goal.returns-clause-fault
returns-clause-fault c = tables_fault

pub returns-clause-distinct : goal.returns-clause-distinct
returns-clause-distinct c = held_distinct
