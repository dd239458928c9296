use Rattle.dump_command.proofs.OpenedTables.{authoritative_opens, optimised_opens}
use Rattle.dump_command.proofs.laws.dumped_class_maps.Goals as goal

pub returns-clause-optimised : goal.returns-clause-optimised
returns-clause-optimised c = λ project t left after standing new are mode.
    optimised_opens c.walks_of_rows_come_last.ensures.parts project t left after standing new are c.optimised_tables.ensures.unambiguous c.optimised_tables.ensures.others mode

pub returns-clause-authoritative : goal.returns-clause-authoritative
returns-clause-authoritative c = λ project t left after standing new are mode tree formed.
    authoritative_opens c.walks_of_rows_come_last.ensures.parts project t left after standing new are c.walks_of_rows_come_last.ensures.same c.authoritative_tables.ensures.mapped
    c.authoritative_tables.ensures.in_reach mode tree formed
