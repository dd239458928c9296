use Rattle.tree_dev.proofs.NamesIn.{names_ascend, names_are_listing, names_exactly}
use Rattle.tree_dev.proofs.change_laws.names_are_the_entries.Goals as goal

pub returns-clause-exactly : goal.returns-clause-exactly
returns-clause-exactly c = λ t folder name. names_exactly t folder name

pub returns-clause-ascending : goal.returns-clause-ascending
returns-clause-ascending c = λ t folder. names_ascend t folder

pub returns-clause-listing : goal.returns-clause-listing
returns-clause-listing c = λ t folder tree. names_are_listing t folder tree
