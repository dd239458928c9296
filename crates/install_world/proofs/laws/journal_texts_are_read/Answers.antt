use Rattle.std.proofs.Common.{refl}
use Rattle.install_world.specs.declared.version.Version.TheVariants.{Two}
use Rattle.install_world.proofs.OneJournal.{one_journal}
use Rattle.install_world.proofs.laws.journal_texts_are_read.Goals as goal

pub returns-clause-one : goal.returns-clause-one
returns-clause-one c = λ text first second. one_journal text first second

pub returns-clause-written : goal.returns-clause-written
returns-clause-written c = λ journal is. record { version = Two; is_journal = is; printed = refl }
