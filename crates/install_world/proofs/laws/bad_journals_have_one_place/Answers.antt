use Rattle.install_world.specs.JournalText.{IsJournalText}
use Rattle.install_world.proofs.Places.{one_place}
use Rattle.install_world.proofs.laws.bad_journals_have_one_place.Goals as goal

pub returns-clause-one : goal.returns-clause-one
returns-clause-one c = λ text first second. one_place IsJournalText text first second

pub returns-clause-no_journal : goal.returns-clause-no_journal
returns-clause-no_journal c = λ text at journal bad says. bad.no_text (journal, says)
