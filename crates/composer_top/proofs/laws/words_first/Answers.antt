use Rattle.composer_top.proofs.WordsFirst.{words_first}
use Rattle.composer_top.proofs.laws.words_first.Goals as goal

pub returns-clause-outcome : goal.returns-clause-outcome
returns-clause-outcome c = λ t now words refusal e. (words_first refusal t now words e).0

pub returns-clause-one : goal.returns-clause-one
returns-clause-one c = λ t now words refusal e. (words_first refusal t now words e).1
