use Rattle.constraint_set.proofs.ReadTexts.{text_takes}
use Rattle.constraint_set.proofs.SpelledTexts.{text_spelled}
use Rattle.constraint_set.proofs.laws.constraint_texts.Goals as goal

pub returns-clause-spelled : goal.returns-clause-spelled
returns-clause-spelled c = text_spelled

pub returns-clause-read : goal.returns-clause-read
returns-clause-read c = text_takes
