use Rattle.path_name.proofs.DecimalTexts.{number_in-decimal_text}
use Rattle.path_name.proofs.laws.decimal_texts_are_read.Goals as goal

pub returns : goal.returns
returns c = number_in-decimal_text
