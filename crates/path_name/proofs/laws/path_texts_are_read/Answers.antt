use Rattle.path_name.proofs.PathTexts.{path_of-path_text}
use Rattle.path_name.proofs.laws.path_texts_are_read.Goals as goal

pub returns : goal.returns
returns c = path_of-path_text
