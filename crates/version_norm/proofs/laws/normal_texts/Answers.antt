use Rattle.version_norm.proofs.ReadBack.{read_back, normal_text_exact}
use Rattle.version_norm.proofs.laws.normal_texts.Goals as goal

pub returns-clause-read_back : goal.returns-clause-read_back
returns-clause-read_back c = read_back

pub returns-clause-exact : goal.returns-clause-exact
returns-clause-exact c = normal_text_exact
