use Rattle.php_decl.proofs.Silence.{silence}
use Rattle.php_decl.proofs.names.laws.Goals as goal

pub returns : goal.returns
returns c = λ in_code text lexemes x q earlier previous. silence x q earlier previous
