use Rattle.std.proofs.Common.{subst}
use Rattle.php_lex.specs.Cut.{Standing}
use Rattle.php_decl.specs.Words.{IsIdentifier}
use Rattle.php_decl.proofs.ahead.identifier_behind.Goals as goal

pub returns : goal.returns
returns c = subst (λ (s : Standing). IsIdentifier s c.identifier_from.result) c.copy.ensures c.identifier_from.ensures
