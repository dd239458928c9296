use Rattle.std.proofs.Common.{subst}
use Rattle.php_lex.specs.Cut.{Standing}
use Rattle.php_decl.specs.Words.{IsNamespace}
use Rattle.php_decl.proofs.ahead.namespace_behind.Goals as goal

pub returns : goal.returns
returns c = subst (λ (s : Standing). IsNamespace s c.namespace_from.result) c.copy.ensures c.namespace_from.ensures
