use Rattle.std.proofs.Common.{[], length, ap, subst, sym, arith}
use Rattle.std.proofs.lemmas.List.{drop_all}
use Rattle.php_decl.specs.Quiet.{can_declare, IsQuiet}
use Rattle.php_decl.proofs.names.declared_plainly.Goals as goal

pub declared_until-requires : goal.declared_until-requires
declared_until-requires c = subst IsQuiet (sym (drop_all (length c.args.text.now) c.args.text.now (omega arith))) (λ j. ap can_declare (drop_all j [] (omega arith)))
