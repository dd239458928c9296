use Rattle.php_lex.proofs.OneCut.{one_cut, joined_is, none_empty}
use Rattle.php_lex.proofs.cuts.laws.Goals as goal

pub returns-clause-one_cut : goal.returns-clause-one_cut
returns-clause-one_cut c = λ text a b x y. one_cut x y

pub returns-clause-joined : goal.returns-clause-joined
returns-clause-joined c = λ text lexemes x. joined_is x

pub returns-clause-not_empty : goal.returns-clause-not_empty
returns-clause-not_empty c = λ text lexemes x. none_empty x
