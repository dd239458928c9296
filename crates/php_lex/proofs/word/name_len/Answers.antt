use Rattle.std.proofs.Common.{sym, ◌∙◌, arith}
use Rattle.php_lex.proofs.Wholes.{name_more, name_stops}
use Rattle.php_lex.proofs.word.name_len.Goals as goal

pub returns-then-not-continues_name_at-clause-rest : goal.returns-then-not-continues_name_at-clause-rest
returns-then-not-continues_name_at-clause-rest c =
    sym (name_stops c.args.text.now c.loop-len.len (omega arith) (sym c.continues_name_at.ensures ∙ c.if-not-continues_name_at.true)) ∙ c.loop-len.invariant.rest

pub loop-len-preserved : goal.loop-len-preserved
loop-len-preserved c = record {
  within = omega arith;
  rest = sym (name_more c.args.text.now c.loop-len.len (omega arith) (sym c.continues_name_at.ensures ∙ c.if-not-continues_name_at.false)) ∙ c.loop-len.invariant.rest;
}
