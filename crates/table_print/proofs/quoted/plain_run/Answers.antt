use Rattle.table_print.proofs.Escapes.{escaped_run, starts_special}
use Rattle.table_print.proofs.quoted.plain_run.Goals as goal

pub returns-clause-kept : goal.returns-clause-kept
returns-clause-kept c = rw (c.split_at.ensures.front, c.split_at.ensures.back) (escaped_run c.args.text.now c.plain_len.result c.plain_len.ensures.within c.plain_len.ensures.plain)

pub returns-clause-stops : goal.returns-clause-stops
returns-clause-stops c = rw c.split_at.ensures.back (starts_special c.args.text.now c.plain_len.result c.plain_len.ensures.special)
