use Rattle.std.proofs.Common.{◌∙◌, ap, take, drop}
use Rattle.table_scan.proofs.Numbers.{no_number_at_front, number_at_front}
use Rattle.table_scan.proofs.number.number.Goals as goal

pub returns-then-len-eq0-clause-reads : goal.returns-then-len-eq0-clause-reads
returns-then-len-eq0-clause-reads c = no_number_at_front c.args.text.now c.requires (c.digits_len-len.ensures.digits ∙ ap (λ n. (take n c.args.text.now, drop n c.args.text.now)) c.if-len-eq0.true)

pub returns-clause-reads : goal.returns-clause-reads
returns-clause-reads c = number_at_front c.args.text.now c.split_at.result.0.now c.split_at.result.1.now c.digits_len-len.result c.digits_len-len.ensures.digits c.if-len-eq0.false c.digits_len-len.ensures.within c.split_at.ensures.front c.split_at.ensures.back
