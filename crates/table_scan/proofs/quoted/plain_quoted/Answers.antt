use Rattle.table_scan.proofs.Quotes.{plain_at_front}
use Rattle.table_scan.proofs.quoted.plain_quoted.Goals as goal

pub returns-in-Some-clause-reads : goal.returns-in-Some-clause-reads
returns-in-Some-clause-reads c = plain_at_front c.args.text.now c.in-Some.inside.now c.plain_closed.result c.in-Some.ensures c.plain_closed.ensures.reads
