use Rattle.table_scan.proofs.Quotes.{plain_read}
use Rattle.table_scan.proofs.quoted.plain_closed.Goals as goal

pub returns-in-Some-clause-reads : goal.returns-in-Some-clause-reads
returns-in-Some-clause-reads c = plain_read c.args.text.now c.split_at.result.0.now c.split_at.result.1.now c.in-Some.rest.now c.plain_len.result c.split_at.ensures.front c.split_at.ensures.back c.plain_len.ensures.plain c.plain_len.ensures.within c.in-Some.ensures
