use Rattle.table_scan.proofs.Quotes.{closed_at_front, unclosed_at_front, no_quote_at_front}
use Rattle.table_scan.proofs.quoted.quoted.Goals as goal

pub returns-in_default-clause-reads : goal.returns-in_default-clause-reads
returns-in_default-clause-reads c = no_quote_at_front c.args.text.now c.requires c.in_default.ensures

pub returns-in-None-clause-reads : goal.returns-in-None-clause-reads
returns-in-None-clause-reads c = unclosed_at_front c.args.text.now c.in-Some.inside.now c.in-Some.ensures (rw c.in-None.is at c.in_ok-closed_text.ensures.exact)

pub returns-in-Some-2-clause-reads : goal.returns-in-Some-2-clause-reads
returns-in-Some-2-clause-reads c = closed_at_front c.args.text.now c.in-Some.inside.now c.in-Some-2.read.0.items c.in-Some-2.read.1.now c.in-Some.ensures (rw c.in-Some-2.is at c.in_ok-closed_text.ensures.exact)
