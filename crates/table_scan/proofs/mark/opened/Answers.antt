use Rattle.table_scan.proofs.Marks.{no_tag_at_front, tag_at_front}
use Rattle.table_scan.proofs.mark.opened.Goals as goal

pub returns-in-Some : goal.returns-in-Some
returns-in-Some c = tag_at_front c.args.text.now c.in-Some.rest.now c.in-Some.ensures

pub returns-in-None : goal.returns-in-None
returns-in-None c = no_tag_at_front c.args.text.now _ c.in-None.ensures c.after_gaps.ensures.left
