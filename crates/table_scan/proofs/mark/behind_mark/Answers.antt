use Rattle.table_scan.proofs.Marks.{marks_behind, behind_is_below, tag_is_no_token}
use Rattle.table_scan.proofs.mark.behind_mark.Goals as goal

pub returns-in-Tag-clause-token : goal.returns-in-Tag-clause-token
returns-in-Tag-clause-token c = rw c.in-Tag.is (tag_is_no_token c.args.text.now)

pub returns-in_default-clause-token : goal.returns-in_default-clause-token
returns-in_default-clause-token c = marks_behind c.args.text.now c.spelling.result.now c.args.mark c.behind.result c.requires c.in_default.not-Tag c.in_default.not-Assign c.spelling.ensures c.behind.ensures.value

pub returns-in_default-clause-within : goal.returns-in_default-clause-within
returns-in_default-clause-within c = behind_is_below c.spelling.result.now c.args.text.now c.args.mark c.behind.result c.spelling.ensures c.behind.ensures.within
