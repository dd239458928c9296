use Rattle.json_ordered.proofs.Printed.{member_texts}
use Rattle.json_ordered.proofs.hash_form.note_member.Goals as goal

pub returns-clause-name : goal.returns-clause-name
returns-clause-name c = (member_texts c.args.members.now c.args.place c.args.member.now c.requires.texts c.requires.within c.requires.is).0

pub returns-clause-value : goal.returns-clause-value
returns-clause-value c = (member_texts c.args.members.now c.args.place c.args.member.now c.requires.texts c.requires.within c.requires.is).1
