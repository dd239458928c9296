use Rattle.json_ordered.proofs.Printed.{item_texts}
use Rattle.json_ordered.proofs.hash_form.note_item.Goals as goal

pub returns : goal.returns
returns c = item_texts c.args.items.now c.args.place c.args.item.now c.requires.texts c.requires.within c.requires.is
