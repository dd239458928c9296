use Rattle.json_ordered.specs.Docs.{tree_of}
use Rattle.manifest_read.proofs.Forms.{items_found}
use Rattle.manifest_read.proofs.values.items.Goals as goal

pub returns : goal.returns
returns c = items_found (tree_of c.args.doc.now) c.as_list.result c.as_list.ensures
