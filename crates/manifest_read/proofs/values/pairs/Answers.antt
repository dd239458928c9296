use Rattle.json_ordered.specs.Docs.{tree_of}
use Rattle.manifest_read.proofs.Forms.{pairs_found}
use Rattle.manifest_read.proofs.values.pairs.Goals as goal

pub returns-in-Some : goal.returns-in-Some
returns-in-Some c = pairs_found (tree_of c.args.doc.now) c.in-Some.pairs.now c.in-Some.ensures
