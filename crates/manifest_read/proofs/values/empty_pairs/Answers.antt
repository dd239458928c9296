use Rattle.std.proofs.Common.{sym, ◌∙◌}
use Rattle.json_ordered.specs.Docs.{tree_of}
use Rattle.manifest_read.proofs.Forms.{no_empty_pairs}
use Rattle.manifest_read.proofs.values.empty_pairs.Goals as goal

pub returns-else-is_empty : goal.returns-else-is_empty
returns-else-is_empty c = no_empty_pairs (tree_of c.args.doc.now) c.in-Some.items.now c.in-Some.ensures (sym c.is_empty.ensures ∙ c.if-is_empty.false)
