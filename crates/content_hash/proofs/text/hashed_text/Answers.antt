use Rattle.std.proofs.Common.{◌∙◌}
use Rattle.json_ordered.specs.Docs.{tree_of}
use Rattle.content_hash.proofs.Pairs.{text_of}
use Rattle.content_hash.proofs.text.hashed_text.Goals as goal

pub returns : goal.returns
returns c = c.of.ensures ∙ text_of (tree_of c.args.doc.now) c.add_config.new.out.items c.add_all.new.out.items c.add_ending.new.out.items c.in_ok-add_config.ensures c.in_ok-add_all.ensures c.in_ok-add_ending.ensures
