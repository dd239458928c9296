use Rattle.std.proofs.Common.{add-one}
use Rattle.json_ordered.specs.Docs.{tree_of}
use Rattle.content_hash.proofs.Pairs.{kept_at, key_step, keys_end}
use Rattle.content_hash.proofs.text.add_all.Goals as goal

pub loop-name-preserved : goal.loop-name-preserved
loop-name-preserved c = rw add-one (key_step (tree_of c.args.doc.now) c.loop-name.out.items c.add_found.new.out.items _ c.args.names.now c.loop-name.name-index _ c.loop-name-test.true c.loop-name.invariant c.in_ok-add_found.ensures)

pub returns : goal.returns
returns c = keys_end (tree_of c.args.doc.now) c.loop-name.out.items _ c.args.names.now c.loop-name.name-index c.loop-name-test.false c.loop-name.invariant

pub add_found-requires-clause-kept : goal.add_found-requires-clause-kept
add_found-requires-clause-kept c = kept_at c.args.names.now c.loop-name.name-index _ c.requires.kept c.loop-name-test.true
