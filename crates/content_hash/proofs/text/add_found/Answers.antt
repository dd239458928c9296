use Rattle.std.proofs.lemmas.Result.{on_ok_weaker}
use Rattle.json_ordered.specs.Docs.{tree_of}
use Rattle.json_ordered.proofs.Inside.{texts_inside}
use Rattle.content_hash.proofs.Pairs.{found}
use Rattle.content_hash.proofs.text.add_found.Goals as goal

pub add_hash_form-requires : goal.add_hash_form-requires
add_hash_form-requires c = texts_inside (tree_of c.args.doc.now) (tree_of c.in-Some.value.now) c.args.name.now c.in-Some.ensures c.requires.texts

pub returns : goal.returns
returns c = on_ok_weaker c.add_hash_form.result (found (tree_of c.args.doc.now) (tree_of c.in-Some.value.now) c.args.name.now c.args.out.now.items c.add_opening.new.out.items c.push.new.self.items c.extend_from_slice.new.self.items c.extend_from_slice-2.new.self.items c.add_hash_form.new.out.items c.requires.kept c.in-Some.ensures
    c.in_ok-add_opening.ensures c.in_ok-push.ensures.items c.in_ok-extend_from_slice.ensures.items c.in_ok-extend_from_slice-2.ensures.items) c.add_hash_form.ensures
