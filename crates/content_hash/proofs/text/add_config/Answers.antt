use Rattle.json_ordered.specs.Docs.{tree_of}
use Rattle.content_hash.proofs.Pairs.{platform_text, platform_texts}
use Rattle.content_hash.proofs.text.add_config.Goals as goal

pub add_hash_form-requires : goal.add_hash_form-requires
add_hash_form-requires c = platform_texts (tree_of c.args.doc.now) (tree_of c.in-Some.platform.now) c.in-Some.ensures c.requires.texts

pub returns : goal.returns
returns c = platform_text (tree_of c.args.doc.now) (tree_of c.in-Some.platform.now) c.args.out.now.items c.extend_from_slice.new.self.items c.add_hash_form.new.out.items c.push.new.self.items c.in-Some.ensures c.requires.first c.in_ok-extend_from_slice.ensures.items c.in_ok-add_hash_form.ensures c.in_ok-push.ensures.items
