use Rattle.std.proofs.Common.{◌≡◌, ◌++◌, drop}
use Rattle.json_ordered.specs.Docs.{tree_of}
use Rattle.content_hash.specs.HashedParts.{is_first, rest_of, found_pairs}
use Rattle.content_hash.proofs.text.add_all.Given as goal

abbrev pub invariant-loop-name : goal.invariant-loop-name
invariant-loop-name l = l.out.items ++ rest_of (is_first l.out.items) (found_pairs (tree_of l.doc) (drop l.name-index l.names)) ≡ l.fn.out.items ++ rest_of (is_first l.fn.out.items) (found_pairs (tree_of l.doc) l.names)
