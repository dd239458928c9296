-- The value that a document in memory stands for.
use Rattle.std.specs.Prelude.{ℕ, List}
use Rattle.json_ordered.specs.declared.doc.Doc.{Doc}
use Rattle.json_ordered.specs.declared.doc.Doc.TheOpen as open_doc
use Rattle.json_ordered.specs.declared.doc.Doc.TheFolds.{fold-Doc}
use Rattle.json_ordered.specs.JsonTree.{JsonTree, Null, Boolean, Number, String, array_of, object_of}

-- one level, with the values of what is inside in its place
abbrev pub tree_step : open_doc.Doc-F JsonTree → JsonTree
tree_step open_doc.Null = Null
tree_step (open_doc.Bool b) = Boolean b
tree_step (open_doc.Num text) = Number text
tree_step (open_doc.Str text) = String text
tree_step (open_doc.List items) = array_of items.items
tree_step (open_doc.Obj members) = object_of members.items

abbrev pub tree_of : Doc → JsonTree
tree_of = fold-Doc JsonTree tree_step

-- a member of a document
abbrev pub pair_of : List ℕ × Doc → List ℕ × JsonTree
pair_of m = (m.0, tree_of m.1)
