-- The tree of each kind of document.
use Rattle.std.proofs.Common.{◌≡◌, ℕ, Bool, List, map, sym, ap, ◌∙◌}
use Rattle.std.specs.Global.{Vec}
use Rattle.json_ordered.specs.JsonTree.{JsonTree, Null, Boolean, Number, String, array_of, object_of}
use Rattle.json_ordered.specs.Docs.{tree_step, tree_of, pair_of}
use Rattle.json_ordered.specs.declared.doc.Doc.{Doc}
use Rattle.json_ordered.specs.declared.doc.Doc.TheOpen as open_doc
use Rattle.json_ordered.specs.declared.doc.Doc.TheVariants as docs
use Rattle.json_ordered.specs.declared.doc.Doc.TheVariants.{rolls-Null, rolls-Bool, rolls-Num, rolls-Str, rolls-List, rolls-Obj}
use Rattle.json_ordered.specs.declared.doc.Doc.TheFolds.{fold-roll-Doc}

pub tree_null : tree_of docs.Null ≡ Null
tree_null = ap tree_of (sym rolls-Null) ∙ fold-roll-Doc JsonTree tree_step open_doc.Null

pub tree_bool : (b : Bool) → tree_of (docs.Bool b) ≡ Boolean b
tree_bool b = ap tree_of (sym (rolls-Bool b)) ∙ fold-roll-Doc JsonTree tree_step (open_doc.Bool b)

pub tree_num : (t : List ℕ) → tree_of (docs.Num t) ≡ Number t
tree_num t = ap tree_of (sym (rolls-Num t)) ∙ fold-roll-Doc JsonTree tree_step (open_doc.Num t)

pub tree_str : (t : List ℕ) → tree_of (docs.Str t) ≡ String t
tree_str t = ap tree_of (sym (rolls-Str t)) ∙ fold-roll-Doc JsonTree tree_step (open_doc.Str t)

pub tree_list : (v : Vec Doc) → tree_of (docs.List v) ≡ array_of (map tree_of v.items)
tree_list v = ap tree_of (sym (rolls-List v)) ∙ fold-roll-Doc JsonTree tree_step (open_doc.List v)

pub tree_obj : (v : Vec (List ℕ × Doc)) → tree_of (docs.Obj v) ≡ object_of (map pair_of v.items)
tree_obj v = ap tree_of (sym (rolls-Obj v)) ∙ fold-roll-Doc JsonTree tree_step (open_doc.Obj v)
