use Rattle.std.proofs.Common.{◌≡◌, map, take}
use Rattle.json_ordered.specs.JsonTree.{String}
use Rattle.json_ordered.specs.Docs.{tree_of}
use Rattle.lock_file.specs.Locks.{locked_name}
use Rattle.lock_file.proofs.installed_printing.names_doc.Given as goal

abbrev pub invariant-loop-entry : goal.invariant-loop-entry
invariant-loop-entry l = map tree_of l.docs.items ≡ map (λ entry. String (locked_name entry.now)) (take l.entry-index l.entries)
