use Rattle.std.proofs.Common.{◌≡◌, ℕ, map}
use Rattle.std.specs.List.{enumerate_from}
use Rattle.json_ordered.specs.JsonTree.{JsonTree}
use Rattle.json_ordered.specs.Docs.{tree_of}
use Rattle.manifest_read.specs.Pointers.{at_item}
use Rattle.manifest_read.specs.Values.{each, text_at}
use Rattle.manifest_read.proofs.Gathering.{gathered, numbered_rest}
use Rattle.lock_file.proofs.installed.name_items.Given as goal

abbrev pub invariant-loop-i : goal.invariant-loop-i
invariant-loop-i l = each (λ (n : ℕ × JsonTree). text_at (at_item l.at n.0) n.1) (enumerate_from 0 (map tree_of l.items)) ≡ gathered (λ (n : ℕ × JsonTree). text_at (at_item l.at n.0) n.1) l.names.items (numbered_rest tree_of l.items l.i)
