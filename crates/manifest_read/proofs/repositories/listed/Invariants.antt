use Rattle.std.proofs.Common.{◌≡◌, ℕ, map}
use Rattle.std.specs.List.{enumerate_from}
use Rattle.json_ordered.specs.JsonTree.{JsonTree}
use Rattle.json_ordered.specs.Docs.{tree_of}
use Rattle.manifest_read.specs.Pointers.{at_item}
use Rattle.manifest_read.specs.Repositories.{each_there, entry_at}
use Rattle.manifest_read.proofs.Gathering.{gathered_there, numbered_rest}
use Rattle.manifest_read.proofs.repositories.listed.Given as goal

abbrev pub invariant-loop-i : goal.invariant-loop-i
invariant-loop-i l = each_there (λ (n : ℕ × JsonTree). entry_at (at_item l.at n.0) n.1) (enumerate_from 0 (map tree_of l.items)) ≡ gathered_there (λ (n : ℕ × JsonTree). entry_at (at_item l.at n.0) n.1) l.repositories.items (numbered_rest tree_of l.items l.i)
