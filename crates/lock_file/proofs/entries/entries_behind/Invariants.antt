use Rattle.std.proofs.Common.{◌≡◌, ℕ, List, ◌++◌, map}
use Rattle.std.specs.List.{enumerate_from}
use Rattle.json_ordered.specs.Docs.{tree_of}
use Rattle.manifest_read.proofs.Gathering.{numbered_rest}
use Rattle.lock_file.specs.Entries.{entries_behind, Holds}
use Rattle.lock_file.proofs.Behind.{gathered}
use Rattle.lock_file.proofs.entries.entries_behind.Given as goal

abbrev pub invariant-loop-i : goal.invariant-loop-i
invariant-loop-i g l = (before : List (List ℕ)) → Holds l.fn.seen before →
    (entries_behind g.X.Entry.reading g.X.Entry.named before l.at (enumerate_from 0 (map tree_of l.items))
    ≡ gathered g.X.Entry.reading g.X.Entry.named l.at before l.entries.items (numbered_rest tree_of l.items l.i))
    × Holds l.seen (before ++ map g.X.Entry.named l.entries.items)
