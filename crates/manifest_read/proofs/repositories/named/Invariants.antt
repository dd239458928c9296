use Rattle.std.proofs.Common.{◌≡◌, map}
use Rattle.json_ordered.specs.Docs.{pair_of}
use Rattle.manifest_read.specs.Repositories.{each_there, named_entry_at}
use Rattle.manifest_read.proofs.Gathering.{gathered_there, rest}
use Rattle.manifest_read.proofs.repositories.named.Given as goal

abbrev pub invariant-loop-pair : goal.invariant-loop-pair
invariant-loop-pair l = each_there (named_entry_at l.at) (map pair_of l.pairs) ≡ gathered_there (named_entry_at l.at) l.repositories.items (rest pair_of l.pairs l.pair-index)
