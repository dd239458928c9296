use Rattle.std.proofs.Common.{map}
use Rattle.lock_file.proofs.Views.{shown}
use Rattle.install_sources.proofs.LockEntries.{are_sources, entries_formed, members_told}
use Rattle.install_sources.proofs.sources.members.Goals as goal

pub returns-clause-told : goal.returns-clause-told
returns-clause-told g c = λ t told.
    members_told t c.args.project.now c.args.lock.now c.args.dev (map shown c.in_ok-entries.entries.items) c.placed_each.result c.in_ok-entries.ensures (rw c.as_slice.ensures.value at (c.placed_each.ensures.told t told))

pub returns-clause-sources : goal.returns-clause-sources
returns-clause-sources g c =
    are_sources c.args.project.now c.args.lock.now c.args.dev c.in_ok-entries.entries.items c.placed_each.result c.requires.formed c.in_ok-entries.ensures c.placed_each.ensures.sources (rw c.as_slice.ensures.value at c.placed_each.ensures.names)

pub placed_each-requires : goal.placed_each-requires
placed_each-requires g c = rw c.as_slice.ensures.value (record { formed = entries_formed c.args.lock.now c.args.dev (map shown c.in_ok-entries.entries.items) c.requires.formed c.in_ok-entries.ensures })
