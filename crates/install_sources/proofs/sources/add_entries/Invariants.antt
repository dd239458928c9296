use Rattle.std.proofs.Common.{◌≡◌, ◌++◌, map, take}
use Rattle.install_sources.proofs.sources.add_entries.Given as goal

abbrev pub invariant-loop-locked : goal.invariant-loop-locked
invariant-loop-locked l = map (λ entry. entry.now) l.entries.items ≡ map (λ entry. entry.now) l.fn.entries.items ++ take l.locked-index l.some
