use Rattle.std.proofs.Common.{◌≡◌, ◌++◌, map, take}
use Rattle.psr_routes.proofs.rows.put_prefix.Given as goal

abbrev pub invariant-loop-path : goal.invariant-loop-path
invariant-loop-path l = l.rows.items ≡ l.fn.rows.items ++ map (λ p. record { kind = l.kind; prefix = l.dirs.prefix; folder = l.folder ++ p.path }) (take l.path-index l.dirs.folders)
