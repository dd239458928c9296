use Rattle.std.proofs.Common.{◌≡◌, ◌++◌, ℕ, List, map, drop}
use Rattle.plan_rules.specs.Offers.{rows_at, shown, way_by, linked}
use Rattle.plan_rules.proofs.index.put_links.Given as goal

abbrev pub invariant-loop-link : goal.invariant-loop-link
invariant-loop-link l = (name : List ℕ) → map shown (rows_at l.lists name) ++ linked name l.number l.party (way_by l.kind) (drop l.link-index l.links)
    ≡ map shown (rows_at l.fn.lists name) ++ linked name l.number l.party (way_by l.kind) l.links
