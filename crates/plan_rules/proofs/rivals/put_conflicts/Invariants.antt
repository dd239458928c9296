use Rattle.std.proofs.Common.{◌≡◌, ◌++◌, ℕ, List, map, drop}
use Rattle.plan_rules.specs.Offers.{rows_at}
use Rattle.plan_rules.specs.Rivals.{opposed, conflicts_along}
use Rattle.plan_rules.proofs.rivals.put_conflicts.Given as goal

abbrev pub invariant-loop-link : goal.invariant-loop-link
invariant-loop-link l = (name : List ℕ) → map opposed (rows_at l.lists name) ++ conflicts_along name l.number l.party (drop l.link-index l.party.conflict)
    ≡ map opposed (rows_at l.fn.lists name) ++ conflicts_along name l.number l.party l.party.conflict
