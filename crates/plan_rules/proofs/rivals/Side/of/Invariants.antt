use Rattle.std.proofs.Common.{◌≡◌, ◌++◌, ℕ, List, map, drop}
use Rattle.plan_rules.specs.Offers.{rows_at}
use Rattle.plan_rules.specs.Rivals.{opposed, conflicts_from}
use Rattle.plan_rules.proofs.rivals.Side.of.Given as goal

abbrev pub invariant-loop-party : goal.invariant-loop-party
invariant-loop-party l = record {
  number : l.number ≡ l.party-index;
  opponents : (name : List ℕ) → map opposed (rows_at l.opponents name) ++ conflicts_from name l.number (map (λ party. party.now) (drop l.party-index l.packages)) ≡ conflicts_from name 0 (map (λ party. party.now) l.packages);
}
