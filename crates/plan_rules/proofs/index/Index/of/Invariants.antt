use Rattle.std.proofs.Common.{◌≡◌, ◌++◌, ℕ, List, map, drop}
use Rattle.plan_rules.specs.Offers.{rows_at, shown, offers_from}
use Rattle.plan_rules.proofs.index.Index.of.Given as goal

abbrev pub invariant-loop-party : goal.invariant-loop-party
invariant-loop-party l = record {
  number : l.number ≡ l.party-index;
  offers : (name : List ℕ) → map shown (rows_at l.offers name) ++ offers_from name l.number (map (λ party. party.now) (drop l.party-index l.packages)) ≡ offers_from name 0 (map (λ party. party.now) l.packages);
}
