use Rattle.std.proofs.Common.{◌≡◌, length, map, drop}
use Rattle.plan_rules.specs.Sets.{set_of}
use Rattle.plan_rules.specs.Offers.{shown}
use Rattle.lock_file.specs.Searches.{with_offers}
use Rattle.lock_file.proofs.runtime.Search.find_offers.Given as goal

abbrev pub invariant-loop-offer : goal.invariant-loop-offer
invariant-loop-offer l = record {
  found : with_offers l.planned l.need l.self.found.items (map shown (drop l.offer-index l.offers)) ≡ with_offers l.planned l.need l.fn.self.found.items (map shown l.offers);
  marks : l.self.marks.items ≡ set_of (length l.planned) l.self.found.items;
}
