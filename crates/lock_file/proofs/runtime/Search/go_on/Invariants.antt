use Rattle.std.proofs.Common.{◌≡◌, ◌-◌, length}
use Rattle.plan_rules.specs.Sets.{set_of}
use Rattle.lock_file.specs.Searches.{IsSearch}
use Rattle.lock_file.proofs.runtime.Search.go_on.Given as goal

abbrev pub invariant-loop-number : goal.invariant-loop-number
invariant-loop-number l = record {
  search : IsSearch l.plan.pool.now l.plan.members.now l.looked l.self.found.items;
  marks : l.self.marks.items ≡ set_of (length l.plan.pool.now.candidates) l.self.found.items;
}

abbrev pub decreases-loop-number : goal.decreases-loop-number
decreases-loop-number l = length l.plan.pool.now.candidates - l.looked
