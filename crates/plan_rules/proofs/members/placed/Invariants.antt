use Rattle.std.proofs.Common.{◌≡◌, [], map, drop}
use Rattle.plan_rules.specs.Validity.{by_name}
use Rattle.plan_rules.proofs.Placing.{ArePlaced, shown_all}
use Rattle.plan_rules.proofs.members.placed.Given as goal

abbrev pub invariant-loop-place : goal.invariant-loop-place
invariant-loop-place l = record {
  sorted : by_name (shown_all l.placed.entries) (map (λ member. member.now) (drop l.place l.list)) ≡ by_name [] (map (λ member. member.now) l.list);
  behind : ArePlaced l.place l.placed.entries;
}
