use Rattle.std.proofs.Common.{◌≡◌, map, drop}
use Rattle.pkg_pool.specs.Stability.{AreFlagsOf}
use Rattle.plan_rules.specs.Breaking.{allowed_rule}
use Rattle.plan_rules.proofs.checking.not_allowed.Given as goal

abbrev pub invariant-loop-member : goal.invariant-loop-member
invariant-loop-member l = record {
  flags : AreFlagsOf l.flags l.root;
  rest : allowed_rule l.root (map (λ member. member.now) (drop l.member-index l.members)) ≡ allowed_rule l.root (map (λ member. member.now) l.members);
}
