use Rattle.plan_rules.proofs.Plans.{met}
use Rattle.plan_rules.proofs.laws.dead_ends.Goals as goal

-- src/laws.rt:52:1
pub returns : goal.returns
returns c = record {
  none = λ pool before need unmet none set size valid all.
      let choice = met pool before need set size valid all unmet in
      none choice.0 choice.1 (record { set = set; is_of_pool = size; valid = valid; has_before = all; has_choice = choice.2 });
}
