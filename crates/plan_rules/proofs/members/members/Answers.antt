use Rattle.std.proofs.Common.{◌∙◌, ap, length}
use Rattle.plan_rules.proofs.Marked.{length_of}
use Rattle.plan_rules.proofs.members.members.Goals as goal

pub chosen-requires : goal.chosen-requires
chosen-requires c = ap length (c.as_slice.ensures.value ∙ c.in_ok-marks.ensures) ∙ length_of (length c.args.candidates.now) c.args.numbers.now
