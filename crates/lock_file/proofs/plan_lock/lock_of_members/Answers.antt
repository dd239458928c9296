use Rattle.std.proofs.Common.{◌∙◌, ap, sym, length}
use Rattle.plan_rules.proofs.Marked.{length_of}
use Rattle.lock_file.proofs.plan_lock.lock_of_members.Goals as goal

pub listing-requires : goal.listing-requires
listing-requires c = ap length c.as_slice-3.ensures.value ∙ c.in_ok-runtime.ensures.length ∙ ap length (sym c.as_slice-candidates.ensures)

pub listing-requires-2 : goal.listing-requires-2
listing-requires-2 c = ap length (c.as_slice-4.ensures.value ∙ c.in_ok-development.ensures) ∙ length_of _ _
