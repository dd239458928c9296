use Rattle.std.proofs.Common.{ℕ, sym, subst}
use Rattle.install_world.specs.InFlight.{IsPart}
use Rattle.install_world.specs.Targets.{IsTargetPath}
use Rattle.install_world.specs.declared.target.Target.{Target}
use Rattle.vendor_journal.specs.Prepared.{ArePrepared}
use Rattle.install_world.proofs.RecoveryRules.{at_is}
use Rattle.install_world.proofs.Segments.{install_segment, journal_segment}
use Rattle.vendor_journal.proofs.PreparedParts.{draft_is, draft_segment, targets_are}
use Rattle.vendor_journal.proofs.prepared.prepare.Goals as goal

pub child-requires : goal.child-requires
child-requires c = install_segment

pub child-requires-2 : goal.child-requires-2
child-requires-2 c = journal_segment

pub child-requires-3 : goal.child-requires-3
child-requires-3 c = draft_segment

pub returns : goal.returns
returns c = λ is. record {
  is_journal = is;
  text_is = c.in_ok-text.ensures;
  at_is = at_is c.args.hold.now.project c.in_ok-work.work c.in_ok-at.at c.in_ok-work.ensures c.in_ok-at.ensures;
  draft_is = draft_is c.args.hold.now.project c.in_ok-work.work c.in_ok-draft.draft c.in_ok-work.ensures c.in_ok-draft.ensures;
  small = c.length_of.ensures.small;
  parts_are = subst (λ targets. ArePrepared c.args.hold.now.project targets c.in_ok-parts.parts.items) c.as_slice.ensures
      (c.in_ok-parts.ensures (subst (λ targets. (number : ℕ) (target : Target) → IsPart targets number target → IsTargetPath target.path) (sym c.as_slice.ensures)
      (targets_are c.args.journal.now is)));
}
