use Rattle.std.proofs.Common.{◌+◌, length, refl, sym, arith}
use Rattle.std.proofs.lemmas.Result.{err_from_is_err_and}
use Rattle.constraint_set.specs.Constraints.{parts_of}
use Rattle.constraint_set.specs.Gathering.{parts_constraint}
use Rattle.constraint_set.proofs.PartsLeft.{one_more, refused, ended_there, work_within}
use Rattle.constraint_set.proofs.reading.read_parts.Goals as goal

pub loop-next-init : goal.loop-next-init
unfolding parts_constraint parts_of
loop-next-init c = record {
  left = rw (c.new-gathered.ensures.alternatives, c.new-gathered.ensures.comparisons, c.new-gathered.ensures.written, c.new-gathered.ensures.inferred)
      (record { most = length c.args.text.now + 1; enough = omega arith; left = refl });
  within = omega arith;
}

pub returns-in_err-part : goal.returns-in_err-part
returns-in_err-part c =
    let p = err_from_is_err_and c.from_residual.result c.from_residual.ensures.1 in
    rw (p.1, p.2) (λ other. refused _ _ _ _ _ _ (rw c.in-Some.is at c.loop-next.invariant.left) (c.in_err-part.ensures.exact other))

pub loop-next-preserved : goal.loop-next-preserved
loop-next-preserved c =
    let within = work_within c.next_joint-next.result (length c.in_ok-part.behind.now) (length c.in-Some.rest.now) c.next_joint-next.ensures.within c.in_ok-part.ensures.shorter in
    let before = rw c.in-Some.is at c.loop-next.invariant.within in
    record {
      left = one_more _ _ _ _ _ _ _ _ _ (rw c.in-Some.is at c.loop-next.invariant.left) c.in_ok-part.ensures.exact (sym c.next_joint-next.ensures.joint) within c.in_ok-add.ensures;
      within = omega (arith, within, before);
    }

pub returns : goal.returns
returns c = rw c.in_ok-into_constraint.ensures (ended_there _ _ _ _ c.in_default.not-Some c.loop-next.invariant.left)
