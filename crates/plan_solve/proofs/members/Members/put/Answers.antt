use Rattle.std.proofs.Common.{◌∙◌, ap, sym, set, true, length}
use Rattle.plan_rules.proofs.Marked.{one_marked}
use Rattle.plan_solve.proofs.Queue.{queue_more}
use Rattle.plan_solve.proofs.members.Members.put.Goals as goal

pub returns : goal.returns
returns c = λ before known. record {
  marks = c.mark.ensures ∙ ap (λ marks. set marks c.args.number true) (ap (λ marks. marks.items) c.put_needs.ensures.marks ∙ known.marks) ∙ sym (one_marked (length c.args.pool.now.candidates) c.args.number before);
  queue = c.in_ok-put_needs.ensures.links before known ∙ rw known.queue (sym (queue_more c.args.pool.now before c.args.number));
  needs = c.in_ok-put_needs.ensures.needs before known;
  aside = c.put_needs.ensures.aside before known;
}
