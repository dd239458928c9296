use Rattle.std.proofs.Common.{refl, sym, subst}
use Rattle.std.specs.Prelude.{All}
use Rattle.std.proofs.lemmas.List.Elements.{All-push}
use Rattle.plan_solve.specs.Search.{IsNeed}
use Rattle.plan_solve.proofs.Needs.{one_link}
use Rattle.plan_solve.proofs.members.put_links.Goals as goal

pub loop-link-preserved : goal.loop-link-preserved
loop-link-preserved c = record {
  links = one_link c.args.links.now c.loop-link.link-index c.link-item.result c.loop-link-test.true c.link-item.is _ c.loop-link.queue.items _ c.in_ok-push.ensures.items refl _ c.loop-link.invariant.links;
  needs = λ pool all. subst (All (IsNeed pool)) (sym c.in_ok-push.ensures.items) (All-push (IsNeed pool) c.loop-link.queue.items _ (c.loop-link.invariant.needs pool all) tt);
}
