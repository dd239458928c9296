use Rattle.std.proofs.Common.{◌∙◌, ap, sym, length, false}
use Rattle.std.proofs.Math.ListN.{replicate}
use Rattle.std.proofs.lemmas.List.Elements.{All-nil, All-same}
use Rattle.plan_rules.proofs.Marked.{none_marked}
use Rattle.plan_solve.specs.Search.{IsNeed}
use Rattle.plan_solve.proofs.Queue.{queue_none}
use Rattle.plan_solve.proofs.Needs.{none_aside}
use Rattle.plan_solve.proofs.members.Members.none.Goals as goal

pub returns : goal.returns
returns c =
    let pool = c.args.pool.now in
    record {
      marks = c.in_ok-marks.ensures.items_if_clones_equal (λ y e. e) ∙ ap (λ candidates. replicate (length candidates) false) c.as_slice.ensures ∙ sym (none_marked (length pool.candidates));
      queue = rw (c.in_ok-put_links-2.ensures.links, c.in_ok-put_links.ensures.links, c.new-queue.ensures.items, c.as_slice-2.ensures, c.as_slice-3.ensures) (sym (queue_none pool));
      needs = c.in_ok-put_links-2.ensures.needs pool (c.in_ok-put_links.ensures.needs pool (All-same (IsNeed pool) _ _ c.new-queue.ensures.items (All-nil (IsNeed pool))));
      aside = none_aside pool c.new.result c.new.ensures.empty;
    }
