use Rattle.std.proofs.Common.{◌≡◌, ◌∙◌, ◌-◌, ◌++◌, ap, sym, subst, map, take, drop, set, false, length, arith}
use Rattle.std.specs.Prelude.{All}
use Rattle.std.proofs.lemmas.List.{take-map, drop-map, length-map, length-append}
use Rattle.std.proofs.lemmas.List.Elements.{All-take, All-drop}
use Rattle.plan_rules.specs.FirstChoice.{queue}
use Rattle.plan_solve.specs.Search.{IsNeed, links_of, requires_of}
use Rattle.plan_solve.proofs.Needs.{back_taken}
use Rattle.plan_solve.proofs.Queue.{listed, queue_more, front_taken, one_unmarked}
use Rattle.plan_solve.proofs.members.Members.take_back.Goals as goal

pub returns : goal.returns
returns c = λ before new known.
    let pool = c.args.pool.now in
    let number = c.args.number in
    let queued = c.args.self.now.queue.items in
    let whole = listed c.args.self.now in
    let end = requires_of pool number in
    let kept : c.saturating_sub-kept.result ≡ length whole - length end =
    omega (arith, c.saturating_sub-kept.ensures, c.len.ensures, c.args.self.now.queue.ok.0, ap length c.requires_of-count.ensures, length-map queued (λ need. need.link.now)) in
    let longer : whole ≡ queue pool before ++ end = known.queue ∙ queue_more pool before number in
    let front : c.saturating_sub-kept.result ≡ length (queue pool before) = omega (arith, kept, ap length longer, length-append (queue pool before) end) in
    record {
      marks = c.mark.ensures ∙ ap (λ marks. set marks number false) known.marks ∙ one_unmarked (length pool.candidates) before number new;
      queue = ap links_of c.in_ok-needs.ensures.items ∙ sym (take-map (λ need. need.link.now) c.saturating_sub-kept.result queued) ∙ ap (λ n. take n whole) kept
          ∙ front_taken (queue pool before) end whole longer;
      needs = subst (All (IsNeed pool)) (sym c.in_ok-needs.ensures.items) (All-take (IsNeed pool) c.saturating_sub-kept.result queued known.needs);
      aside = c.in_ok-set_aside.ensures pool known.aside (
        ap links_of c.in_ok-needs.ensures.tail ∙ sym (drop-map (λ need. need.link.now) c.saturating_sub-kept.result queued) ∙ back_taken (queue pool before) end whole c.saturating_sub-kept.result longer front,
        subst (All (IsNeed pool)) (sym c.in_ok-needs.ensures.tail) (All-drop (IsNeed pool) c.saturating_sub-kept.result queued known.needs),
      );
    }
