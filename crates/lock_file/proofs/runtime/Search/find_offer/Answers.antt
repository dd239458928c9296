use Rattle.std.proofs.Common.{◌∙◌, ap, sym, set, length, true}
use Rattle.plan_rules.specs.Sets.{set_of}
use Rattle.plan_rules.proofs.Marked.{one_marked}
use Rattle.lock_file.proofs.runtime.Search.find_offer.Goals as goal

pub returns-in_ok-push-clause-marks : goal.returns-in_ok-push-clause-marks
returns-in_ok-push-clause-marks c =
    let count = length c.args.planned.now in
    let number = c.args.offer.now.number in
    c.mark.ensures ∙ ap (λ marks. set marks number true) c.requires ∙ sym (one_marked count number c.args.self.now.found.items) ∙ ap (set_of count) (sym c.in_ok-push.ensures.items)
