use Rattle.std.proofs.Common.{◌∙◌, ap, sym, set, take, true, get_or}
use Rattle.std.proofs.lemmas.List.{take_more, take_all}
use Rattle.plan_rules.specs.Sets.{set_of}
use Rattle.plan_rules.proofs.Marked.{one_marked, none_marked}
use Rattle.lock_file.proofs.runtime.marks.Goals as goal

pub loop-number-init : goal.loop-number-init
loop-number-init c = c.in_ok-marks.ensures.items_if_clones_equal (λ y e. e) ∙ sym (none_marked c.args.count)

pub loop-number-preserved : goal.loop-number-preserved
loop-number-preserved c =
    let numbers = c.args.numbers.now in
    let i = c.loop-number.number-index in
    c.mark.ensures ∙ ap (λ marks. set marks (get_or numbers i 0) true) c.loop-number.invariant
    ∙ sym (ap (set_of c.args.count) (take_more numbers i 0 c.loop-number-test.true) ∙ one_marked c.args.count (get_or numbers i 0) (take i numbers))

pub returns : goal.returns
returns c = c.loop-number.invariant ∙ ap (set_of c.args.count) (take_all c.loop-number.number-index c.args.numbers.now c.loop-number-test.false)
