use Rattle.std.proofs.Common.{◌≡◌, ◌<◌, ◌+◌, ℕ, Bool, List, [], ◌∷◌, ◌++◌, cond, filter, take, get_or, length, sym, ap, ◌∙◌, arith}
use Rattle.std.proofs.lemmas.List.{take_all}
use Rattle.std.proofs.lemmas.List.Elements.{filter_more}
use Rattle.class_walk.specs.Walks.{counts}
use Rattle.class_walk.proofs.counted.those_that_count.Goals as goal

one_more : (p : List ℕ → Bool) (names : List (List ℕ)) (i : ℕ) (x : List ℕ) (before after : List (List ℕ)) → i < length names → x ≡ get_or names i x → before ≡ filter p (take i names)
    → after ≡ before ++ cond (p x) (x ∷ []) [] → after ≡ filter p (take (i + 1) names)
one_more p names i x before after lt is was more = more ∙ ap (λ (front : List (List ℕ)). front ++ cond (p x) (x ∷ []) []) was
    ∙ ap (λ (n : List ℕ). filter p (take i names) ++ cond (p n) (n ∷ []) []) is
    ∙ sym (filter_more p names i x lt)

pub loop-name-preserved : goal.loop-name-preserved
loop-name-preserved c = one_more (counts c.args.rule.now c.args.tail.now) c.args.declared.now c.loop-name.name-index c.name-item.result _ _ c.loop-name-test.true c.name-item.is c.loop-name.invariant c.in_ok-add_counted.ensures

pub returns : goal.returns
returns c = c.loop-name.invariant ∙ ap (filter (counts c.args.rule.now c.args.tail.now)) (take_all c.loop-name.name-index c.args.declared.now (omega (arith, c.loop-name-test.false)))
