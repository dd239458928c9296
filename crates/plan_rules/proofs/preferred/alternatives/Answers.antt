use Rattle.std.proofs.Common.{◌≡◌, ◌∙◌, [], None, ap, sym, subst, map}
use Rattle.std.specs.List.Sorted.{IsStrictlySortedBy}
use Rattle.std.proofs.lemmas.Result.{IfOk-weaker}
use Rattle.plan_rules.specs.Sets.{AreDistinct}
use Rattle.plan_rules.specs.Preference.{AreAlternatives}
use Rattle.plan_rules.specs.Offers.{shown}
use Rattle.plan_rules.specs.Ranks.{rank_of, rank_cmp, heads, put_ranks, numbers_of}
use Rattle.plan_rules.proofs.Ranking.{offered, are_alternatives, each_once}
use Rattle.plan_rules.proofs.preferred.alternatives.Goals as goal

pub returns-clause-alternatives : goal.returns-clause-alternatives
returns-clause-alternatives c = λ known.
    let pool = c.args.pool.now in
    let need = c.args.need.now in
    let list = c.in_ok-heads.heads.items in
    let are : map shown list ≡ offered pool need = c.in_ok-heads.ensures ∙ ap (heads need None) (ap (map shown) c.rows_at.ensures ∙ known need.name) in
    let keys : c.in_ok-ranks.ranks.keys ≡ put_ranks [] (map (rank_of pool.root.prefer_stable) list) = c.in_ok-ranks.ensures ∙ ap (λ some. put_ranks [] (map (rank_of pool.root.prefer_stable) some)) c.as_slice.ensures.value in
    IfOk-weaker c.numbers.result (λ numbers. numbers.items ≡ numbers_of c.in_ok-ranks.ranks.keys) (λ numbers. AreAlternatives pool need numbers.items)
    (λ numbers e. subst (AreAlternatives pool need) (sym (e ∙ ap numbers_of keys)) (are_alternatives pool need list are (subst (IsStrictlySortedBy rank_cmp) keys c.numbers.ensures.ordered)))
    c.numbers.ensures.numbers

pub returns-clause-once : goal.returns-clause-once
returns-clause-once c = λ known.
    let pool = c.args.pool.now in
    let need = c.args.need.now in
    IfOk-weaker c.numbers.result (λ numbers. AreAlternatives pool need numbers.items) (λ numbers. AreDistinct numbers.items) (λ numbers all. each_once pool need numbers.items all.sorted) (returns-clause-alternatives c known)
