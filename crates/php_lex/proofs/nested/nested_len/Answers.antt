use Rattle.std.proofs.Common.{List, ℕ, refl, sym, subst, arith}
use Rattle.std.proofs.lemmas.List.{drop_all}
use Rattle.php_lex.specs.Stacks.{AllEnd, levels_of, stack_of}
use Rattle.php_lex.proofs.OpenElements.{none_at_end}
use Rattle.php_lex.proofs.nested.nested_len.Goals as goal

pub returns-in-Fails : goal.returns-in-Fails
returns-in-Fails c = λ rest x.
    let below = c.loop-at.below.items in
    c.in-Fails.ensures rest (subst (λ (t : List ℕ). AllEnd (levels_of below) (stack_of c.loop-at.top below) t rest) (sym c.split_at.ensures.back) (c.loop-at.invariant.same.on rest (rest, x, refl)))

pub returns : goal.returns
returns c = λ rest x.
    let below = c.loop-at.below.items in
    none_at_end (levels_of below) c.loop-at.top below rest
    (subst (λ (t : List ℕ). AllEnd (levels_of below) (stack_of c.loop-at.top below) t rest) (drop_all c.loop-at.at c.args.text.now (omega arith)) (c.loop-at.invariant.same.on rest (rest, x, refl)))
