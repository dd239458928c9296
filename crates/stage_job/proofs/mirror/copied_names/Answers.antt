use Rattle.std.proofs.Common.{◌≡◌, ◌<◌, ◌+◌, ℕ, List, [], ◌∷◌, ◌++◌, cond, filter, take, get_or, length, sym, ap, ◌∙◌, arith}
use Rattle.std.proofs.lemmas.List.{take_all}
use Rattle.std.proofs.lemmas.List.Elements.{filter_more}
use Rattle.stage_job.specs.Checked.{passes_top}
use Rattle.stage_job.proofs.mirror.copied_names.Goals as goal

one_more : (names : List (List ℕ)) (i : ℕ) (x : List ℕ) (before after : List (List ℕ)) → i < length names → x ≡ get_or names i x → before ≡ filter passes_top (take i names)
    → after ≡ before ++ cond (passes_top x) (x ∷ []) [] → after ≡ filter passes_top (take (i + 1) names)
one_more names i x before after lt is was more = more ∙ ap (λ (front : List (List ℕ)). front ++ cond (passes_top x) (x ∷ []) []) was
    ∙ ap (λ (n : List ℕ). filter passes_top (take i names) ++ cond (passes_top n) (n ∷ []) []) is
    ∙ sym (filter_more passes_top names i x lt)

pub returns : goal.returns
returns c = c.loop-name.invariant ∙ ap (filter passes_top) (take_all c.loop-name.name-index c.args.names.now (omega (arith, c.loop-name-test.false)))
