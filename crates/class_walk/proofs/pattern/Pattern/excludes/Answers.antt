use Rattle.std.proofs.Common.{refl, sym, ap, ◌∙◌}
use Rattle.class_walk.specs.Patterns.{matches_front}
use Rattle.class_walk.proofs.ExcludedFiles.{none_excluded, below_excluded, not_empty, empty}
use Rattle.class_walk.proofs.pattern.Pattern.excludes.Goals as goal

pub returns-in-None : goal.returns-in-None
returns-in-None c = record { exact = sym (none_excluded c.args.self.now c.args.path.now c.in-None.ensures) }

pub returns-in_ok-matches_front-in-Some : goal.returns-in_ok-matches_front-in-Some
returns-in_ok-matches_front-in-Some c =
    let text = c.in-Some.text.now in
    let filled = not_empty text (sym c.is_empty.ensures ∙ c.if-not-is_empty.true) in
    record {
      exact = c.in_ok-matches_front-in-Some.ensures ∙ ap (λ parts. matches_front parts text) c.as_slice.ensures ∙ sym (below_excluded c.args.self.now c.args.path.now text c.in-Some.ensures ∙ rw filled refl);
    }

pub returns-else-not-is_empty : goal.returns-else-not-is_empty
returns-else-not-is_empty c =
    let text = c.in-Some.text.now in
    let none = empty text (sym c.is_empty.ensures ∙ c.if-not-is_empty.false) in
    record { exact = rw c.if-not-is_empty.false (sym (below_excluded c.args.self.now c.args.path.now text c.in-Some.ensures ∙ rw none refl)) }
