use Rattle.std.proofs.Common.{sym, ◌∙◌, ap}
use Rattle.std.specs.Prelude.{nat_eq}
use Rattle.std.specs.Cmp.Lexicographic.{pointwise}
use Rattle.install_world.proofs.LineWords.{target_by_first, target_by_text}
use Rattle.install_world.proofs.target.is_target_path.Goals as goal

pub returns-then-eq : goal.returns-then-eq
returns-then-eq c = (
  λ yes. target_by_first c.args.path.now c.in-Some.first.now c.text-text.ensures.segments c.in-Some.ensures
      (ap (pointwise nat_eq c.in-Some.first.now) (sym c.as_slice.ensures) ∙ sym c.eq.ensures ∙ c.if-eq.true),
  λ is. c.if-eq.true,
)

pub returns-else-eq : goal.returns-else-eq
returns-else-eq c =
    target_by_text c.args.path.now c.in-Some.first.now c.text-text.result.now c.eq-else-eq.result c.text-text.ensures.segments c.in-Some.ensures
    (ap (pointwise nat_eq c.in-Some.first.now) (sym c.as_slice.ensures) ∙ sym c.eq.ensures ∙ c.if-eq.false) c.text-text.ensures.value
    (c.eq-else-eq.ensures ∙ ap (pointwise nat_eq c.text-text.result.now) c.as_slice-else-eq.ensures)
