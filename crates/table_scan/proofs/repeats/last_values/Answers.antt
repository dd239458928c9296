use Rattle.std.proofs.Common.{sym, ap, map, subst, ◌∙◌}
use Rattle.std.specs.declared.cmp.Ordering.TheVariants.{Less, Greater}
use Rattle.table_scan.specs.Repeats.{are_strict}
use Rattle.table_scan.specs.DistinctKeys.{AreDistinct}
use Rattle.table_scan.proofs.Distinct.{distinct_are_last}
use Rattle.table_scan.proofs.KeyOrder.{strict_keys}
use Rattle.table_scan.proofs.repeats.last_values.Goals as goal

pub returns-then-are_strict : goal.returns-then-are_strict
returns-then-are_strict g c = strict_keys g.R.Keyed.key_of Less tt c.args.rows.items (ap (λ rs. are_strict Less (map g.R.Keyed.key_of rs)) (sym c.as_slice.ensures.value) ∙ sym c.are_strict.ensures ∙ c.if-are_strict.true)

pub returns-then-are_strict-2 : goal.returns-then-are_strict-2
returns-then-are_strict-2 g c = strict_keys g.R.Keyed.key_of Greater tt c.args.rows.items (ap (λ rs. are_strict Greater (map g.R.Keyed.key_of rs)) (sym c.as_slice-2.ensures.value) ∙ sym c.are_strict-2.ensures ∙ c.if-are_strict-2.true)

pub returns-then-distinct : goal.returns-then-distinct
returns-then-distinct g c = distinct_are_last g.R.Keyed.key_of c.args.rows.items (subst (λ rs. AreDistinct (map g.R.Keyed.key_of rs)) c.as_slice-3.ensures.value (c.in_ok-distinct.ensures c.if-distinct.true))
