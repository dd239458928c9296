use Rattle.std.proofs.Common.{◌≡◌, ◌∙◌, ap, sym, map, not, false}
use Rattle.std.specs.Prelude.{◌&&◌}
use Rattle.std.specs.List.{list_any}
use Rattle.path_name.specs.Orders.{bytes_are_equal}
use Rattle.plan_rules.specs.Requirements.{is_on_package}
use Rattle.plan_rules.specs.Validity.{row_bars}
use Rattle.plan_rules.specs.Breaking.{suits, rows_in}
use Rattle.plan_rules.proofs.Rows.{any_filter}
use Rattle.plan_rules.proofs.facts.Facts.is_barred.Goals as goal

pub returns-then-not-is_on_package : goal.returns-then-not-is_on_package
returns-then-not-is_on_package c = λ name.
    let link = c.args.link.now in
    let rows = rows_in c.args.self.now in
    let off : is_on_package link ≡ false = sym c.is_on_package.ensures ∙ c.if-not-is_on_package.true in
    c.any_bars.ensures ∙ ap (λ some. list_any (λ row. not (suits link row)) (map (λ row. row.now) some)) c.at.ensures ∙ ap (list_any (λ row. not (suits link row))) (c.requires.platform link.name)
    ∙ sym (any_filter (λ row. bytes_are_equal row.name link.name) (λ row. not (suits link row)) rows) ∙ sym (ap (λ t. not t && list_any (row_bars link) rows) off)
