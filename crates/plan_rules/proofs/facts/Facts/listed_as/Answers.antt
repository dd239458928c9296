use Rattle.std.proofs.Common.{◌∙◌, ap, sym, map, find}
use Rattle.std.specs.Option.{option_map}
use Rattle.path_name.specs.Orders.{bytes_are_equal}
use Rattle.plan_rules.specs.Breaking.{suits, rows_in}
use Rattle.plan_rules.proofs.Rows.{find_filter}
use Rattle.plan_rules.proofs.facts.Facts.listed_as.Goals as goal

pub returns-in-None : goal.returns-in-None
returns-in-None c =
    let link = c.args.link.now in
    ap (λ o. option_map (λ row. row.name) (option_map (λ row. row.now) o)) (sym c.in-None.is)
    ∙ ap (option_map (λ row. row.name)) (c.first_suiting.ensures ∙ ap (λ some. find (suits link) (map (λ row. row.now) some)) c.at.ensures ∙ ap (find (suits link)) (c.requires.platform link.name)
    ∙ sym (find_filter (λ row. bytes_are_equal row.name link.name) (suits link) (rows_in c.args.self.now)))

pub returns-in-Some : goal.returns-in-Some
returns-in-Some c =
    let link = c.args.link.now in
    ap (λ o. option_map (λ row. row.name) (option_map (λ row. row.now) o)) (sym c.in-Some.is)
    ∙ ap (option_map (λ row. row.name)) (c.first_suiting.ensures ∙ ap (λ some. find (suits link) (map (λ row. row.now) some)) c.at.ensures ∙ ap (find (suits link)) (c.requires.platform link.name)
    ∙ sym (find_filter (λ row. bytes_are_equal row.name link.name) (suits link) (rows_in c.args.self.now)))
