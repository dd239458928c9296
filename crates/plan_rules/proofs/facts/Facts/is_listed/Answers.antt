use Rattle.std.proofs.Common.{◌∙◌, ap, sym, find}
use Rattle.std.specs.Prelude.{is_some}
use Rattle.plan_rules.specs.Validity.{is_listed_as}
use Rattle.plan_rules.specs.Breaking.{rows_in}
use Rattle.plan_rules.proofs.MarkedRivals.{any_found, some_shown}
use Rattle.plan_rules.proofs.facts.Facts.is_listed.Goals as goal

pub returns : goal.returns
returns c =
    let rows = rows_in c.args.self.now in
    c.is_some.ensures ∙ sym (some_shown (λ other. other.now) c.listed_as.result) ∙ ap is_some c.listed_as.ensures ∙ some_shown (λ row. row.name) (find (is_listed_as c.args.link.now) rows) ∙ sym (any_found (is_listed_as c.args.link.now) rows)
