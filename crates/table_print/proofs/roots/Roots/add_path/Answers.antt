use Rattle.std.proofs.Common.{◌++◌, sym, ap, ◌∙◌}
use Rattle.table_print.proofs.PathTexts.{path_in_vendor, path_in_project}
use Rattle.table_print.proofs.roots.Roots.add_path.Goals as goal

pub returns-in-Some-clause-text : goal.returns-in-Some-clause-text
returns-in-Some-clause-text c =
    c.in_ok-add_expression.ensures ∙ ap (λ text. c.args.out.now.items ++ text) (sym (path_in_vendor c.args.self.now.project.now c.args.path.now c.in-Some.rest.now (rw c.args.self.now.in_project at c.in-Some.ensures)))

pub returns-in_ok-add_expression-2-clause-text : goal.returns-in_ok-add_expression-2-clause-text
returns-in_ok-add_expression-2-clause-text c =
    c.in_ok-add_expression-2.ensures
    ∙ ap (λ text. c.args.out.now.items ++ text) (sym (path_in_project c.args.self.now.project.now c.args.path.now c.in-Some-below.rest.now (rw c.args.self.now.in_project at c.in_default.ensures) c.in-Some-below.ensures))
