use Rattle.std.proofs.Common.{◌++◌, List, sym, ap, ◌∙◌, append-nil}
use Rattle.std.proofs.lemmas.Result.{on_ok_weaker}
use Rattle.stage_job.specs.declared.job.Part.{Part}
use Rattle.package_moves.proofs.PathsBehind.{inside_by, outside_by}
use Rattle.package_moves.proofs.search.add_outside.Goals as goal

pub returns-then-starts_with : goal.returns-then-starts_with
returns-then-starts_with c =
    sym (append-nil c.args.parts.now.items)
    ∙ ap (λ (xs : List Part). c.args.parts.now.items ++ xs) (sym (inside_by c.args.folder.now c.args.part.now.target c.starts_with.result c.args.stands c.args.part.now c.starts_with.ensures c.if-starts_with.true))

pub returns : goal.returns
returns c = on_ok_weaker c.add_own.result (λ adds.
    adds ∙ ap (λ (xs : List Part). c.args.parts.now.items ++ xs) (sym (outside_by c.args.folder.now c.args.part.now.target c.starts_with.result c.args.stands c.args.part.now c.starts_with.ensures c.if-starts_with.false)))
    c.add_own.ensures
