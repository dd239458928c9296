use Rattle.std.proofs.Common.{map}
use Rattle.std.specs.String.{string_bytes}
use Rattle.std.proofs.lemmas.Result.{err_from_is_err_and}
use Rattle.composer_top.specs.Chosen.{chosen_in}
use Rattle.composer_top.proofs.Performed.{not_begun}
use Rattle.composer_top.proofs.Warned.{not_warned, nothing_said}
use Rattle.composer_top.proofs.runner.perform.Goals as goal

pub returns-in_err-chosen-clause-performs : goal.returns-in_err-chosen-clause-performs
returns-in_err-chosen-clause-performs g c =
    let p = err_from_is_err_and c.from_residual.result c.from_residual.ensures.1 in
    rw (p.1, p.2) (not_begun (chosen_in (map string_bytes c.args.words.now)) _ c.in_err-chosen.ensures.value _ c.in_err-chosen.ensures.no_device
    (λ t told. (g.met.T.Tree.tells_its_disk c.args.tree.now t told).reads))

pub returns-in_err-chosen-clause-warns : goal.returns-in_err-chosen-clause-warns
returns-in_err-chosen-clause-warns g c = λ t told.
    let p = err_from_is_err_and c.from_residual.result c.from_residual.ensures.1 in
    rw (p.1, p.2) (not_warned t (chosen_in (map string_bytes c.args.words.now)) c.in_err-chosen.field-0.0 (g.E.Sink.meaning c.args.errs.now) c.in_err-chosen.ensures.value)

pub returns-in_err-chosen-clause-may_warn : goal.returns-in_err-chosen-clause-may_warn
returns-in_err-chosen-clause-may_warn g c = nothing_said (chosen_in (map string_bytes c.args.words.now)) (g.E.Sink.meaning c.args.errs.now)
