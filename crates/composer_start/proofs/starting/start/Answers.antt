use Rattle.std.proofs.Common.{map, inl}
use Rattle.std.specs.String.{string_bytes}
use Rattle.install_choice.proofs.Warned.{takes_nothing}
use Rattle.composer_top.specs.Chosen.{chosen_in}
use Rattle.composer_top.proofs.Warned.{may_warn}
use Rattle.composer_start.proofs.Refused.{refused_ends}
use Rattle.composer_start.proofs.starting.start.Goals as goal

pub returns-in-Ok : goal.returns-in-Ok
returns-in-Ok g c =
    let ended = c.run.ensures.ended in
    record { ended = (ended.0, may_warn (chosen_in (map string_bytes c.as_slice.result.now)) (g.E.Sink.meaning c.args.errs.now) ended.0 ended.1, ended.2) }

pub returns-in-Err : goal.returns-in-Err
returns-in-Err g c = record { ended = (g.E.Sink.meaning c.args.errs.now, inl (inl (takes_nothing (g.E.Sink.meaning c.args.errs.now))), refused_ends _ _ _ c.in-Err.refusal c.refuse.result c.refuse.ensures) }
