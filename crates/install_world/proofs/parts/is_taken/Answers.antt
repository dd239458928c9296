use Rattle.std.proofs.Common.{◌∙◌, ap, inl, inr}
use Rattle.std.proofs.lemmas.Result.{IfOk-weaker}
use Rattle.tree_dev.specs.Changes.{is_root}
use Rattle.tree_dev.specs.Device.{only_read_on}
use Rattle.install_world.proofs.WayMoves.{staged_under, there_by_kind}
use Rattle.install_world.proofs.PartCleared.{places_under}
use Rattle.install_world.proofs.PartDone.{absent_is_none}
use Rattle.install_world.proofs.RoomMade.{room_without_staged, room_without_target}
use Rattle.install_world.proofs.parts.is_taken.Goals as goal

pub returns-then-gone-clause-taken : goal.returns-then-gone-clause-taken
returns-then-gone-clause-taken g c = IfOk-weaker c.is_there.result _ _
    (λ taken there is t told project number target are. (there is t told (places_under project number target c.args.places.now are), inl c.if-gone.true))
    c.is_there.ensures.there

pub returns-in_default-clause-only_read : goal.returns-in_default-clause-only_read
returns-in_default-clause-only_read g c = only_read_on c.in_ok-stat.ensures.only_read c.is_there-in_default.ensures.only_read

pub returns-in_default-clause-taken : goal.returns-in_default-clause-taken
returns-in_default-clause-taken g c = IfOk-weaker c.is_there-in_default.result _ _
    (λ taken there is t told project number target are. (
      there is t (c.stat.ensures.only_read.told ∙ told) (places_under project number target c.args.places.now are),
      inr (there_by_kind t c.args.places.now.staged c.in_ok-stat.field-0 (ap is_root are.staged_is ∙ staged_under project number)
          (c.in_ok-stat.ensures.kind t told) c.in_default.not-Absent),
    ))
    c.is_there-in_default.ensures.there

pub returns-then-gone-clause-room : goal.returns-then-gone-clause-room
returns-then-gone-clause-room g c = IfOk-weaker c.is_there.result _ _
    (λ taken absent is t told. room_without_target c.args.gone c.args.places.now t (absent is t told))
    c.is_there.ensures.absent

pub returns-in-Absent-clause-room : goal.returns-in-Absent-clause-room
returns-in-Absent-clause-room g c = λ is t told.
    room_without_staged c.args.gone c.args.places.now t c.if-gone.false
    (absent_is_none t c.args.places.now.staged c.in_ok-stat.field-0 (c.in_ok-stat.ensures.kind t told) c.in-Absent.is)

pub returns-in_default-clause-room : goal.returns-in_default-clause-room
returns-in_default-clause-room g c = IfOk-weaker c.is_there-in_default.result _ _
    (λ taken absent is t told. room_without_target c.args.gone c.args.places.now t (absent is t (c.stat.ensures.only_read.told ∙ told)))
    c.is_there-in_default.ensures.absent
