use Rattle.std.proofs.Common.{◌∙◌}
use Rattle.std.proofs.lemmas.Result.{IfOk-weaker}
use Rattle.tree_dev.specs.Device.{only_read_on}
use Rattle.install_world.proofs.PartDone.{absent_is_none}
use Rattle.install_world.proofs.RoomMade.{kept_found, room_without_kept}
use Rattle.install_world.proofs.WayMoves.{there_by_kind}
use Rattle.install_world.proofs.parts.kept_in_the_way.Goals as goal

pub returns-in-Absent-clause-found : goal.returns-in-Absent-clause-found
returns-in-Absent-clause-found g c = λ t told under.
    room_without_kept c.args.gone c.args.places.now t
    (absent_is_none t c.args.places.now.kept c.in_ok-kind.kind (c.in_ok-kind.ensures.kind t told) c.in-Absent.is)

pub returns-in_default-clause-only_read : goal.returns-in_default-clause-only_read
returns-in_default-clause-only_read g c = only_read_on c.in_ok-kind.ensures.only_read c.kept_if_taken.ensures.only_read

pub returns-in_default-clause-taken : goal.returns-in_default-clause-taken
returns-in_default-clause-taken g c = IfOk-weaker c.kept_if_taken.result _ _
    (λ found taken some t told project number target are. taken some t (c.stat.ensures.only_read.told ∙ told) project number target are)
    c.kept_if_taken.ensures.taken

pub returns-in_default-clause-found : goal.returns-in_default-clause-found
returns-in_default-clause-found g c = IfOk-weaker c.kept_if_taken.result _ _
    (λ found shown t told under.
    kept_found c.args.gone c.args.places.now t c.in_ok-kind.kind found
    (there_by_kind t c.args.places.now.kept c.in_ok-kind.kind under (c.in_ok-kind.ensures.kind t told) c.in_default.not-Absent)
    (c.in_ok-kind.ensures.kind t told) (shown t (c.stat.ensures.only_read.told ∙ told)))
    c.kept_if_taken.ensures.found
