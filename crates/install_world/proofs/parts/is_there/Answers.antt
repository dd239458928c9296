use Rattle.install_world.proofs.WayMoves.{there_by_kind}
use Rattle.install_world.proofs.PartDone.{absent_is_none}
use Rattle.install_world.proofs.parts.is_there.Goals as goal

pub returns-in_default-clause-there : goal.returns-in_default-clause-there
returns-in_default-clause-there g c = λ is t told under.
    there_by_kind t c.args.at.now c.in_ok-stat.field-0 under (c.in_ok-stat.ensures.kind t told) c.in_default.not-Absent

pub returns-in-Absent-clause-absent : goal.returns-in-Absent-clause-absent
returns-in-Absent-clause-absent g c = λ is t told. absent_is_none t c.args.at.now c.in_ok-stat.field-0 (c.in_ok-stat.ensures.kind t told) c.in-Absent.is

pub returns-in_default-clause-absent : goal.returns-in_default-clause-absent
returns-in_default-clause-absent g c = λ is. absurd cc
