use Rattle.std.proofs.Common.{◌≡◌, sym, subst}
use Rattle.std.proofs.lemmas.Result.{IfOk-weaker}
use Rattle.autoload_build.specs.Jobs.{HasReadManifests}
use Rattle.dump_command.specs.Standing.{project_of, standing_of}
use Rattle.dump_command.specs.declared.standing.Standing.{Standing}
use Rattle.dump_command.proofs.FormedStanding.{formed_standing}
use Rattle.dump_command.proofs.standing.standing_of.Goals as goal

pub returns-clause-formed : goal.returns-clause-formed
returns-clause-formed c =
    IfOk-weaker c.read_standing.result (λ s. s ≡ standing_of c.args.project.now c.args.ways.now c.args.stands c.args.root c.args.installed) (λ s. HasReadManifests (project_of c.args.project.now s))
    (λ s is. subst (λ (one : Standing). HasReadManifests (project_of c.args.project.now one)) (sym is)
    (formed_standing c.args.project.now c.args.ways.now c.args.stands c.args.root c.args.installed c.requires.root c.requires.installed)) c.read_standing.ensures
