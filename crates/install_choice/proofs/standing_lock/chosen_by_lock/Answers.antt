use Rattle.std.proofs.Common.{◌≡◌, sym, subst}
use Rattle.std.proofs.lemmas.Result.{IfOk-weaker}
use Rattle.manifest_read.specs.WellFormed.{IsManifest}
use Rattle.manifest_read.specs.declared.types.Role.TheVariants.{Root}
use Rattle.install_choice.specs.Choosing.{standing_choice}
use Rattle.install_choice.specs.Planning.{IsChoice}
use Rattle.install_choice.proofs.PoolRoots.{pool_root}
use Rattle.install_choice.proofs.standing_lock.chosen_by_lock.Goals as goal

pub returns-in-Ok-clause-formed : goal.returns-in-Ok-clause-formed
returns-in-Ok-clause-formed c =
    IfOk-weaker c.chosen_in_pool.result (λ chosen. chosen ≡ standing_choice c.args.lock c.in-Ok.pool) IsChoice
    (λ chosen same. subst IsChoice (sym same) (record {
      lock = c.requires.lock;
      root = subst (IsManifest Root) (sym (pool_root c.args.root c.args.lock c.args.project.now c.in-Ok.pool c.in-Ok.ensures.told)) c.requires.root;
    })) c.chosen_in_pool.ensures.value
