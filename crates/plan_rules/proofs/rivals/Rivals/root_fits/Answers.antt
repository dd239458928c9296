use Rattle.std.proofs.Common.{◌∙◌, sym}
use Rattle.plan_rules.proofs.RootAlone.{root_fits, root_breaks}
use Rattle.plan_rules.proofs.rivals.Rivals.root_fits.Goals as goal

pub returns : goal.returns
returns c = record {
  yes = λ pool known e. root_fits pool (sym known.root_alone ∙ e);
  no = λ pool known e none. root_breaks pool (sym known.root_alone ∙ e) none;
}
