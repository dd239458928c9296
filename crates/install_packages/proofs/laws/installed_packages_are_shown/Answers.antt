use Rattle.install_packages.proofs.ShownPackages.{packages_shown}
use Rattle.install_packages.proofs.laws.installed_packages_are_shown.Goals as goal

pub returns : goal.returns
returns c = λ t u at chosen setting left after work made. packages_shown t at chosen setting left after work made u
