use Rattle.install_packages.proofs.FewWrites.{few_written}
use Rattle.install_packages.proofs.laws.installations_write_few_files.Goals as goal

pub returns : goal.returns
returns c = few_written
