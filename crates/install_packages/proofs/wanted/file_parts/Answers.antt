use Rattle.install_packages.proofs.WantedFiles.{parts_told}
use Rattle.install_packages.proofs.wanted.file_parts.Goals as goal

pub returns-clause-told : goal.returns-clause-told
returns-clause-told c = parts_told c.args.project.now c.args.tables.now c.args.chosen.now c.args.dev c.in_ok-files.files.items c.parts_of.result c.in_ok-files.ensures.files c.parts_of.ensures.told
