use Rattle.manifest_read.proofs.NameParts.{part_read, part_spelled, package_read, package_spelled, extension_read, extension_spelled}
use Rattle.manifest_read.proofs.laws.name_grammar.Goals as goal

pub returns-clause-parts : goal.returns-clause-parts
returns-clause-parts c double text = (part_read double text, part_spelled double text)

pub returns-clause-packages : goal.returns-clause-packages
returns-clause-packages c name = (package_read name, package_spelled name)

pub returns-clause-extensions : goal.returns-clause-extensions
returns-clause-extensions c name = (extension_read name, extension_spelled name)
