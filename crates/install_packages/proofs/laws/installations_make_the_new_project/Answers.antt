use Rattle.install_packages.proofs.NewProjects.{files_stand, new_project, nothing_else, others_stay, packages_stand}
use Rattle.install_packages.proofs.laws.installations_make_the_new_project.Goals as goal

pub returns-clause-result : goal.returns-clause-result
returns-clause-result c = new_project

pub returns-clause-packages : goal.returns-clause-packages
returns-clause-packages c = packages_stand

pub returns-clause-written : goal.returns-clause-written
returns-clause-written c = files_stand

pub returns-clause-nothing_else : goal.returns-clause-nothing_else
returns-clause-nothing_else c = nothing_else

pub returns-clause-others : goal.returns-clause-others
returns-clause-others c = others_stay
