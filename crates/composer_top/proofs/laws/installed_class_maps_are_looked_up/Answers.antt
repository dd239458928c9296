use Rattle.autoload_build.specs.BuiltTables.{classes_of}
use Rattle.autoload_build.specs.Jobs.{rows}
use Rattle.install_packages.specs.Installations.{project_in, tables_in}
use Rattle.composer_top.proofs.AgreedLookups.{agreed, names_class}
use Rattle.composer_top.proofs.InstalledProjects.{tables_standing}
use Rattle.composer_top.proofs.laws.installed_class_maps_are_looked_up.Goals as goal

pub returns-clause-optimised : goal.returns-clause-optimised
returns-clause-optimised c = λ project ways start u new listed walked word name mode both are claimed tree is one.
    agreed project u (tables_in new.made) (tables_standing project ways start u new claimed) (rows (project_in new.made)) (classes_of listed) word name is
    (c.installed_optimised_tables.ensures.unambiguous project ways start u new listed walked name mode both are claimed tree one)

pub returns-clause-authoritative : goal.returns-clause-authoritative
returns-clause-authoritative c = λ project ways start u new listed walked word name mode both are claimed tree is one reach.
    agreed project u (tables_in new.made) (tables_standing project ways start u new claimed) (rows (project_in new.made)) (classes_of listed) word name is
    (c.installed_authoritative_tables.ensures.in_reach project ways start u new listed walked name mode both are claimed tree (names_class word name is) one reach)
