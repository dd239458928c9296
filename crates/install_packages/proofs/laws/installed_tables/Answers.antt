use Rattle.std.proofs.Common.{ap, ◌∙◌}
use Rattle.class_lookup.specs.Lookup.{lookup_in}
use Rattle.table_scan.specs.declared.types.Mode.{Mode}
use Rattle.autoload_build.specs.BuiltTables.{tables_of}
use Rattle.install_packages.specs.Installations.{project_in}
use Rattle.install_packages.proofs.InstalledTables.{tables_stand}
use Rattle.install_packages.proofs.StandingFiles.{tables_read}
use Rattle.install_packages.proofs.laws.installed_tables.Goals as goal

pub returns-clause-read : goal.returns-clause-read
returns-clause-read c = tables_read

pub returns-clause-stand : goal.returns-clause-stand
returns-clause-stand c = tables_stand

pub returns-clause-plain : goal.returns-clause-plain
returns-clause-plain c = λ t at chosen setting left after work made is_file name plain.
    ap (λ (mode : Mode). lookup_in (tables_of (project_in made) mode work.generation made.found) is_file name) plain
    ∙ c.plain_tables.ensures (project_in made) work.generation made.found is_file name
