use Rattle.std.proofs.Common.{refl, sym, ◌∙◌}
use Rattle.table_scan.specs.declared.types.Mode.TheVariants.{Authoritative}
use Rattle.install_packages.specs.Installations.{project_in}
use Rattle.install_commands.specs.Claiming.{with_claim}
use Rattle.install_packages.proofs.OpenedClasses.{authoritative_there, clear_there, opens_in, read_manifests, scan_there, walks_in}
use Rattle.install_packages.proofs.ShownTrees.{is_shown, shown}
use Rattle.install_packages.proofs.laws.installed_authoritative_tables.Goals as goal

pub returns-clause-parts : goal.returns-clause-parts
returns-clause-parts c = λ t at chosen setting left after work made mode.
    c.walks_of_rows_come_last.ensures.parts t (project_in made) left made.walked made.found
    (sym (c.walks_of_rows_come_last.ensures.same t (project_in made) left) ∙ walks_in t at chosen setting left after work made Authoritative mode) made.scans

pub returns-clause-mapped : goal.returns-clause-mapped
returns-clause-mapped c = λ t at chosen setting left after work made is_file name mode.
    opens_in t at chosen setting left after work made Authoritative made.found is_file name mode refl
    ∙ c.authoritative_tables.ensures.mapped (project_in made) work.generation made.found is_file name

pub returns-clause-in_reach : goal.returns-clause-in_reach
returns-clause-in_reach c = λ at ways start u new listed walked name mode both are claimed tree named one reach.
    authoritative_there at ways start u new listed walked name both named mode
    (c.authoritative_tables.ensures.in_reach (project_in new.made) new.work.generation new.choice.1 (with_claim at start) (shown at (with_claim at start) u) listed walked name claimed
    (read_manifests at ways start u new) are (is_shown at ways start u new claimed tree) named (clear_there at ways start u new listed walked name both named one)
    (scan_there at ways start u new listed walked name both named reach))
