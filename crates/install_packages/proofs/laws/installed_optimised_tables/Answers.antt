use Rattle.std.proofs.Common.{◌++◌, ◌∙◌, inr}
use Rattle.class_lookup.specs.Lookup.{has_file}
use Rattle.table_scan.specs.declared.types.Mode.TheVariants.{Optimised}
use Rattle.install_packages.specs.Installations.{project_in}
use Rattle.install_commands.specs.Claiming.{with_claim}
use Rattle.install_packages.proofs.OpenedClasses.{clear_there, opened, optimised_there, opens_in, walks_in}
use Rattle.install_packages.proofs.ShownTrees.{is_shown, shown}
use Rattle.install_packages.proofs.WalkedNames.{either_name, none_walked}
use Rattle.install_packages.proofs.laws.installed_optimised_tables.Goals as goal

pub returns-clause-parts : goal.returns-clause-parts
returns-clause-parts c = λ t at chosen setting left after work made mode.
    c.walks_of_rows_come_last.ensures.parts t (project_in made) left made.walked made.found (walks_in t at chosen setting left after work made Optimised mode) made.scans

pub returns-clause-unambiguous : goal.returns-clause-unambiguous
returns-clause-unambiguous c = λ at ways start u new listed walked name mode both are claimed tree one.
    let read = with_claim at start in
    let kept = is_shown at ways start u new claimed tree in
    either_name name
    (λ named.
    optimised_there at ways start u new listed walked name both named mode
    (c.optimised_tables.ensures.unambiguous (project_in new.made) new.work.generation new.choice.1 read (shown at read u) listed walked name are kept (clear_there at ways start u new listed walked name both named one)))
    (λ other.
    opened at ways start u new listed walked name both Optimised mode
    ∙ c.optimised_tables.ensures.others (project_in new.made) new.work.generation listed walked (has_file u) name
    (inr (none_walked (project_in new.made) read (shown at read u) new.choice.1 listed walked name are kept other)))

pub returns-clause-others : goal.returns-clause-others
returns-clause-others c = λ t at chosen setting left after work made listed walked is_file name mode both other.
    opens_in t at chosen setting left after work made Optimised (listed ++ walked) is_file name mode both
    ∙ c.optimised_tables.ensures.others (project_in made) work.generation listed walked is_file name other
