use Rattle.std.proofs.Common.{◌++◌, ap, ◌∙◌}
use Rattle.std.proofs.lemmas.Result.{err_from_is_err_and}
use Rattle.install_packages.proofs.WantedFiles.{all_parts, all_wanted, wanted_refused, wanted_told}
use Rattle.install_packages.proofs.WantedParts.{all_named}
use Rattle.install_packages.proofs.wanted.wanted_parts.Goals as goal

pub copy_parts-requires : goal.copy_parts-requires
copy_parts-requires c = all_named c.args.project.now c.args.members.now c.requires.sources.each

pub returns-in_err-files-clause-told : goal.returns-in_err-files-clause-told
returns-in_err-files-clause-told c =
    let failed = err_from_is_err_and c.from_residual.result c.from_residual.ensures.1 in
    rw (failed.1, failed.2) (wanted_refused c.args.project.now c.args.tables.now c.args.chosen.now c.args.dev c.args.members.now c.in_err-files.field-0.0 c.in_err-files.ensures.told)

pub returns-clause-told : goal.returns-clause-told
returns-clause-told c =
    let is = c.in_ok-append.ensures.items ∙ ap (λ parts. parts ++ c.in_ok-files.files.items) c.in_ok-parts.ensures in
    wanted_told c.args.project.now c.args.tables.now c.args.chosen.now c.args.dev c.args.members.now c.in_ok-files.files.items c.append.new.self.items c.in_ok-files.ensures.told is (record {
      are_wanted = all_wanted c.args.project.now c.args.tables.now c.args.chosen.now c.args.dev c.args.members.now c.in_ok-files.files.items c.append.new.self.items c.requires.sources c.in_ok-files.ensures.told is;
      are_parts = all_parts c.args.project.now c.args.tables.now c.args.chosen.now c.args.dev c.args.members.now c.in_ok-files.files.items c.append.new.self.items c.requires.sources c.in_ok-files.ensures.told is;
    })

pub returns-clause-wanted : goal.returns-clause-wanted
returns-clause-wanted c =
    all_wanted c.args.project.now c.args.tables.now c.args.chosen.now c.args.dev c.args.members.now c.in_ok-files.files.items c.append.new.self.items c.requires.sources c.in_ok-files.ensures.told
    (c.in_ok-append.ensures.items ∙ ap (λ parts. parts ++ c.in_ok-files.files.items) c.in_ok-parts.ensures)

pub returns-clause-parts : goal.returns-clause-parts
returns-clause-parts c =
    all_parts c.args.project.now c.args.tables.now c.args.chosen.now c.args.dev c.args.members.now c.in_ok-files.files.items c.append.new.self.items c.requires.sources c.in_ok-files.ensures.told
    (c.in_ok-append.ensures.items ∙ ap (λ parts. parts ++ c.in_ok-files.files.items) c.in_ok-parts.ensures)
