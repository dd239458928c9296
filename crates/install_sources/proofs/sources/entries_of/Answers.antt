use Rattle.std.proofs.Common.{ap, ◌∙◌, ◌++◌, map, subst}
use Rattle.lock_file.specs.InstalledText.{IsByName}
use Rattle.lock_file.proofs.Views.{shown}
use Rattle.install_sources.proofs.sources.entries_of.Goals as goal

pub returns : goal.returns
returns c =
    let first = c.in_ok-add_entries.ensures ∙ ap (λ some. map shown some ++ c.as_slice.result.now) c.new-entries.ensures.items ∙ c.as_slice.ensures in
    let all = c.in_ok-add_entries-2.ensures ∙ ap (λ some. some ++ c.installed_dev.result.now) first ∙ ap (λ some. c.args.lock.now.packages ++ some) c.installed_dev.ensures in
    subst (λ some. IsByName some (map shown c.sort_by_name.new.entries.items)) all c.in_ok-sort_by_name.ensures
