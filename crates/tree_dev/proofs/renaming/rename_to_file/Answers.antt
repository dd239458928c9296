use Rattle.std.proofs.Common.{◌≡◌, ◌∙◌, ap, sym, Some}
use Rattle.std.specs.FinMap as map
use Rattle.tree_dev.specs.Stored.{entry_of}
use Rattle.tree_dev.proofs.RenameToFile.{renamed_file}
use Rattle.tree_dev.proofs.renaming.rename_to_file.Goals as goal

pub returns-in_ok-insert-clause-ok : goal.returns-in_ok-insert-clause-ok
returns-in_ok-insert-clause-ok c =
    let there : map.get c.args.files.now c.args.from.now ≡ Some (entry_of c.in_ok-entry.entry) = sym c.in-Some.ensures ∙ ap (λ s. Some (entry_of s)) (sym c.in_ok-entry.ensures) in
    c.remove.ensures
    ∙ ap (λ t. map.remove t c.args.from.now) (c.in_ok-insert.ensures.ok ∙ ap (λ p. map.insert c.args.files.now p (entry_of c.in_ok-entry.entry)) c.in_ok-copy.ensures)
    ∙ renamed_file c.args.files.now c.args.from.now c.args.to.now (entry_of c.in_ok-entry.entry) c.requires.tree c.requires.from_below c.requires.below c.requires.from c.requires.to there c.requires.apart c.requires.apart_back
