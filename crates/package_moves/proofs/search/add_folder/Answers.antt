use Rattle.std.proofs.Common.{◌++◌, [], ◌∷◌, List, sym, ap, ◌∙◌, append-nil}
use Rattle.stage_job.specs.declared.job.Part.{Part}
use Rattle.package_moves.proofs.Gathering.{folder_added, nothing_added, untaken_more}
use Rattle.package_moves.proofs.search.add_folder.Goals as goal

pub returns-in_ok-push-in-Some : goal.returns-in_ok-push-in-Some
returns-in_ok-push-in-Some c = λ blocked wanted earlier is there untaken. (
  c.in_ok-push-in-Some.ensures.items
      ∙ ap (λ (xs : List Part). c.args.parts.now.items ++ xs) (ap (λ (p : Part). p ∷ []) c.part_of_folder.ensures ∙ folder_added wanted earlier c.args.folder c.in-Some.inner _ (sym c.in-Some.ensures.group) (untaken.each c.args.folder is)),
  (λ part parent. untaken_more blocked wanted earlier part c.args.folder c.args.folders.now c.take.new.self parent c.take.ensures.gone c.take.ensures.others untaken),
)

pub returns-in-None : goal.returns-in-None
returns-in-None c = λ blocked wanted earlier is there untaken. (
  sym (append-nil c.args.parts.now.items)
      ∙ ap (λ (xs : List Part). c.args.parts.now.items ++ xs) (nothing_added wanted earlier c.args.folder _ (sym c.in-None.ensures.group) there (untaken.each c.args.folder is)),
  (λ part parent. untaken_more blocked wanted earlier part c.args.folder c.args.folders.now c.take.new.self parent c.take.ensures.gone c.take.ensures.others untaken),
)
