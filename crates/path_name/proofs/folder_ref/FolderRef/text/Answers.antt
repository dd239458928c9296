use Rattle.std.proofs.Common.{◌≡◌, add-one, ap, ◌∙◌, ◌∷◌, [], rules}
use Rattle.path_name.specs.FolderRefs.{folder_of, folder_text}
use Rattle.path_name.proofs.FolderTexts.{concat_more, folder_of-folder_text}
use Rattle.path_name.proofs.folder_ref.FolderRef.text.Goals as goal

pub loop-preserved : goal.loop-preserved
loop-preserved c = rw (c.in_ok-extend_from_slice.ensures.items, c.loop.invariant, add-one) (concat_more c.loop.counter (46 ∷ 46 ∷ 47 ∷ []))

pub returns-clause-read_again : goal.returns-clause-read_again
returns-clause-read_again c =
    let text : c.of.result ≡ folder_text c.args.self.now = search rules in
    ap folder_of text ∙ folder_of-folder_text c.args.self.now c.text-path.ensures.segments
