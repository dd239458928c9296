use Rattle.std.proofs.Common.{◌∷◌, [], ◌++◌, ap, ◌∙◌}
use Rattle.path_name.specs.Decimals.{decimal_text}
use Rattle.install_world.proofs.TargetLines.{head_written}
use Rattle.install_world.proofs.writing.push_head.Goals as goal

pub returns : goal.returns
returns c =
    c.in_ok-push.ensures.items
    ∙ ap (λ text. text ++ 10 ∷ [])
    (c.in_ok-push_number.ensures.added ∙ ap (λ text. text ++ decimal_text c.args.generation) c.in_ok-extend_from_slice.ensures.items)
    ∙ head_written c.args.text.now.items (decimal_text c.args.generation)
