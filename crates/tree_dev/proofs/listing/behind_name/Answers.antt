use Rattle.std.proofs.Common.{◌∙◌, ◌++◌, ◌∷◌, [], ap}
use Rattle.path_name.specs.Paths.{is_segment}
use Rattle.tree_dev.proofs.NextNames.{bound_is_segment}
use Rattle.tree_dev.proofs.listing.behind_name.Goals as goal

pub child-requires : goal.child-requires
child-requires c =
    ap is_segment (c.as_slice.ensures.value ∙ c.in_ok-push.ensures.items ∙ ap (λ l. l ++ 1 ∷ []) (c.in_ok-extend_from_slice.ensures.items ∙ ap (λ l. l ++ c.args.last.now) c.in_ok-name.ensures.items))
    ∙ bound_is_segment c.args.last.now c.requires
