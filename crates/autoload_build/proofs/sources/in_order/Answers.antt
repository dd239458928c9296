use Rattle.std.proofs.Common.{map, ap, ◌∙◌, ◌++◌, ◌∷◌, [], arith}
use Rattle.std.proofs.lemmas.List.{map-append}
use Rattle.psr_routes.proofs.SourceRules.{in_order}
use Rattle.autoload_build.specs.Steps.{source_of}
use Rattle.autoload_build.proofs.PackageRules.{all_taken, one_more}
use Rattle.autoload_build.proofs.sources.in_order.Goals as goal

pub bounds-members-place : goal.bounds-members-place
bounds-members-place c = (in_order c.args.members.now c.args.order.now c.loop-place.place-index c.requires c.loop-place-test.true).within

pub loop-place-preserved : goal.loop-place-preserved
loop-place-preserved c =
    one_more c.args.members.now c.args.order.now c.loop-place.place-index c.index-members-place.result _ _ c.requires c.loop-place-test.true c.index-members-place.is
    (ap (map source_of) c.in_ok-push.ensures.items ∙ map-append source_of c.loop-place.sources.items _ ∙ ap (λ one. map source_of c.loop-place.sources.items ++ one ∷ []) c.of.ensures) c.loop-place.invariant

pub returns : goal.returns
returns c = all_taken c.args.members.now c.args.order.now c.loop-place.place-index _ c.requires (omega arith) c.loop-place.invariant
