use Rattle.std.proofs.Common.{List, ℕ, ◌++◌, ◌∷◌, [], map, take, sym, ap, ◌∙◌}
use Rattle.std.proofs.lemmas.List.{take_all}
use Rattle.json_ordered.specs.JsonNames.{names_of}
use Rattle.json_ordered.specs.JsonSeeds.{number_of}
use Rattle.json_ordered.specs.Docs.{pair_of}
use Rattle.json_ordered.proofs.Joined.{numbers_more}
use Rattle.json_ordered.proofs.members.numbers_of.Goals as goal

pub loop-member-preserved : goal.loop-member-preserved
loop-member-preserved c =
    c.in_ok-push.ensures.items ∙ ap (λ (ns : List ℕ). ns ++ c.number_of.result ∷ []) c.loop-member.invariant
    ∙ ap (λ (n : ℕ). map number_of (names_of (map pair_of (take c.loop-member.member-index c.args.members.now))) ++ n ∷ []) (c.number_of.ensures ∙ ap number_of c.as_slice.ensures)
    ∙ sym (numbers_more number_of c.args.members.now c.loop-member.member-index c.member-item.result c.loop-member-test.true c.member-item.is)

pub returns : goal.returns
returns c = c.loop-member.invariant ∙ ap (λ ms. map number_of (names_of (map pair_of ms))) (take_all c.loop-member.member-index c.args.members.now c.loop-member-test.false)
