use Rattle.std.proofs.Common.{List, ℕ, ◌++◌, map, take, sym, ap, subst, ◌∙◌}
use Rattle.std.specs.List.{concat}
use Rattle.std.specs.Hash.DefaultHasher.{initial, write}
use Rattle.std.proofs.lemmas.List.{take_all}
use Rattle.sha2.specs.Hashers.{Holds256}
use Rattle.sha2.specs.Sha256.{sha256}
use Rattle.json_ordered.specs.JsonNames.{names_of}
use Rattle.json_ordered.specs.Docs.{pair_of}
use Rattle.json_ordered.proofs.Joined.{names_more}
use Rattle.json_ordered.proofs.seed.Seeded.by_names.Goals as goal

pub loop-member-preserved : goal.loop-member-preserved
loop-member-preserved c = subst (λ (t : List ℕ). Holds256 c.update.new.self t)
    (ap (λ (t : List ℕ). concat (names_of (map pair_of (take c.loop-member.member-index c.args.members.now))) ++ t) c.as_slice.ensures ∙ sym (names_more c.args.members.now c.loop-member.member-index c.member-item.result c.loop-member-test.true c.member-item.is))
    (c.update.ensures (concat (names_of (map pair_of (take c.loop-member.member-index c.args.members.now)))) c.loop-member.invariant)

pub returns : goal.returns
returns c = c.write.ensures ∙ ap (λ s. write s c.as_slice-2.result.now) c.new-start.ensures
    ∙ ap (write initial) (c.as_slice-2.ensures ∙ c.finalize-digest.ensures (concat (names_of (map pair_of (take c.loop-member.member-index c.args.members.now)))) c.loop-member.invariant
    ∙ ap (λ ms. sha256 (concat (names_of (map pair_of ms)))) (take_all c.loop-member.member-index c.args.members.now c.loop-member-test.false))
