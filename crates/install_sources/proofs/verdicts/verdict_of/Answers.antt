use Rattle.std.proofs.Common.{◌≡◌, ◌∙◌, length, ap, subst}
use Rattle.std.specs.Prelude.{IfOk}
use Rattle.std.specs.List.{range_with_len}
use Rattle.plan_rules.specs.Sets.{set_of}
use Rattle.plan_rules.specs.Validity.{verdict_of}
use Rattle.install_sources.proofs.WholeSets.{whole_set}
use Rattle.install_sources.proofs.verdicts.verdict_of.Goals as goal

pub returns : goal.returns
returns c =
    let all = c.of-members.ensures ∙ c.in_ok-first_numbers.ensures ∙ ap (λ candidates. range_with_len 0 (length candidates)) c.as_slice.ensures in
    subst (λ set. IfOk c.check.result (λ verdict. verdict ≡ verdict_of c.args.pool.now set))
    (ap (λ members. set_of (length c.args.pool.now.candidates) members) all ∙ whole_set c.args.pool.now.candidates) c.check.ensures
