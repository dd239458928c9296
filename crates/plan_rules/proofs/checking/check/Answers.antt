use Rattle.std.proofs.Common.{◌≡◌, ◌∙◌, ap, sym, map, length, ℕ, List, [], ◌∷◌, refl, Bor}
use Rattle.std.specs.Option.{option_or, option_map_or}
use Rattle.pkg_pool.specs.declared.pool.Candidate.{Candidate}
use Rattle.pkg_pool.specs.declared.pool.Pool.{Pool}
use Rattle.plan_rules.specs.declared.rule.Verdict.TheVariants as verdicts
use Rattle.plan_rules.specs.Sets.{set_of}
use Rattle.plan_rules.specs.Validity.{members, by_name, chosen, first_broken}
use Rattle.plan_rules.specs.Breaking.{allowed_rule, packages_rule}
use Rattle.plan_rules.proofs.Breaking.{first_broken_is}
use Rattle.plan_rules.proofs.checking.check.Goals as goal

packages_shown : (list : List (Bor Candidate)) → map (λ member. member.now.«package») list ≡ map (λ member. member.«package») (map (λ member. member.now) list)
packages_shown [] = refl
packages_shown (member ∷ list) = ap (λ others. member.now.«package» ∷ others) (packages_shown list)

-- what is found of the members is the first broken rule of the set
found : (pool : Pool) (numbers : List ℕ) (list : List (Bor Candidate)) → map (λ member. member.now) list ≡ by_name [] (chosen (set_of (length pool.candidates) numbers) pool.candidates)
    → option_or (allowed_rule pool.root (map (λ member. member.now) list)) (packages_rule pool.root (map (λ member. member.now.«package») list)) ≡ first_broken pool (set_of (length pool.candidates) numbers)
unfolding members
found pool numbers list e =
    ap (λ packages. option_or (allowed_rule pool.root (map (λ member. member.now) list)) (packages_rule pool.root packages)) (packages_shown list)
    ∙ ap (λ some. option_or (allowed_rule pool.root some) (packages_rule pool.root (map (λ member. member.«package») some))) e
    ∙ first_broken_is pool (set_of (length pool.candidates) numbers)

pub returns-in-None : goal.returns-in-None
returns-in-None c =
    let pool = c.args.pool.now in
    let numbers = c.args.selection.now.members in
    ap (λ rule. option_map_or verdicts.Breaks rule verdicts.Meets) (sym c.in-None.is ∙ c.in_ok-first_broken.ensures ∙ found pool numbers c.as_slice-3.result.now
    (ap (map (λ member. member.now)) c.as_slice-3.ensures.value ∙ c.in_ok-members.ensures ∙ ap (λ candidates. by_name [] (chosen (set_of (length candidates) c.as_slice-2.result.now) candidates)) c.as_slice.ensures
    ∙ ap (λ some. by_name [] (chosen (set_of (length pool.candidates) some) pool.candidates)) c.as_slice-2.ensures))

pub returns : goal.returns
returns c =
    let pool = c.args.pool.now in
    let numbers = c.args.selection.now.members in
    ap (λ rule. option_map_or verdicts.Breaks rule verdicts.Meets) (sym c.in-Some.is ∙ c.in_ok-first_broken.ensures ∙ found pool numbers c.as_slice-3.result.now
    (ap (map (λ member. member.now)) c.as_slice-3.ensures.value ∙ c.in_ok-members.ensures ∙ ap (λ candidates. by_name [] (chosen (set_of (length candidates) c.as_slice-2.result.now) candidates)) c.as_slice.ensures
    ∙ ap (λ some. by_name [] (chosen (set_of (length pool.candidates) some) pool.candidates)) c.as_slice-2.ensures))
