use Rattle.std.proofs.Common.{◌≡◌, ◌<◌, ◌+◌, ◌++◌, ◌∷◌, [], ap, sym, subst, ◌∙◌, arith}
use Rattle.std.specs.Option.{option_to_list}
use Rattle.plan_solve.specs.Search.{IsSearched, IsPending, AreMembers, chosen, work}
use Rattle.plan_solve.proofs.Choices.{chosen_more}
use Rattle.plan_solve.proofs.Searching.{none_valid, back_searched, back_less, back_more, last_is_new}
use Rattle.plan_solve.proofs.search.Search.take_back.Goals as goal

pub returns-in_default-clause-none : goal.returns-in_default-clause-none
returns-in_default-clause-none c same = none_valid c.args.pool.now c.args.self.now.choices.items c.args.self.now.pending c.requires.searched.searched c.requires.all (omega (arith, c.in_default.ensures.cases.0))

pub returns-clause-searched : goal.returns-clause-searched
returns-clause-searched c true_so =
    let pool = c.args.pool.now in
    let pending = c.args.self.now.pending in
    let rest = c.pop.new.self.items in
    let last = c.in-Some.last in
    let longer = chosen rest ++ last.member ∷ [] in
    let old : c.args.self.now.choices.items ≡ rest ++ last ∷ [] = c.pop.ensures.items ∙ ap (λ end. rest ++ option_to_list end) c.in-Some.is in
    let searched = subst (λ list. IsSearched pool list pending) old c.requires.searched.searched in
    let members = subst (λ list. AreMembers pool list c.args.self.now.members) (ap chosen old ∙ chosen_more rest last) c.requires.searched.members in
    let passed = subst (IsPending pool longer) (sym c.replace-passed.ensures.value) (subst (λ list. IsPending pool list pending) (chosen_more rest last) searched.next) in
    let kept = c.keep.ensures longer passed.need members passed.there passed.alternatives in
    record {
      searched = subst (IsSearched pool rest) (sym (c.replace-passed.ensures.after ∙ c.pass.ensures)) (back_searched pool rest last pending searched c.requires.all);
      members = c.in_ok-take_back.ensures (chosen rest) (last_is_new pool rest last pending searched) kept;
    }

pub returns-clause-less : goal.returns-clause-less
returns-clause-less c true_so =
    let pool = c.args.pool.now in
    let pending = c.args.self.now.pending in
    let rest = c.pop.new.self.items in
    let last = c.in-Some.last in
    let old : c.args.self.now.choices.items ≡ rest ++ last ∷ [] = c.pop.ensures.items ∙ ap (λ end. rest ++ option_to_list end) c.in-Some.is in
    subst (λ next. work pool rest next < work pool c.args.self.now.choices.items pending) (sym (c.replace-passed.ensures.after ∙ c.pass.ensures))
    (subst (λ list. work pool rest (record { place = last.of.place; alternatives = last.of.alternatives; passed = last.of.passed + 1 }) < work pool list pending) (sym old)
    (back_less pool rest last pending))

pub pass-requires : goal.pass-requires
pass-requires c =
    let pool = c.args.pool.now in
    let rest = c.pop.new.self.items in
    let last = c.in-Some.last in
    let old : c.args.self.now.choices.items ≡ rest ++ last ∷ [] = c.pop.ensures.items ∙ ap (λ end. rest ++ option_to_list end) c.in-Some.is in
    back_more pool rest last c.args.self.now.pending (subst (λ list. IsSearched pool list c.args.self.now.pending) old c.requires.searched.searched)
