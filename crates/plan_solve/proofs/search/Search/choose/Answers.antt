use Rattle.std.proofs.Common.{◌≡◌, ◌≤◌, ◌++◌, ◌∷◌, [], length, None, sym, subst}
use Rattle.plan_rules.specs.FirstChoice.{first_unmet}
use Rattle.plan_solve.specs.Search.{AreMembers, IsPending, chosen}
use Rattle.plan_solve.proofs.Choices.{chosen_more}
use Rattle.plan_solve.proofs.Queue.{none_waits_more}
use Rattle.plan_solve.proofs.Searching.{choose_searched, choose_less, last_choice, when_none, when_some}
use Rattle.plan_solve.proofs.search.Search.choose.Goals as goal

pub returns-in_default-clause-done : goal.returns-in_default-clause-done
returns-in_default-clause-done c false_so =
    let pool = c.args.context.now.pool.now in
    let choices = c.args.self.now.choices.items in
    let pending = c.args.self.now.pending in
    let known = c.requires.searched.searched in
    let longer = chosen choices ++ c.args.member ∷ [] in
    let members = c.in_ok-put.ensures (chosen choices) c.requires.searched.members in
    let none = none_waits_more pool (chosen choices) c.args.member pending.place known.next.need known.next.there known.next.earlier in
    last_choice pool choices pending c.args.member known c.requires.found c.requires.sound
    (when_none (λ next. IsPending pool longer next × (length next.alternatives.items ≤ length pool.candidates)) c.in_ok-next.next c.in_default.is (c.in_ok-next.ensures.next longer members none))

pub returns : goal.returns
returns c =
    let pool = c.args.context.now.pool.now in
    let choices = c.args.self.now.choices.items in
    let pending = c.args.self.now.pending in
    let member = c.args.member in
    let known = c.requires.searched.searched in
    let longer = chosen choices ++ member ∷ [] in
    let members = c.in_ok-put.ensures (chosen choices) c.requires.searched.members in
    let none = none_waits_more pool (chosen choices) member pending.place known.next.need known.next.there known.next.earlier in
    let next = when_some (first_unmet pool longer ≡ None) (λ it. IsPending pool longer it × (length it.alternatives.items ≤ length pool.candidates)) c.in_ok-next.next c.in-Some.next c.in-Some.is (c.in_ok-next.ensures.next longer members none) in
    record {
      searched = λ true_so. record {
        searched = rw (c.in_ok-push.ensures.items, c.replace-of.ensures.value, c.replace-of.ensures.after) (choose_searched pool choices pending c.in-Some.next member known c.requires.found c.requires.sound next.0);
        members = rw (c.in_ok-push.ensures.items, c.replace-of.ensures.value)
            (subst (λ list. AreMembers pool list c.pending.new.self) (sym (chosen_more choices (record { of = pending; member = member }))) (c.in_ok-next.ensures.members longer members));
      };
      less = λ true_so. rw (c.in_ok-push.ensures.items, c.replace-of.ensures.value, c.replace-of.ensures.after) (choose_less pool choices pending c.in-Some.next member known c.requires.found next.1);
      done = λ e. absurd cc;
    }
