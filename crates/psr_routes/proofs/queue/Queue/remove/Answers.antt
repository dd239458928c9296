use Rattle.std.proofs.Common.{◌≡◌, ℕ, ◌-◌, ◌≤◌, ◌<◌, length, get_or, set, refl, sym, ap, subst, ◌∙◌, [], arith}
use Rattle.std.specs.Vec.{with_item}
use Rattle.std.proofs.lemmas.List.{length-set}
use Rattle.psr_routes.specs.Numbers.{list_at}
use Rattle.psr_routes.proofs.Queues.{at_zero, item_at, number_is, number_long, list_long, borne_here, takes_it, removed_is, same_unseen, taken_few, taken_last}
use Rattle.psr_routes.proofs.queue.Queue.remove.Goals as goal

pub overflow_sub-index_mut : goal.overflow_sub-index_mut
overflow_sub-index_mut c =
    let needs = c.args.needs.now in
    let queue = c.args.self.now in
    let long = number_long needs queue c.args.number c.args.place _ c.requires.waits c.requires.within in
    omega (arith, borne_here needs queue c.args.number c.args.place _ c.requires.waits c.requires.within, at_zero queue.bearers.items c.args.number c.index_mut.result.now long c.index_mut.ensures.value)

pub returns-then-index-le1-clause-waits : goal.returns-then-index-le1-clause-waits
returns-then-index-le1-clause-waits c =
    let needs = c.args.needs.now in
    let queue = c.args.self.now in
    let number = c.args.number in
    let bearers = with_item queue.bearers number (c.index_mut.result.now - 1) in
    let parked = with_item queue.parked number c.replace.new.dest in
    let named = number_is needs queue number c.args.place _ c.requires.waits c.requires.within in
    let long = number_long needs queue number c.args.place _ c.requires.waits c.requires.within in
    let listed = list_long needs queue number c.args.place _ c.requires.waits c.requires.within in
    let lowered = ap (λ x. set queue.bearers.items number (x - 1)) (at_zero queue.bearers.items number c.index_mut.result.now long c.index_mut.ensures.value) in
    let takes = takes_it needs queue number c.args.place _ c.requires.waits c.requires.within refl c.remove.new.self bearers c.requires.apart c.remove.ensures.updates.0 c.remove.ensures.ordered c.remove.ensures.keys lowered in
    let old = c.index_mut-then-index-le1.result.now in
    let was : c.replace.result.items ≡ list_at queue.parked.items number = ap (λ v. v.items) c.replace.ensures.value ∙ sym (item_at queue.parked.items number old listed c.index_mut-then-index-le1.ensures.value) in
    taken_last needs queue c.args.place c.remove.new.self bearers takes parked c.replace.result c.replace.new.dest
    (ap (λ n. set queue.parked.items n c.replace.new.dest) named) (ap (λ v. v.items) c.replace.ensures.after ∙ c.new.ensures.items) (was ∙ ap (list_at queue.parked.items) named)

pub returns-then-index-le1-clause-removed : goal.returns-then-index-le1-clause-removed
returns-then-index-le1-clause-removed c = removed_is c.args.needs.now c.args.self.now c.args.number c.args.place _ c.requires.waits c.requires.within c.remove.new.self c.remove.ensures.updates.0

pub returns-else-index-le1-clause-waits : goal.returns-else-index-le1-clause-waits
returns-else-index-le1-clause-waits c =
    let needs = c.args.needs.now in
    let queue = c.args.self.now in
    let number = c.args.number in
    let bearers = with_item queue.bearers number (c.index_mut.result.now - 1) in
    let named = number_is needs queue number c.args.place _ c.requires.waits c.requires.within in
    let long = number_long needs queue number c.args.place _ c.requires.waits c.requires.within in
    let lowered = ap (λ x. set queue.bearers.items number (x - 1)) (at_zero queue.bearers.items number c.index_mut.result.now long c.index_mut.ensures.value) in
    let takes = takes_it needs queue number c.args.place _ c.requires.waits c.requires.within refl c.remove.new.self bearers c.requires.apart c.remove.ensures.updates.0 c.remove.ensures.ordered c.remove.ensures.keys lowered in
    let long_now : number < length bearers.items = omega (arith, long, length-set {A = ℕ}) in
    let now : c.index.result.now ≡ get_or bearers.items number 0 = at_zero bearers.items number c.index.result.now long_now c.index.ensures in
    let many : 2 ≤ get_or bearers.items number 0 = omega (arith, now, c.if-index-le1.false) in
    same_unseen needs _ [] queue.unseen.items (sym c.requires.unseen)
    (taken_few needs queue c.args.place c.remove.new.self bearers takes (subst (λ n. 2 ≤ get_or bearers.items n 0) named many))

pub returns-else-index-le1-clause-removed : goal.returns-else-index-le1-clause-removed
returns-else-index-le1-clause-removed c = removed_is c.args.needs.now c.args.self.now c.args.number c.args.place _ c.requires.waits c.requires.within c.remove.new.self c.remove.ensures.updates.0
