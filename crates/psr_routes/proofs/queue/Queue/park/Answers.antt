use Rattle.std.proofs.Common.{◌≡◌, ℕ, ◌<◌, ◌++◌, ◌∷◌, [], List, length, get_or, set, refl, sym, ap, subst, ◌∙◌, arith}
use Rattle.std.specs.Vec.{with_item}
use Rattle.psr_routes.specs.Numbers.{list_at}
use Rattle.psr_routes.specs.Waiting.{required_at}
use Rattle.psr_routes.proofs.Queues.{at_zero, item_at, looked_waits, parks}
use Rattle.psr_routes.proofs.queue.Queue.park.Goals as goal

pub returns-clause-waits : goal.returns-clause-waits
returns-clause-waits c =
    let needs = c.args.needs.now in
    let queue = c.args.self.now in
    let place = c.args.place in
    let at = c.args.at in
    let name = c.index-name.result.now in
    let passed = with_item queue.passed place at in
    let parked = with_item queue.parked name c.push.new.self in
    let listed : required_at needs place ≡ c.index.result.now.items = item_at needs.required.items place c.index.result.now (omega (arith, c.requires.passes.within, c.requires.waits.fits.lists)) c.index.ensures in
    let within : at < length c.index.result.now.items = subst (λ (list : List ℕ). at < length list) listed c.requires.awaits.0 in
    let named : name ≡ get_or (required_at needs place) at 0 = at_zero c.index.result.now.items at name within c.index-name.ensures ∙ ap (λ (list : List ℕ). get_or list at 0) (sym listed) in
    let long : name < length queue.parked.items = omega (arith, named, c.requires.waits.fits.required place at c.requires.passes.within c.requires.awaits.0, c.requires.waits.keeps.long.parked) in
    let pushed : c.push.new.self.items ≡ list_at queue.parked.items name ++ place ∷ [] =
    c.in_ok-push.ensures.items ∙ ap (λ (list : List ℕ). list ++ place ∷ []) (sym (item_at queue.parked.items name c.index_mut-2.result.now long c.index_mut-2.ensures.value)) in
    looked_waits needs queue place at queue.ready passed parked queue.unseen.items c.requires.waits c.requires.passes
    (parks needs queue place at passed parked c.push.new.self c.requires.waits.keeps c.requires.waits.fits c.requires.passes refl c.requires.awaits.0 c.requires.awaits.1
    (ap (λ n. set queue.parked.items n c.push.new.self) named) (pushed ∙ ap (λ n. list_at queue.parked.items n ++ place ∷ []) named))
