use Rattle.psr_routes.proofs.Queues.{no_keys, first_is_next, first_waits}
use Rattle.psr_routes.proofs.queue.Queue.next.Goals as goal

pub returns-in-None-clause-next : goal.returns-in-None-clause-next
returns-in-None-clause-next c = first_is_next c.args.self.now c.first.result c.copied.result c.copied.ensures c.first.ensures.member c.first.ensures.least (no_keys c.args.self.now.ready.keys c.in-None.ensures.variant.1)

pub returns-in-None-clause-waits : goal.returns-in-None-clause-waits
returns-in-None-clause-waits c = first_waits c.args.needs.now c.args.self.now c.pop_first.new.self c.first.result c.copied.result c.requires c.in-None.ensures.unchanged c.copied.ensures c.first.ensures.member
