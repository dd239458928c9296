use Rattle.std.proofs.lemmas.Iterator.Adapters.{YieldsList-from_vec}
use Rattle.std.proofs.lemmas.Iterator.Consumers.{YieldsList-turn}
use Rattle.table_files.proofs.NamedItems.{named_item}
use Rattle.table_files.proofs.members.members_in_place.Goals as goal

pub in_place-requires : goal.in_place-requires
in_place-requires c =
    let gives = YieldsList-from_vec {s = c.into_iter-party-iterator.result} c.args.packages (cc) (cc) in
    let turn = YieldsList-turn gives c.loop-party.yielded _ c.loop-party.yielded_by _ c.next.new.self c.in-Some.party c.in-Some.is c.next.ensures.steps in
    named_item c.args.packages _ c.in-Some.party c.requires turn
