use Rattle.std.proofs.Common.{ap, sym, ◌∙◌, ◌+◌, map, drop, refl}
use Rattle.std.specs.Option.{option_map}
use Rattle.std.specs.BTreeMap.{get}
use Rattle.path_name.specs.Bytes.{lowered}
use Rattle.path_name.specs.Orders.{byte_cmp}
use Rattle.json_ordered.specs.Docs.{pair_of}
use Rattle.manifest_read.specs.Links.{last_named}
use Rattle.manifest_read.proofs.Gathering.{left_at}
use Rattle.manifest_read.proofs.Keeping.{inserted}
use Rattle.manifest_read.proofs.links.last_pairs.Goals as goal

pub loop-pair-preserved : goal.loop-pair-preserved
loop-pair-preserved c = λ name.
    let xs = c.args.pairs.now in
    let i = c.loop-pair.pair-index in
    let x = c.pair-item.result in
    inserted (λ pair. pair_of pair.now) name c.of-name.result _ (pair_of x) (get byte_cmp c.loop-pair.last name) (get byte_cmp c.insert.new.self name) (map pair_of (drop (i + 1) xs))
    (c.of-name.ensures ∙ ap lowered c.as_slice.ensures) refl (c.in_ok-_earlier.ensures.updates.0 name)
    ∙ ap (λ ys. last_named (option_map (λ pair. pair_of pair.now) (get byte_cmp c.loop-pair.last name)) name (map pair_of ys)) (sym (left_at xs i x c.loop-pair-test.true c.pair-item.is))
    ∙ c.loop-pair.invariant name
