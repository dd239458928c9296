use Rattle.std.proofs.Common.{◌≡◌, ap, sym, ◌∙◌, ◌++◌, map, None}
use Rattle.std.proofs.lemmas.List.{append-nil, map_push}
use Rattle.std.specs.Option.{option_map, option_to_list}
use Rattle.std.specs.BTreeMap.{get}
use Rattle.path_name.specs.Bytes.{lowered}
use Rattle.path_name.specs.Orders.{byte_cmp}
use Rattle.json_ordered.specs.Docs.{pair_of}
use Rattle.manifest_read.specs.Links.{last_named}
use Rattle.manifest_read.proofs.Keeping.{kept_more, left_more, kept_end}
use Rattle.manifest_read.proofs.links.kept_pairs.Goals as goal
use Rattle.manifest_read.proofs.links.kept_pairs.Goals.{in-Some+in_ok-push, in_default}

pub loop-pair-preserved : goal.loop-pair-preserved
loop-pair-preserved c =
    let xs = c.args.pairs.now in
    let i = c.loop-pair.pair-index in
    let x = c.pair-item.result in
    let k = c.of-name.result in
    let named = c.of-name.ensures ∙ ap lowered c.as_slice.ensures in
    let added : map (λ pair. pair_of pair.now) c.match-remove.some.items ≡ map (λ pair. pair_of pair.now) c.loop-pair.some.items
    ++ option_to_list (option_map (λ pair. pair_of pair.now) (get byte_cmp c.loop-pair.last k)) = elim c.match-remove.branch [
      | in-Some+in_ok-push w ↦ ap (λ s. map (λ pair. pair_of pair.now) s.items) w.some-is ∙ ap (map (λ pair. pair_of pair.now)) w.in_ok-push.ensures.items
          ∙ map_push (λ pair. pair_of pair.now) c.loop-pair.some.items w.in-Some.latest
          ∙ ap (λ o. map (λ pair. pair_of pair.now) c.loop-pair.some.items ++ option_to_list (option_map (λ pair. pair_of pair.now) o)) (sym w.in-Some.is ∙ c.remove.ensures.value)
      | in_default w ↦ ap (λ s. map (λ pair. pair_of pair.now) s.items) w.some-is ∙ sym (append-nil (map (λ pair. pair_of pair.now) c.loop-pair.some.items))
          ∙ ap (λ o. map (λ pair. pair_of pair.now) c.loop-pair.some.items ++ option_to_list (option_map (λ pair. pair_of pair.now) o)) (sym w.in_default.is ∙ c.remove.ensures.value)
    ] in
    record {
      left = λ name. left_more (λ pair. pair_of pair.now) pair_of xs i x c.loop-pair-test.true c.pair-item.is name k (get byte_cmp c.loop-pair.last name) (get byte_cmp c.remove.new.self name)
          (last_named None name (map pair_of xs)) named (c.loop-pair.invariant.left name) (c.remove.ensures.updates.0 name);
      so_far = kept_more (λ pair. pair_of pair.now) pair_of xs i x c.loop-pair-test.true c.pair-item.is k c.loop-pair.some.items c.match-remove.some.items (get byte_cmp c.loop-pair.last k)
          named added (c.loop-pair.invariant.left k) c.loop-pair.invariant.so_far;
    }

pub returns : goal.returns
returns c = kept_end (λ pair. pair_of pair.now) pair_of c.args.pairs.now c.loop-pair.pair-index c.loop-pair.some.items c.loop-pair-test.false c.loop-pair.invariant.so_far
