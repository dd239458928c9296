use Rattle.std.proofs.Common.{List, ℕ, map, take, sym, ap, ◌∙◌}
use Rattle.std.specs.List.{list_any}
use Rattle.path_name.specs.Orders.{bytes_are_equal}
use Rattle.json_ordered.specs.JsonNames.{names_of}
use Rattle.json_ordered.specs.Docs.{pair_of}
use Rattle.json_ordered.proofs.Joined.{next_differs, all_differ}
use Rattle.json_ordered.proofs.members.few_differ.Goals as goal

pub loop-i-preserved : goal.loop-i-preserved
loop-i-preserved c = next_differs c.args.members.now c.loop-i.i c.index-members-i.result c.loop-i-test.true c.index-members-i.is c.loop-i.invariant
    (ap (λ (n : List ℕ). list_any (bytes_are_equal n) (names_of (map pair_of (take c.loop-i.i c.args.members.now)))) (sym c.as_slice.ensures)
    ∙ ap (λ ms. list_any (bytes_are_equal c.as_slice.result.now) (names_of (map pair_of ms))) (sym c.split_at.ensures.front) ∙ sym c.is_among.ensures ∙ c.if-is_among.false)

pub returns : goal.returns
returns c = λ _. all_differ c.args.members.now c.loop-i.i c.loop-i-test.false c.loop-i.invariant
