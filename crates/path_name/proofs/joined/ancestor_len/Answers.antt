use Rattle.std.proofs.Common.{◌≡◌, ◌≤◌, ◌-◌, [], length, take, sym, ap, ◌∙◌, arith, Some}
use Rattle.std.proofs.lemmas.List.{take_all, take-take, length-take-le}
use Rattle.path_name.specs.Paths.{without_last}
use Rattle.path_name.specs.Joined.{segments_of}
use Rattle.path_name.proofs.Joining.{IsPath-take, one_less, none_left}
use Rattle.path_name.proofs.joined.ancestor_len.Goals as goal

pub loop-init : goal.loop-init
loop-init c =
    let joined = c.args.joined.now in
    let none : length (segments_of joined) ≡ length (segments_of joined) - 0 = omega arith in
    record {
      within = omega arith;
      count = omega arith;
      front = rw (take_all (length joined) joined (omega arith)) (sym (take_all (length (segments_of joined) - 0) (segments_of joined) (omega arith)));
    }

pub parent_len-requires : goal.parent_len-requires
parent_len-requires c = rw c.loop.invariant.front (IsPath-take _ (segments_of c.args.joined.now) c.requires)

pub returns-in-None : goal.returns-in-None
returns-in-None c =
    let none : take (length (segments_of c.args.joined.now) - c.loop.counter) (segments_of c.args.joined.now) ≡ [] = sym c.loop.invariant.front ∙ ap segments_of c.in-None.ensures in
    omega (arith, none_left (segments_of c.args.joined.now) c.loop.counter none)

pub loop-preserved : goal.loop-preserved
loop-preserved c =
    let joined = c.args.joined.now in
    let inside : length (take c.loop.len joined) ≡ c.loop.len = length-take-le c.loop.len joined c.loop.invariant.within in
    let below : c.in-Some.shorter ≤ c.loop.len = omega (arith, c.in-Some.ensures.0) in
    let last : without_last (take (length (segments_of joined) - c.loop.counter) (segments_of joined)) ≡ Some (segments_of (take c.in-Some.shorter (take c.loop.len joined))) = rw (← c.loop.invariant.front) c.in-Some.ensures.1 in
    let less = one_less (segments_of joined) (segments_of (take c.in-Some.shorter (take c.loop.len joined))) c.loop.counter c.loop.invariant.count last in
    record {
      within = omega arith;
      count = less.1;
      front = ap segments_of (sym (take-take c.in-Some.shorter c.loop.len joined below)) ∙ less.0;
    }
