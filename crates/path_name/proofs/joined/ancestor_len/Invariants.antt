use Rattle.std.proofs.Common.{◌≡◌, ◌-◌, ◌≤◌, length, take}
use Rattle.path_name.specs.Joined.{segments_of}
use Rattle.path_name.proofs.joined.ancestor_len.Given as goal

abbrev pub invariant-loop : goal.invariant-loop
invariant-loop l = record {
  within : l.len ≤ length l.joined;
  count : l.counter ≤ length (segments_of l.joined);
  front : segments_of (take l.len l.joined) ≡ take (length (segments_of l.joined) - l.counter) (segments_of l.joined);
}
