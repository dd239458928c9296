use Rattle.std.proofs.Common.{◌≡◌, ◌<◌, ◌^◌, take}
use Rattle.path_name.specs.Decimals.{number_of}
use Rattle.version_norm.proofs.pieces.value_of.Given as goal

abbrev pub invariant-loop-digit : goal.invariant-loop-digit
invariant-loop-digit l = record {
  value : l.value ≡ number_of (take l.digit-index l.digits);
  small : l.value < 10 ^ l.digit-index;
}
