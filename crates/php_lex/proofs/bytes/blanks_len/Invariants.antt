use Rattle.std.proofs.Common.{length, drop, ◌-◌, ◌≡◌, ◌≤◌}
use Rattle.path_name.specs.Bytes.{is_blank}
use Rattle.php_lex.specs.Places.{after_run}
use Rattle.php_lex.proofs.bytes.blanks_len.Given as goal

abbrev pub invariant-loop-len : goal.invariant-loop-len
invariant-loop-len l = record {
  within : l.len ≤ length l.text;
  rest : after_run is_blank (drop l.len l.text) ≡ after_run is_blank l.text;
}

abbrev pub decreases-loop-len : goal.decreases-loop-len
decreases-loop-len l = length l.text - l.len
