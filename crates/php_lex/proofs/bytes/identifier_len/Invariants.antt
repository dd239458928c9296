use Rattle.std.proofs.Common.{length, take, drop, ◌++◌, ◌-◌, ◌≡◌, ◌≤◌}
use Rattle.path_name.specs.Bytes.{continues_identifier}
use Rattle.php_lex.specs.Places.{run_of, after_run}
use Rattle.php_lex.proofs.bytes.identifier_len.Given as goal

abbrev pub invariant-loop-len : goal.invariant-loop-len
invariant-loop-len l = record {
  within : l.len ≤ length l.text;
  rest : after_run continues_identifier (drop l.len l.text) ≡ after_run continues_identifier l.text;
  run : take l.len l.text ++ run_of continues_identifier (drop l.len l.text) ≡ run_of continues_identifier l.text;
}

abbrev pub decreases-loop-len : goal.decreases-loop-len
decreases-loop-len l = length l.text - l.len
