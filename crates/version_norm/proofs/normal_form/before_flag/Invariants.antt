use Rattle.std.proofs.Common.{◌≡◌, ◌++◌, take, drop}
use Rattle.version_norm.specs.Versions.{without_flag}
use Rattle.version_norm.proofs.normal_form.before_flag.Given as goal

abbrev pub invariant-loop-i : goal.invariant-loop-i
invariant-loop-i l = take l.i l.text ++ without_flag (drop l.i l.text) ≡ without_flag l.text
