use Rattle.version_norm.proofs.Blanks.{trimmed_again}
use Rattle.version_norm.proofs.Ordered.{flag_again, no_flag, build_again, no_build}
use Rattle.version_norm.proofs.laws.cuts.Goals as goal

pub returns-clause-blanks : goal.returns-clause-blanks
returns-clause-blanks c = trimmed_again

pub returns-clause-flag : goal.returns-clause-flag
returns-clause-flag c = flag_again

pub returns-clause-no_flag : goal.returns-clause-no_flag
returns-clause-no_flag c = no_flag

pub returns-clause-build : goal.returns-clause-build
returns-clause-build c = build_again

pub returns-clause-no_build : goal.returns-clause-no_build
returns-clause-no_build c = no_build
