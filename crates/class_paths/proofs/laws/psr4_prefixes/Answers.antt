use Rattle.class_paths.proofs.ClassParts.{empty_prefix, ended_prefix}
use Rattle.class_paths.proofs.laws.psr4_prefixes.Goals as goal

pub returns-clause-empty : goal.returns-clause-empty
returns-clause-empty c = empty_prefix

pub returns-clause-ended : goal.returns-clause-ended
returns-clause-ended c = ended_prefix
