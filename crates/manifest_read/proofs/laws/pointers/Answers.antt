use Rattle.manifest_read.proofs.Tokens.{unescaped-escaped, tokens_of-below}
use Rattle.manifest_read.proofs.laws.pointers.Goals as goal

pub returns-clause-escaped : goal.returns-clause-escaped
returns-clause-escaped c = unescaped-escaped

pub returns-clause-tokens : goal.returns-clause-tokens
returns-clause-tokens c = tokens_of-below
