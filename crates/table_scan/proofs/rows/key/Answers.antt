use Rattle.std.proofs.Common.{ap, ◌∙◌}
use Rattle.table_scan.specs.Keys.{allows}
use Rattle.table_scan.specs.TableTokens.{tokens}
use Rattle.table_scan.proofs.Steps.{key_refused}
use Rattle.table_scan.proofs.Tokens.{left_at_token}
use Rattle.table_scan.proofs.rows.key.Goals as goal

pub returns-clause-reads : goal.returns-clause-reads
returns-clause-reads c = key_refused (allows c.args.keys) c.allow.result c.in_ok-key.key.items (tokens c.args.text.now) (tokens c.in_ok-key.rest.now) _ c.in_ok-key.ensures.reads c.if-allow.false (c.allow.ensures ∙ ap (allows c.args.keys) c.as_slice.ensures.value) (left_at_token c.args.text.now c.requires)
