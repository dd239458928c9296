use Rattle.psr_routes.proofs.RowPrefixes.{all_rows}
use Rattle.psr_routes.proofs.laws.prefixes_of_rows.Goals as goal

pub returns : goal.returns
returns c = λ project root members dev read each. all_rows project root members read each dev
