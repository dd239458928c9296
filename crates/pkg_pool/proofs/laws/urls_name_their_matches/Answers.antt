use Rattle.pkg_pool.proofs.Matching.{expansion, found_matches}
use Rattle.pkg_pool.proofs.laws.urls_name_their_matches.Goals as goal

pub returns : goal.returns
returns c = λ t origin segments left found tree e. found_matches t origin segments found.paths tree (expansion t origin segments left found tree e)
