use Rattle.std.proofs.Common.{◌≡◌, ◌++◌, map, drop}
use Rattle.pkg_pool.specs.Stability.{AreFlagsOf}
use Rattle.plan_rules.specs.Breaking.{AreRight}
use Rattle.plan_rules.specs.Rivals.{fits_alone}
use Rattle.plan_rules.proofs.rivals.fits_alone.Given as goal

abbrev pub invariant-loop-candidate : goal.invariant-loop-candidate
invariant-loop-candidate l = record {
  flags : AreFlagsOf l.flags l.root;
  right : AreRight l.facts;
  root : l.facts.root.now ≡ l.root;
  rest : l.alone.items ++ map (fits_alone l.root) (drop l.candidate-index l.candidates) ≡ map (fits_alone l.root) l.candidates;
}
