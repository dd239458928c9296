-- What solving a pool answers.
use Rattle.std.specs.Prelude.{◌≡◌, length, false}
use Rattle.pkg_pool.specs.declared.pool.Pool.{Pool}
use Rattle.plan_rules.specs.Sets.{Chosen}
use Rattle.plan_rules.specs.Validity.{is_valid}
use Rattle.plan_rules.specs.FirstChoice.{IsFirstChoice}
use Rattle.plan_solve.specs.declared.solving.Answer.{Answer}
use Rattle.plan_solve.specs.declared.solving.Answer.TheVariants as answers

-- no set of the pool's candidates is valid
abbrev pub HasNoPlan : Pool → Type 0
HasNoPlan pool = (set : Chosen) → length set ≡ length pool.candidates → is_valid pool set ≡ false

-- The plan of first choices, or that there is none, since no set is valid.
abbrev pub Solves : Pool → Answer → Type 0
Solves pool (answers.Plan selection) = IsFirstChoice pool selection.members
Solves pool answers.NoPlan = HasNoPlan pool
