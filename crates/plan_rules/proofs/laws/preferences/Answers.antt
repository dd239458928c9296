use Rattle.std.proofs.Common.{◌≡◌, ℕ, true, sym, ◌∙◌, inl, inr}
use Rattle.std.specs.Prelude.{◌≢◌, ◌⊎◌}
use Rattle.std.proofs.lemmas.Bool.{false≢true}
use Rattle.manifest_read.specs.declared.types.Link.{Link}
use Rattle.pkg_pool.specs.declared.pool.Pool.{Pool}
use Rattle.plan_rules.specs.Preference.{is_preferred}
use Rattle.plan_rules.proofs.PreferenceOrder.{one_preferred, preferred_on, not_preferred_itself}
use Rattle.plan_rules.proofs.laws.preferences.Goals as goal

the_other : (pool : Pool) (need : Link) (a b : ℕ) → a ≢ b → is_preferred pool need a b ≢ true → (is_preferred pool need a b ≡ true) ⊎ ((a ≡ b) ⊎ (is_preferred pool need b a ≡ true)) → is_preferred pool need b a ≡ true
the_other pool need a b apart not_before (inl before) = absurd (not_before before)
the_other pool need a b apart not_before (inr (inl same)) = absurd (apart same)
the_other pool need a b apart not_before (inr (inr after)) = after

-- src/laws.rt:30:1
pub returns-clause-one : goal.returns-clause-one
returns-clause-one c pool need a b apart not_before = the_other pool need a b apart not_before (one_preferred pool need a b)

-- src/laws.rt:30:1
pub returns-clause-on : goal.returns-clause-on
returns-clause-on c = preferred_on

-- src/laws.rt:30:1
pub returns-clause-strict : goal.returns-clause-strict
returns-clause-strict c pool need a before = absurd (false≢true (sym (not_preferred_itself pool need a) ∙ before))
