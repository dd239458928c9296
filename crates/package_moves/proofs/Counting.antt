-- Counts of listed names, one after another.
use Rattle.std.proofs.Common.{◌≡◌, ◌⊎◌, ℕ, ◌+◌, ◌<◌, ◌≤◌, Bool, true, false, refl, sym, subst, ◌∙◌, inl, inr, arith}
use Rattle.package_moves.specs.Beside.{AreCounted}
use Rattle.package_moves.specs.declared.counts.Counts.{Counts}

pub counted_left : (a b : Counts) → b.targets ≡ a.targets → b.passed ≡ a.passed → b.left.left ≤ a.left.left → AreCounted 0 a b
counted_left a b targets passed falls = record {
  exact = λ e. omega (arith, targets);
  many = λ e. inl (sym passed ∙ e);
  stays = λ e. passed ∙ e;
  falls = falls;
}

pub counted_none : (a : Counts) → AreCounted 0 a a
counted_none a = counted_left a a refl refl (omega arith)

pub counted_same : (m n : ℕ) (a b : Counts) → m ≡ n → AreCounted m a b → AreCounted n a b
counted_same m n a b same counted = subst (λ (k : ℕ). AreCounted k a b) same counted

module _ (m n : ℕ) (a b d : Counts) (first : AreCounted m a b) (second : AreCounted n b d) where
  not_passed : (p : Bool) → b.passed ≡ p → d.passed ≡ false → b.passed ≡ false
  not_passed true e none = absurd (let more = second.stays e in cc)
  not_passed false e none = e

  exact_on : d.passed ≡ false → d.targets ≡ a.targets + (m + n)
  exact_on none =
      let one = first.exact (not_passed b.passed refl none) in
      let two = second.exact none in
      omega (arith, one, two)

  by_first : (a.passed ≡ true) ⊎ (b.left.left < a.targets + m) → (a.passed ≡ true) ⊎ (d.left.left < a.targets + (m + n))
  by_first (inl e) = inl e
  by_first (inr lt) = inr (let falls = second.falls in omega (arith, falls, lt))

  by_state : (p : Bool) → b.passed ≡ p → d.left.left < b.targets + n → (a.passed ≡ true) ⊎ (d.left.left < a.targets + (m + n))
  by_state true e lt = by_first (first.many e)
  by_state false e lt = inr (let one = first.exact e in omega (arith, one, lt))

  by_second : (b.passed ≡ true) ⊎ (d.left.left < b.targets + n) → (a.passed ≡ true) ⊎ (d.left.left < a.targets + (m + n))
  by_second (inl e) = by_first (first.many e)
  by_second (inr lt) = by_state b.passed refl lt

  pub counted_on : AreCounted (m + n) a d
  counted_on = record {
    exact = exact_on;
    many = λ e. by_second (second.many e);
    stays = λ e. second.stays (first.stays e);
    falls = let one = first.falls in let two = second.falls in omega (arith, one, two);
  }
