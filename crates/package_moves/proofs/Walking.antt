-- Walks of sources beside their targets, one after another.
use Rattle.std.proofs.Common.{◌≡◌, ℕ, ◌+◌, Bool, true, false, refl, arith}
use Rattle.std.specs.Bool.{Decides}
use Rattle.package_moves.specs.Beside.{AreCounted, IsWalked}
use Rattle.package_moves.specs.declared.counts.Counts.{Counts}
use Rattle.package_moves.proofs.Counting.{counted_none, counted_on, counted_same}

pub walked_same : (m n : ℕ) (A B : Type 0) (same : Bool) (a b : Counts) (alike : Bool) → m ≡ n → (A → B) → (B → A) → IsWalked m A same a b alike → IsWalked n B same a b alike
walked_same m n A B same a b alike e on back walked = record {
  counted = counted_same m n a b e walked.counted;
  alike = λ is. let both = walked.alike is in (both.0, on both.1);
  differs = λ other none before fact. walked.differs other none before (back fact);
}

-- nothing is counted
pub walked_one : (A : Type 0) (same : Bool) (a : Counts) (alike : Bool) → Decides alike ((same ≡ true) × A) → IsWalked 0 A same a a alike
walked_one A same a alike decides = record {
  counted = counted_none a;
  alike = decides.0;
  differs = λ other none before fact. let is = decides.1 (before, fact) in absurd cc;
}

-- only sources were listed before
pub walked_after : (n : ℕ) (A : Type 0) (same : Bool) (a b d : Counts) (alike : Bool) → AreCounted 0 a b → IsWalked n A same b d alike → IsWalked n A same a d alike
walked_after n A same a b d alike before walked = record {
  counted = counted_same (0 + n) n a d (omega arith) (counted_on 0 n a b d before walked.counted);
  alike = walked.alike;
  differs = walked.differs;
}

module _ (m n : ℕ) (A B : Type 0) (same between alike : Bool) (a b d : Counts) (first : IsWalked m A same a b between) (second : IsWalked n B between b d alike) where
  not_passed : (p : Bool) → b.passed ≡ p → d.passed ≡ false → b.passed ≡ false
  not_passed true e none = absurd (let more = second.counted.stays e in cc)
  not_passed false e none = e

  differs_by : (s : Bool) → between ≡ s → alike ≡ false → d.passed ≡ false → same ≡ true → A × B → ⊥
  differs_by true e other none before both = second.differs other none e both.1
  differs_by false e other none before both = first.differs e (not_passed b.passed refl none) before both.0

  pub walked_on : IsWalked (m + n) (A × B) same a d alike
  walked_on = record {
    counted = counted_on m n a b d first.counted second.counted;
    alike = λ is. let later = second.alike is in let earlier = first.alike later.0 in (earlier.0, (earlier.1, later.1));
    differs = λ other none before both. differs_by between refl other none before both;
  }
