-- Whole prefixes.
use Rattle.std.proofs.Common.{◌≡◌, ℕ, zero, suc, eqb, List, [], ◌∷◌, length, get_or, refl, arith}
use Rattle.table_scan.specs.TableGrammar.{is_whole}

-- a prefix is whole where its last byte is a `\`
pub is_whole-last : (prefix : List ℕ) (last : ℕ) → length prefix ≡ suc last → is_whole prefix ≡ eqb (get_or prefix last 0) 92
is_whole-last [] last e = absurd (omega arith)
is_whole-last (byte ∷ []) zero e = refl
is_whole-last (byte ∷ []) (suc last) e = absurd (omega arith)
is_whole-last (byte ∷ next ∷ rest) zero e = absurd (omega arith)
is_whole-last (byte ∷ next ∷ rest) (suc last) e = is_whole-last (next ∷ rest) last (omega arith)
