use Rattle.std.proofs.Common.{◌≡◌, ◌-◌, ℕ, zero, suc, eqb, List, [], ◌∷◌, length, get_or, refl, sym, arith}
use Rattle.table_scan.specs.TableGrammar.{is_whole}
use Rattle.autoload_build.proofs.tests.is_whole.Goals as goal

last_byte : (prefix : List ℕ) (last : ℕ) → length prefix ≡ suc last → is_whole prefix ≡ eqb (get_or prefix last 0) 92
last_byte [] last e = absurd (omega arith)
last_byte (byte ∷ []) zero e = refl
last_byte (byte ∷ []) (suc last) e = absurd (omega arith)
last_byte (byte ∷ next ∷ rest) zero e = absurd (omega arith)
last_byte (byte ∷ next ∷ rest) (suc last) e = last_byte (next ∷ rest) last (omega arith)

pub returns-in_default : goal.returns-in_default
returns-in_default c = sym (last_byte c.args.prefix.now (length c.args.prefix.now - 1) (omega arith))
