-- Where a run of plain bytes stops, and what is read from there.
use Rattle.std.specs.Prelude.{ℕ, ◌+◌, ◌≤◌, List, [], ◌∷◌, length, Option, Some, None}
use Rattle.table_scan.specs.declared.quoted.Stopped.{Stopped}
use Rattle.table_scan.specs.declared.quoted.Stopped.TheVariants.{End, Quote, Byte}
use Rattle.table_scan.specs.TableTokens.{in_front, unquoted}

abbrev pub rest_of : Stopped → Option (List ℕ × List ℕ)
rest_of End = None
rest_of (Quote tail) = Some ([], tail.now)
rest_of (Byte byte tail) = in_front (byte ∷ []) (unquoted tail.now)

-- what is left is shorter than the text, whose length is n
abbrev pub IsShorter : Stopped → ℕ → Type 0
IsShorter End n = Unit {0}
IsShorter (Quote tail) n = length tail.now + 1 ≤ n
IsShorter (Byte byte tail) n = length tail.now + 1 ≤ n
