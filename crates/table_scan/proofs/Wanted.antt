-- Tokens that are wanted.
use Rattle.std.proofs.Common.{◌≡◌, true, eqb, refl, ap, eq-eqb}
use Rattle.std.specs.Cmp.Lexicographic.{bytes_decides}
use Rattle.table_scan.specs.declared.mark.Mark.{Mark}
use Rattle.table_scan.specs.declared.mark.Mark.TheVariants as marks
use Rattle.table_scan.specs.TableTokens.{Token, Marked, Quoted, Number, Stray}
use Rattle.table_scan.specs.TableReading.{mark_number, is_wanted}

same_mark : (a b : Mark) → eqb (mark_number a) (mark_number b) ≡ true → a ≡ b
same_mark marks.Tag marks.Tag e = refl
same_mark marks.Tag _ e = absurd cc
same_mark marks.VendorDir marks.VendorDir e = refl
same_mark marks.VendorDir _ e = absurd cc
same_mark marks.BaseDir marks.BaseDir e = refl
same_mark marks.BaseDir _ e = absurd cc
same_mark marks.Dirname marks.Dirname e = refl
same_mark marks.Dirname _ e = absurd cc
same_mark marks.ThisDir marks.ThisDir e = refl
same_mark marks.ThisDir _ e = absurd cc
same_mark marks.ThisFile marks.ThisFile e = refl
same_mark marks.ThisFile _ e = absurd cc
same_mark marks.Return marks.Return e = refl
same_mark marks.Return _ e = absurd cc
same_mark marks.Array marks.Array e = refl
same_mark marks.Array _ e = absurd cc
same_mark marks.Arrow marks.Arrow e = refl
same_mark marks.Arrow _ e = absurd cc
same_mark marks.Assign marks.Assign e = refl
same_mark marks.Assign _ e = absurd cc
same_mark marks.Open marks.Open e = refl
same_mark marks.Open _ e = absurd cc
same_mark marks.Close marks.Close e = refl
same_mark marks.Close _ e = absurd cc
same_mark marks.Comma marks.Comma e = refl
same_mark marks.Comma _ e = absurd cc
same_mark marks.Dot marks.Dot e = refl
same_mark marks.Dot _ e = absurd cc
same_mark marks.Semicolon marks.Semicolon e = refl
same_mark marks.Semicolon _ e = absurd cc

pub wanted_is : (a b : Token) → is_wanted a b ≡ true → a ≡ b
wanted_is (Marked mark) (Marked other) e = ap Marked (same_mark mark other e)
wanted_is (Quoted text) (Quoted other) e = ap Quoted ((bytes_decides text other).0 e)
wanted_is (Number digits) (Number other) e = ap Number ((bytes_decides digits other).0 e)
wanted_is Stray Stray e = refl
wanted_is _ _ e = absurd cc

pub is_wanted-itself : (k : Token) → is_wanted k k ≡ true
is_wanted-itself (Marked mark) = eq-eqb (mark_number mark) (mark_number mark) refl
is_wanted-itself (Quoted text) = (bytes_decides text text).1 refl
is_wanted-itself (Number digits) = (bytes_decides digits digits).1 refl
is_wanted-itself Stray = refl

pub mark_is_wanted : (mark : Mark) → is_wanted (Marked mark) (Marked mark) ≡ true
mark_is_wanted mark = eq-eqb (mark_number mark) (mark_number mark) refl
