-- What stands behind an item, as the reader tells it.
use Rattle.std.specs.Prelude.{ℕ, length}
use Rattle.table_scan.specs.declared.list.Separator.{Separator}
use Rattle.table_scan.specs.declared.list.Separator.TheVariants.{Comma, Close}
use Rattle.table_scan.specs.TableTokens.{tokens}
use Rattle.table_scan.specs.TableSteps.{Behind, More, Last}

abbrev pub separator_of : Separator → Behind
separator_of (Comma rest) = More (tokens rest.now)
separator_of (Close rest) = Last (tokens rest.now)

abbrev pub rest_len : Separator → ℕ
rest_len (Comma rest) = length rest.now
rest_len (Close rest) = length rest.now
