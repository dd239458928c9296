-- Which keys a table allows.
use Rattle.std.specs.Prelude.{ℕ, List, Bool}
use Rattle.table_scan.specs.declared.rows.Keys.{Keys}
use Rattle.table_scan.specs.declared.rows.Keys.TheVariants.{Whole, Any}
use Rattle.table_scan.specs.TableGrammar.{is_whole, is_any}

abbrev pub allows : Keys → List ℕ → Bool
allows Whole key = is_whole key
allows Any key = is_any key
