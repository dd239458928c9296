-- What a look-up finds, way by way.
use Rattle.std.proofs.Common.{◌≡◌, ℕ, Bool, true, false, List, find, Some, None, refl}
use Rattle.table_scan.specs.declared.types.ClassRow.{ClassRow}
use Rattle.table_scan.specs.declared.types.Tables.{Tables}
use Rattle.class_lookup.specs.Lookup.{mapped_row, is_authoritative, candidates_in, lookup_in}

module _ (tables : Tables) (is_file : List (List ℕ) → Bool) (name : List ℕ) where
  pub mapped : (row : ClassRow) → mapped_row tables.class_map name ≡ Some row → lookup_in tables is_file name ≡ Some row.path
  unfolding lookup_in
  mapped row e = rw e refl

  pub not_mapped : mapped_row tables.class_map name ≡ None → is_authoritative tables.state ≡ true → lookup_in tables is_file name ≡ None
  unfolding lookup_in
  not_mapped e alone = rw (e, alone) refl

  pub looked_for : mapped_row tables.class_map name ≡ None → is_authoritative tables.state ≡ false → lookup_in tables is_file name ≡ find is_file (candidates_in tables name)
  unfolding lookup_in
  looked_for e alone = rw (e, alone) refl
