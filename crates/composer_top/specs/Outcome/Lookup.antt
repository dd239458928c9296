-- The outcome of `lookup NAME`: the path of the class's file, or the first refusal.
use Rattle.std.specs.Prelude.{ℕ, List, Option, Some, None, Result, Ok, Err}
use Rattle.path_name.specs.Given.{◌>>=◌}
use Rattle.tree_dev.specs.Trees.{FileTree}
use Rattle.table_scan.specs.declared.types.Tables.{Tables}
use Rattle.class_lookup.specs.ClassNames.{class_name_of}
use Rattle.class_lookup.specs.Lookup.{has_file, lookup_in}
use Rattle.class_lookup.specs.declared.fault.LookupFault.{LookupFault}
use Rattle.class_lookup.specs.declared.fault.LookupFault.TheVariants as lookups
use Rattle.run_answers.specs.declared.refusal.Refusal.{Refusal}
use Rattle.run_answers.specs.declared.refusal.Refusal.TheVariants as refusals
use Rattle.composer_top.specs.Outcome.Tables.{not_pending, class_tables_in}

abbrev pub refusal_of_lookup : LookupFault → Refusal
refusal_of_lookup lookups.BadName = refusals.BadName
refusal_of_lookup lookups.DeviceFault = refusals.DeviceFault
refusal_of_lookup lookups.OutOfMemory = refusals.OutOfMemory

abbrev pub or_refused : {X : Type 0} → Result X LookupFault → Result X Refusal
or_refused (Ok x) = Ok x
or_refused (Err fault) = Err (refusal_of_lookup fault)

-- the class that the word names
abbrev pub named : List ℕ → Result (List ℕ) Refusal
named word = or_refused (class_name_of word)

abbrev pub or_nothing : Option (List (List ℕ)) → Result (List (List ℕ)) Refusal
or_nothing (Some path) = Ok path
or_nothing None = Err refusals.Nothing

-- the file that a class opens by tables
unfoldable pub found_in : FileTree → Tables → List ℕ → Result (List (List ℕ)) Refusal
found_in t tables name = or_nothing (lookup_in tables (has_file t) name)

-- the file that a class opens
unfoldable pub looked_up : FileTree → List (List ℕ) → List ℕ → Result (List (List ℕ)) Refusal
looked_up t project name = do
  passed ← not_pending t project
  tables ← class_tables_in t project
  found_in t tables name

-- the file of the class that a word names
unfoldable pub lookup_outcome : FileTree → List (List ℕ) → List ℕ → Result (List (List ℕ)) Refusal
lookup_outcome t project word = do
  name ← named word
  looked_up t project name
