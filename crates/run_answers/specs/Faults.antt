-- Faults of other layers as refusals, and the sets of refusals of which contracts speak.
use Rattle.std.specs.Prelude.{Bool, false, not, ◌&&◌, ◌||◌, nat_eq, Result, Ok, Err}
use Rattle.tree_dev.specs.declared.fault.TreeFault.{TreeFault}
use Rattle.tree_dev.specs.declared.fault.TreeFault.TheVariants as trees
use Rattle.table_scan.specs.declared.types.TableFault.{TableFault}
use Rattle.table_scan.specs.declared.types.TableFault.TheVariants as tables
use Rattle.run_answers.specs.declared.refusal.Refusal.{Refusal}
use Rattle.run_answers.specs.declared.refusal.Refusal.TheVariants as refusals
use Rattle.run_answers.specs.Statuses.{status_of}

abbrev pub refusal_of_tree : TreeFault → Refusal
refusal_of_tree trees.Failed = refusals.DeviceFault
refusal_of_tree trees.OutOfMemory = refusals.OutOfMemory

abbrev pub refusal_of_table : TableFault → Refusal
refusal_of_table (tables.BadTables table at) = refusals.BadTables table at
refusal_of_table tables.OutOfMemory = refusals.OutOfMemory

-- ---- sets, by the status

-- a fault of the device
abbrev pub is_of_device : Refusal → Bool
is_of_device refusal = nat_eq (status_of refusal) 8

-- a fault of the device, or want of memory: neither says anything of the tree that is told
abbrev pub is_free : Refusal → Bool
is_free refusal = is_of_device refusal || nat_eq (status_of refusal) 10

-- refused for the words alone
abbrev pub is_of_words : Refusal → Bool
is_of_words refusal = nat_eq (status_of refusal) 2

-- refused for what stands in the tree, or by a free refusal: neither for the words nor by the output
abbrev pub is_of_tree : Refusal → Bool
is_of_tree refusal = not (is_of_words refusal) && not (nat_eq (status_of refusal) 9)

-- whether a call ended by a fault of the device
abbrev pub is_device_fault : {X : Type 0} → Result X Refusal → Bool
is_device_fault (Ok x) = false
is_device_fault (Err refusal) = is_of_device refusal
