-- What a call that reads a tree for a pool tells.
use Rattle.std.specs.Prelude.{◌≡◌, ◌⊎◌, List, [], ◌∷◌, Bool, true, false, IsTrue, Result, Ok, Err, MatchResult}
use Rattle.path_name.specs.Given.{◌>>=◌}
use Rattle.tree_dev.specs.declared.fault.TreeFault.{TreeFault}
use Rattle.tree_dev.specs.declared.fault.TreeFault.TheVariants as trees
use Rattle.pkg_pool.specs.declared.fault.PoolFault.{PoolFault}
use Rattle.pkg_pool.specs.declared.fault.PoolFault.TheVariants as faults

abbrev pub fault_of_tree : TreeFault → PoolFault
fault_of_tree trees.Failed = faults.DeviceFault
fault_of_tree trees.OutOfMemory = faults.OutOfMemory

-- a fault of the device
abbrev pub is_of_device : PoolFault → Bool
is_of_device (faults.MissingPath text) = false
is_of_device (faults.BadManifest path fault) = false
is_of_device (faults.NotOffered path pointer) = false
is_of_device (faults.OtherEntry path) = false
is_of_device (faults.Limit limit) = false
is_of_device (faults.Vanished path) = false
is_of_device faults.DeviceFault = true
is_of_device faults.OutOfMemory = false

-- that something vanished between two looks
abbrev pub is_vanished : PoolFault → Bool
is_vanished (faults.MissingPath text) = false
is_vanished (faults.BadManifest path fault) = false
is_vanished (faults.NotOffered path pointer) = false
is_vanished (faults.OtherEntry path) = false
is_vanished (faults.Limit limit) = false
is_vanished (faults.Vanished path) = true
is_vanished faults.DeviceFault = false
is_vanished faults.OutOfMemory = false

-- a fault of the device, or want of memory: neither says anything of the tree that is told
abbrev pub is_free : PoolFault → Bool
is_free (faults.MissingPath text) = false
is_free (faults.BadManifest path fault) = false
is_free (faults.NotOffered path pointer) = false
is_free (faults.OtherEntry path) = false
is_free (faults.Limit limit) = false
is_free (faults.Vanished path) = false
is_free faults.DeviceFault = true
is_free faults.OutOfMemory = true

-- whether a call ended by a fault of the device
abbrev pub is_device_fault : {X : Type 0} → Result X PoolFault → Bool
is_device_fault (Ok x) = false
is_device_fault (Err fault) = is_of_device fault

-- The result, seen by a view, is what is wanted, or the tree failed, or memory ran out.
abbrev pub Tells : {X Y : Type 0} → (X → Y) → Result Y PoolFault → Result X PoolFault → Type 0
Tells view wanted result = MatchResult result (λ x. wanted ≡ Ok (view x)) (λ fault. IsTrue (is_free fault) ⊎ (wanted ≡ Err fault))

-- a step for each of a list, in order; the first refusal is the answer
unfoldable pub each_in_turn : {X S : Type 0} → (X → S → Result S PoolFault) → List X → S → Result S PoolFault
each_in_turn step [] s = Ok s
each_in_turn step (x ∷ xs) s = step x s >>= λ next. each_in_turn step xs next
