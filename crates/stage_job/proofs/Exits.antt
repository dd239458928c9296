-- The exits of calls that stage: what a fault that is passed on says.
use Rattle.std.proofs.Common.{◌≡◌, ℕ, List, Bool, true, false, Result, Ok, Err, OnOk, refl, sym, ap, subst, ◌∙◌}
use Rattle.std.specs.Result.{IsErrAnd}
use Rattle.tree_dev.specs.Device.{Meaning, OnlyRead, is_failed}
use Rattle.tree_dev.specs.declared.fault.TreeFault.{TreeFault}
use Rattle.tree_dev.specs.declared.fault.TreeFault.TheVariants as trees
use Rattle.stage_job.specs.Faults.{Answers, Refuses, fault_of_tree, is_device_fault}
use Rattle.stage_job.specs.Staged.{Staging}
use Rattle.stage_job.specs.declared.fault.StageFault.{StageFault}
use Rattle.stage_job.specs.declared.fault.StageFault.TheVariants as faults
use Rattle.stage_job.proofs.StagingRules.{staging_read}

-- whether the fault is one of the device
abbrev pub is_device : StageFault → Bool
is_device fault = is_device_fault {X = ℕ} (Err fault)

same_test : (X : Type 0) (fault : StageFault) → is_device_fault {X = X} (Err fault) ≡ is_device fault
same_test X faults.DeviceFault = refl
same_test X faults.OutOfMemory = refl
same_test X (faults.MissingPath text) = refl
same_test X (faults.OtherEntry path) = refl
same_test X (faults.Limit kind) = refl
same_test X (faults.Vanished path) = refl

-- what is known of the test of a result is known of the result
pub known_exit : {X : Type 0} {project : List (List ℕ)} {a b : Meaning} {failed : Bool} (r : Result X StageFault) → is_device_fault r ≡ failed → Staging project a b failed → Staging project a b (is_device_fault r)
known_exit {project = project} {a = a} {b = b} r is staging = subst (λ (t : Bool). Staging project a b t) (sym is) staging

fault_test : {X : Type 0} (r : Result X StageFault) (fault : StageFault) → IsErrAnd r (λ y. y ≡ fault) → is_device_fault r ≡ is_device fault
fault_test (Ok x) fault is = absurd is
fault_test {X} (Err y) fault is = same_test X y ∙ ap is_device is

pub device_exit : {X : Type 0} {project : List (List ℕ)} {a b : Meaning} (r : Result X StageFault) → IsErrAnd r (λ y. y ≡ faults.DeviceFault) → Staging project a b true → Staging project a b (is_device_fault r)
device_exit r is staging = known_exit r (fault_test r faults.DeviceFault is) staging

pub memory_exit : {X : Type 0} {project : List (List ℕ)} {a b : Meaning} (r : Result X StageFault) → IsErrAnd r (λ y. y ≡ faults.OutOfMemory) → Staging project a b false → Staging project a b (is_device_fault r)
memory_exit r is staging = known_exit r (fault_test r faults.OutOfMemory is) staging

-- a fault of a call that is passed on
pub passed_exit : {X : Type 0} {project : List (List ℕ)} {a b : Meaning} (r : Result X StageFault) (fault : StageFault) → IsErrAnd r (λ y. y ≡ fault) → Staging project a b (is_device fault) → Staging project a b (is_device_fault r)
passed_exit r fault is staging = known_exit r (fault_test r fault is) staging

-- a refusal that is wanted here is wanted there
pub refuses_on : (fault : StageFault) (here there : Result ℕ StageFault) → (here ≡ Err fault → there ≡ Err fault) → Refuses fault here → Refuses fault there
refuses_on faults.DeviceFault here there on refuses = refuses
refuses_on faults.OutOfMemory here there on refuses = refuses
refuses_on (faults.MissingPath text) here there on refuses = on refuses
refuses_on (faults.OtherEntry path) here there on refuses = on refuses
refuses_on (faults.Limit kind) here there on refuses = on refuses
refuses_on (faults.Vanished path) here there on refuses = on refuses

-- the answer of a fault that is passed on
pub fault_answer : {X : Type 0} (wanted : Result ℕ StageFault) (left : ℕ) (r : Result X StageFault) (fault : StageFault) → IsErrAnd r (λ y. y ≡ fault) → Refuses fault wanted → Answers wanted left r
fault_answer wanted left (Ok x) fault is refuses = absurd is
fault_answer wanted left (Err y) fault is refuses = subst (λ (f : StageFault). Refuses f wanted) (sym is) refuses

-- an answer for an equal wish
pub answer_same : {X : Type 0} (wanted other : Result ℕ StageFault) (left : ℕ) (r : Result X StageFault) → wanted ≡ other → Answers wanted left r → Answers other left r
answer_same {X} wanted other left r same answer = subst (λ (w : Result ℕ StageFault). Answers w left r) same answer

-- a result that can't be Ok
pub never_ok : {X : Type 0} (r : Result X StageFault) (P : Type 0) → OnOk r ⊥ → OnOk r P
never_ok {X} (Ok x) P never = absurd never
never_ok {X} (Err fault) P never = tt

-- ---- faults of the tree

abbrev pub is_failure : TreeFault → Bool
is_failure fault = is_failed {X = ℕ} (Err fault)

tree_test : (fault : TreeFault) → is_device (fault_of_tree fault) ≡ is_failure fault
tree_test trees.Failed = refl
tree_test trees.OutOfMemory = refl

pub tree_exit : {X : Type 0} {project : List (List ℕ)} {a b : Meaning} (r : Result X StageFault) (fault : TreeFault) → IsErrAnd r (λ y. y ≡ fault_of_tree fault)
    → OnlyRead a b (is_failure fault) → Staging project a b (is_device_fault r)
tree_exit r fault is read = known_exit r (fault_test r (fault_of_tree fault) is ∙ tree_test fault) (staging_read read)

tree_refuses : (wanted : Result ℕ StageFault) (fault : TreeFault) → Refuses (fault_of_tree fault) wanted
tree_refuses wanted trees.Failed = tt
tree_refuses wanted trees.OutOfMemory = tt

pub tree_answer : {X : Type 0} (wanted : Result ℕ StageFault) (left : ℕ) (r : Result X StageFault) (fault : TreeFault) → IsErrAnd r (λ y. y ≡ fault_of_tree fault) → Answers wanted left r
tree_answer wanted left r fault is = fault_answer wanted left r (fault_of_tree fault) is (tree_refuses wanted fault)
