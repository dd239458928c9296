-- Steps of a walk, one after another.
use Rattle.std.proofs.Common.{◌≡◌, ℕ, List, [], ◌∷◌, ◌++◌, Result, Ok, Err, refl, sym, ap, subst}
use Rattle.std.specs.Result.{IsErrAnd}
use Rattle.path_name.specs.Given.{◌>>=◌}
use Rattle.tree_dev.specs.Trees.{FileTree}
use Rattle.class_walk.specs.Faults.{Refuses, Ends, Goes}
use Rattle.class_walk.specs.Walks.{Search, Source, Walked, IsScanOf, AreScansOf, each_walked, entry_walked}
use Rattle.class_walk.specs.declared.fault.WalkFault.{WalkFault}
use Rattle.class_walk.specs.declared.fault.WalkFault.TheVariants as faults
use Rattle.class_walk.specs.declared.job.Scanned.{Scanned}

pub refuses_on : (fault : WalkFault) (wanted : Result Walked WalkFault) (next : Walked → Result Walked WalkFault) → Refuses fault wanted → Refuses fault (wanted >>= next)
refuses_on faults.DeviceFault wanted next e = tt
refuses_on faults.OutOfMemory wanted next e = tt
refuses_on (faults.ClassmapMissing path) wanted next e = ap (λ r. r >>= next) e
refuses_on (faults.OtherEntry path) wanted next e = ap (λ r. r >>= next) e
refuses_on (faults.Limit kind) wanted next e = ap (λ r. r >>= next) e
refuses_on (faults.Vanished path) wanted next e = ap (λ r. r >>= next) e

module _ (first second : Walked → Result Walked WalkFault) (found after last : List Scanned) (left mid rest : ℕ) where
  pub goes_then : {X Y : Type 0} (x : X) (result : Result Y WalkFault) → Goes first found left after mid (Ok x) → Goes second after mid last rest result
      → Goes (λ walked. first walked >>= second) found left last rest result
  goes_then x result one two walked tells =
      let step = one walked tells in
      rw step.1 (two step.0 step.2)

  pub goes_stop : (X Y : Type 0) (fault : WalkFault) → Goes {X = X} first found left after mid (Err fault) → Goes {X = Y} (λ walked. first walked >>= second) found left last rest (Err fault)
  goes_stop X Y fault one walked tells = refuses_on fault (first walked) second (one walked tells)

bind_on : (r : Result Walked WalkFault) (f g h : Walked → Result Walked WalkFault) → ((w : Walked) → f w ≡ (g w >>= h)) → (r >>= f) ≡ ((r >>= g) >>= h)
bind_on (Ok w) f g h same = same w
bind_on (Err fault) f g h same = refl

pub each_append : (t : FileTree) (search : Search) (xs ys : List (List (List ℕ))) (walked : Walked) → each_walked t search (xs ++ ys) walked ≡ (each_walked t search xs walked >>= λ next. each_walked t search ys next)
each_append t search [] ys walked = refl
each_append t search (x ∷ xs) ys walked =
    bind_on (entry_walked t search x walked) (λ next. each_walked t search (xs ++ ys) next) (λ next. each_walked t search xs next) (λ next. each_walked t search ys next) (λ next. each_append t search xs ys next)

pub scans_append : (sources : List Source) (found : List Scanned) (source : Source) (scanned : Scanned) → AreScansOf sources found → IsScanOf source scanned → AreScansOf (sources ++ source ∷ []) (found ++ scanned ∷ [])
scans_append [] [] source scanned are is = (is, tt)
scans_append [] (one ∷ found) source scanned are is = absurd are
scans_append (one ∷ sources) [] source scanned are is = absurd are
scans_append (one ∷ sources) (other ∷ found) source scanned are is = (are.0, scans_append sources found source scanned are.1 is)

pub goes_same : (X : Type 0) (f g : Walked → Result Walked WalkFault) (found after : List Scanned) (left rest : ℕ) (r : Result X WalkFault) → ((walked : Walked) → f walked ≡ g walked) → Goes f found left after rest r → Goes g found left after rest r
goes_same X f g found after left rest r same goes walked tells = subst (λ (wanted : Result Walked WalkFault). Ends wanted after rest r) (same walked) (goes walked tells)

-- a fault that is passed on
pub fault_ends : (X : Type 0) (wanted : Result Walked WalkFault) (after : List Scanned) (rest : ℕ) (r : Result X WalkFault) (fault : WalkFault) → IsErrAnd r (λ y. y ≡ fault) → Refuses fault wanted → Ends wanted after rest r
fault_ends X wanted after rest (Ok x) fault is refuses = absurd is
fault_ends X wanted after rest (Err other) fault is refuses = subst (λ (f : WalkFault). Refuses f wanted) (sym is) refuses

-- a fault ends a walk whatever else was found
pub fault_goes : (X Y : Type 0) (step : Walked → Result Walked WalkFault) (found after last : List Scanned) (left mid rest : ℕ) (r : Result X WalkFault) (fault : WalkFault) → IsErrAnd r (λ y. y ≡ fault)
    → Goes {X = Y} step found left after mid (Err fault) → Goes step found left last rest r
fault_goes X Y step found after last left mid rest r fault is goes walked tells = fault_ends X (step walked) last rest r fault is (goes walked tells)
