-- Which parts stand, one after another.
use Rattle.std.proofs.Common.{◌≡◌, ℕ, zero, suc, ◌+◌, ◌<◌, ◌≤◌, Bool, true, false, List, [], ◌∷◌, ◌++◌, length, take, drop, get_or, Result, Ok, Err, refl, sym, ap, subst, ◌∙◌, arith}
use Rattle.std.proofs.lemmas.List.{at_drop_more, take_all, take_more}
use Rattle.std.specs.Bool.{Decides}
use Rattle.path_name.specs.Given.{◌>>=◌}
use Rattle.tree_dev.specs.Trees.{FileTree}
use Rattle.stage_job.specs.Checked.{job_checked, part_checked}
use Rattle.stage_job.specs.declared.fault.StageFault.{StageFault}
use Rattle.stage_job.specs.declared.job.Part.{Part}
use Rattle.package_moves.specs.Beside.{AreCounted, IsWalked}
use Rattle.package_moves.specs.Counted.{target_count, targets_count}
use Rattle.package_moves.specs.Found.{AreStanding}
use Rattle.package_moves.specs.Wanted.{AreWanted, Stands, is_leaf_source}
use Rattle.package_moves.specs.declared.counts.Counts.{Counts}
use Rattle.package_moves.proofs.Counting.{counted_on}

pub leaf_at : (wanted : List Part) (i : ℕ) (x : Part) → AreWanted wanted → i < length wanted → x ≡ get_or wanted i x → is_leaf_source x.from ≡ true
leaf_at wanted i x are lt is = ap (λ (p : Part). is_leaf_source p.from) is ∙ at wanted i x are lt
  where
    at : (parts : List Part) (j : ℕ) (d : Part) → AreWanted parts → j < length parts → is_leaf_source (get_or parts j d).from ≡ true
    at [] j d all lt = absurd (omega arith)
    at (y ∷ ys) zero d all lt = all.1
    at (y ∷ ys) (suc j) d all lt = at ys j d all.3 (omega arith)

stand_snoc : (project : List (List ℕ)) (t : FileTree) (parts : List Part) (flags : List Bool) (x : Part) (flag : Bool) → AreStanding project t parts flags → Decides flag (Stands project t x) → AreStanding project t (parts ++ x ∷ []) (flags ++ flag ∷ [])
stand_snoc project t [] [] x flag all one = (one, tt)
stand_snoc project t [] (f ∷ fs) x flag all one = absurd all
stand_snoc project t (y ∷ ys) [] x flag all one = absurd all
stand_snoc project t (y ∷ ys) (f ∷ fs) x flag all one = (all.0, stand_snoc project t ys fs x flag all.1 one)

decides_by : (A : Type 0) (n : ℕ) (a b : Counts) (flag : Bool) → IsWalked n A true a b flag → b.passed ≡ false → Decides flag A
decides_by A n a b true walked none = ((λ e. (walked.alike refl).1), (λ fact. refl))
decides_by A n a b false walked none = ((λ e. absurd cc), (λ fact. absurd (walked.differs refl none refl fact)))

passed_by : (a b : Counts) (n : ℕ) (p : Bool) → a.passed ≡ p → AreCounted n a b → b.passed ≡ false → a.passed ≡ false
passed_by a b n true e counted none = absurd (let more = counted.stays e in cc)
passed_by a b n false e counted none = e

module _ (project : List (List ℕ)) (t : FileTree) (wanted : List Part) (i : ℕ) (x : Part) (lt : i < length wanted) (is : x ≡ get_or wanted i x) where
  next : take (i + 1) wanted ≡ take i wanted ++ x ∷ []
  next = take_more wanted i x lt ∙ ap (λ (p : Part). take i wanted ++ p ∷ []) (sym is)

  pub stand_more : (flags : List Bool) (flag : Bool) (a b : Counts) → (a.passed ≡ false → AreStanding project t (take i wanted) flags)
      → IsWalked (target_count t (project ++ x.target) x.from) (Stands project t x) true a b flag → b.passed ≡ false → AreStanding project t (take (i + 1) wanted) (flags ++ flag ∷ [])
  stand_more flags flag a b so_far walked none =
      subst (λ (ps : List Part). AreStanding project t ps (flags ++ flag ∷ [])) (sym next)
      (stand_snoc project t (take i wanted) flags x flag (so_far (passed_by a b (target_count t (project ++ x.target) x.from) a.passed refl walked.counted none))
      (decides_by (Stands project t x) (target_count t (project ++ x.target) x.from) a b flag walked none))

  count_snoc : (parts : List Part) → targets_count project t (parts ++ x ∷ []) ≡ targets_count project t parts + target_count t (project ++ x.target) x.from
  count_snoc [] = omega arith
  count_snoc (y ∷ ys) = let more = count_snoc ys in omega (arith, more)

  pub count_more : (a b d : Counts) → AreCounted (targets_count project t (take i wanted)) a b → AreCounted (target_count t (project ++ x.target) x.from) b d → AreCounted (targets_count project t (take (i + 1) wanted)) a d
  count_more a b d first second =
      subst (λ (k : ℕ). AreCounted k a d) (sym (count_snoc (take i wanted)) ∙ ap (targets_count project t) (sym next))
      (counted_on (targets_count project t (take i wanted)) (target_count t (project ++ x.target) x.from) a b d first second)

  wanted_is : (before : ℕ) (whole : Result ℕ StageFault) → job_checked project t (drop i wanted) before ≡ whole
      → (part_checked t (project ++ x.target) x.from before >>= λ rest. job_checked project t (drop (i + 1) wanted) rest) ≡ whole
  unfolding job_checked
  wanted_is before whole so_far =
      ap (λ (p : Part). job_checked project t (p ∷ drop (i + 1) wanted) before) is
      ∙ sym (at_drop_more (λ (ps : List Part). job_checked project t ps before) wanted i x lt) ∙ so_far

  pub checked_on : (before after : ℕ) (whole : Result ℕ StageFault) → job_checked project t (drop i wanted) before ≡ whole → part_checked t (project ++ x.target) x.from before ≡ Ok after
      → job_checked project t (drop (i + 1) wanted) after ≡ whole
  checked_on before after whole so_far here =
      sym (ap (λ (r : Result ℕ StageFault). r >>= λ rest. job_checked project t (drop (i + 1) wanted) rest) here) ∙ wanted_is before whole so_far

  pub checked_stop : (before : ℕ) (whole : Result ℕ StageFault) (fault : StageFault) → job_checked project t (drop i wanted) before ≡ whole → part_checked t (project ++ x.target) x.from before ≡ Err fault → whole ≡ Err fault
  checked_stop before whole fault so_far here =
      sym (wanted_is before whole so_far) ∙ ap (λ (r : Result ℕ StageFault). r >>= λ rest. job_checked project t (drop (i + 1) wanted) rest) here

pub stand_all : (project : List (List ℕ)) (t : FileTree) (wanted : List Part) (i : ℕ) (flags : List Bool) → length wanted ≤ i → AreStanding project t (take i wanted) flags → AreStanding project t wanted flags
stand_all project t wanted i flags le all = subst (λ (ps : List Part). AreStanding project t ps flags) (take_all i wanted le) all

pub count_all : (project : List (List ℕ)) (t : FileTree) (wanted : List Part) (i : ℕ) (a b : Counts) → length wanted ≤ i → AreCounted (targets_count project t (take i wanted)) a b → AreCounted (targets_count project t wanted) a b
count_all project t wanted i a b le counted = subst (λ (ps : List Part). AreCounted (targets_count project t ps) a b) (take_all i wanted le) counted

pub passed_before : (a b : Counts) (n : ℕ) → AreCounted n a b → b.passed ≡ false → a.passed ≡ false
passed_before a b n counted none = passed_by a b n a.passed refl counted none
