-- Where the places of a job's parts lie apart: targets from each other, and all of them from what stands in `.install`.
use Rattle.std.proofs.Common.{◌≡◌, ◌≢◌, ℕ, suc, ◌<◌, ◌^◌, Bool, true, false, cond, codes, List, [], ◌∷◌, ◌++◌, length, get_or, take, drop, Option, Some, None, is_some, refl, sym, ap, ◌∙◌, append_assoc, append-nil, subst, inl, inr, arith}
use Rattle.std.specs.Prelude.{◌⊎◌, ◌||◌, not, AllPairs}
use Rattle.std.proofs.lemmas.Bool.{cases_lt, not-true}
use Rattle.std.proofs.lemmas.Fmt.{decimal_injective}
use Rattle.std.proofs.lemmas.List.{length-append, take-append-drop}
use Rattle.std.proofs.lemmas.Option.{slice_get_within, get_or_from_slice_get}
use Rattle.path_name.specs.Decimals.{decimal_text}
use Rattle.path_name.specs.Orders.{bytes_are_equal}
use Rattle.path_name.specs.Paths.{BeginsWith, without_last}
use Rattle.tree_dev.specs.Trees.{behind}
use Rattle.tree_dev.specs.Projects.{is_project_part, is_surroundings, is_within, journal_path, lock_path, vendor_path, work_path}
use Rattle.tree_dev.specs.Told.{both}
use Rattle.tree_dev.proofs.Behind.{behind_head, head_behind, same_bytes}
use Rattle.tree_dev.proofs.ProjectParts.{behind_same_head, outside, part_is_apart, surroundings_are_apart}
use Rattle.install_world.specs.InFlight.{IsPart, kept_path, old_path, staged_path, target_path}
use Rattle.install_world.specs.Targets.{AreTargetsApart, IsTargetPath, lock_target, vendor_target}
use Rattle.install_world.specs.declared.target.Target.{Target}

none_unless : (o : Option (List (List ℕ))) → ((rest : List (List ℕ)) → o ≡ Some rest → ⊥) → o ≡ None
none_unless None never = refl
none_unless (Some rest) never = absurd (never rest refl)

pub behind_itself : (at : List (List ℕ)) → behind at at ≡ Some []
behind_itself at = ap (behind at) (sym (append-nil at)) ∙ behind_head at []

-- ---- in `.install`

pub in_work : (project rest : List (List ℕ)) → is_within (work_path project) (project ++ codes ".install" ∷ rest) ≡ true
in_work project rest = ap is_some (behind_same_head project (codes ".install" ∷ []) (codes ".install" ∷ rest))

pub staged_in_work : (project : List (List ℕ)) (number : ℕ) (below : List (List ℕ)) → is_within (work_path project) (staged_path project number ++ below) ≡ true
staged_in_work project number below =
    ap (is_within (work_path project)) (append_assoc project (codes ".install" ∷ codes "new" ∷ decimal_text number ∷ []) below)
    ∙ in_work project (codes "new" ∷ decimal_text number ∷ below)

pub kept_in_work : (project : List (List ℕ)) (number : ℕ) (below : List (List ℕ)) → is_within (work_path project) (kept_path project number ++ below) ≡ true
kept_in_work project number below =
    ap (is_within (work_path project)) (append_assoc project (codes ".install" ∷ codes "old" ∷ decimal_text number ∷ []) below)
    ∙ in_work project (codes "old" ∷ decimal_text number ∷ below)

itself_in_work : (project at : List (List ℕ)) → is_within (work_path project) (at ++ []) ≡ true → is_within (work_path project) at ≡ true
itself_in_work project at e = ap (is_within (work_path project)) (sym (append-nil at)) ∙ e

pub staged_is_work : (project : List (List ℕ)) (number : ℕ) → is_within (work_path project) (staged_path project number) ≡ true
staged_is_work project number = itself_in_work project (staged_path project number) (staged_in_work project number [])

pub kept_is_work : (project : List (List ℕ)) (number : ℕ) → is_within (work_path project) (kept_path project number) ≡ true
kept_is_work project number = itself_in_work project (kept_path project number) (kept_in_work project number [])

pub journal_is_work : (project : List (List ℕ)) → is_within (work_path project) (journal_path project) ≡ true
journal_is_work project = in_work project (codes "journal" ∷ [])

pub old_is_work : (project : List (List ℕ)) → is_within (work_path project) (old_path project) ≡ true
old_is_work project = in_work project (codes "old" ∷ [])

-- what begins like a path of `.install`, in its own segments
below_project : (project head below : List (List ℕ)) (at : List (List ℕ)) → behind (project ++ at) ((project ++ head) ++ below) ≡ behind at (head ++ below)
below_project project head below at = ap (behind (project ++ at)) (append_assoc project head below) ∙ behind_same_head project at (head ++ below)

other_number : (first second : ℕ) → first < 2 ^ 64 → second < 2 ^ 64 → first ≢ second → bytes_are_equal (decimal_text first) (decimal_text second) ≡ false
other_number first second small also other = by (bytes_are_equal (decimal_text first) (decimal_text second)) refl
  where
    by : (same : Bool) → bytes_are_equal (decimal_text first) (decimal_text second) ≡ same → same ≡ false
    by true e = absurd (other (decimal_injective first second small also (same_bytes (decimal_text first) (decimal_text second) e)))
    by false e = refl

number_step : (same : Bool) (below : List (List ℕ)) → same ≡ false → cond same (Some below) None ≡ None
number_step true below e = absurd cc
number_step false below e = refl

pub staged_apart : (project : List (List ℕ)) (first second : ℕ) (below : List (List ℕ)) → first < 2 ^ 64 → second < 2 ^ 64 → first ≢ second
    → behind (staged_path project first) (staged_path project second ++ below) ≡ None
staged_apart project first second below small also other =
    below_project project (codes ".install" ∷ codes "new" ∷ decimal_text second ∷ []) below (codes ".install" ∷ codes "new" ∷ decimal_text first ∷ [])
    ∙ number_step (bytes_are_equal (decimal_text first) (decimal_text second)) below (other_number first second small also other)

pub kept_apart : (project : List (List ℕ)) (first second : ℕ) (below : List (List ℕ)) → first < 2 ^ 64 → second < 2 ^ 64 → first ≢ second
    → behind (kept_path project first) (kept_path project second ++ below) ≡ None
kept_apart project first second below small also other =
    below_project project (codes ".install" ∷ codes "old" ∷ decimal_text second ∷ []) below (codes ".install" ∷ codes "old" ∷ decimal_text first ∷ [])
    ∙ number_step (bytes_are_equal (decimal_text first) (decimal_text second)) below (other_number first second small also other)

pub staged_not_kept : (project : List (List ℕ)) (first second : ℕ) (below : List (List ℕ)) → behind (staged_path project first) (kept_path project second ++ below) ≡ None
staged_not_kept project first second below =
    below_project project (codes ".install" ∷ codes "old" ∷ decimal_text second ∷ []) below (codes ".install" ∷ codes "new" ∷ decimal_text first ∷ [])

pub kept_not_staged : (project : List (List ℕ)) (first second : ℕ) (below : List (List ℕ)) → behind (kept_path project first) (staged_path project second ++ below) ≡ None
kept_not_staged project first second below =
    below_project project (codes ".install" ∷ codes "new" ∷ decimal_text second ∷ []) below (codes ".install" ∷ codes "old" ∷ decimal_text first ∷ [])

pub journal_not_staged : (project : List (List ℕ)) (number : ℕ) (below : List (List ℕ)) → behind (journal_path project) (staged_path project number ++ below) ≡ None
journal_not_staged project number below =
    below_project project (codes ".install" ∷ codes "new" ∷ decimal_text number ∷ []) below (codes ".install" ∷ codes "journal" ∷ [])

pub staged_not_journal : (project : List (List ℕ)) (number : ℕ) → behind (staged_path project number) (journal_path project) ≡ None
staged_not_journal project number = behind_same_head project (codes ".install" ∷ codes "new" ∷ decimal_text number ∷ []) (codes ".install" ∷ codes "journal" ∷ [])

pub kept_not_journal : (project : List (List ℕ)) (number : ℕ) → behind (kept_path project number) (journal_path project) ≡ None
kept_not_journal project number = behind_same_head project (codes ".install" ∷ codes "old" ∷ decimal_text number ∷ []) (codes ".install" ∷ codes "journal" ∷ [])

pub staged_not_old : (project : List (List ℕ)) (number : ℕ) → behind (staged_path project number) (old_path project) ≡ None
staged_not_old project number = behind_same_head project (codes ".install" ∷ codes "new" ∷ decimal_text number ∷ []) (codes ".install" ∷ codes "old" ∷ [])

pub kept_not_old : (project : List (List ℕ)) (number : ℕ) → behind (kept_path project number) (old_path project) ≡ None
kept_not_old project number = behind_same_head project (codes ".install" ∷ codes "old" ∷ decimal_text number ∷ []) (codes ".install" ∷ codes "old" ∷ [])

-- ---- targets

or_right : (first second : Bool) → second ≡ true → (first || second) ≡ true
or_right true second e = refl
or_right false second e = e

or_left : (first second : Bool) → first ≡ true → (first || second) ≡ true
or_left true second e = refl
or_left false second e = absurd cc

-- at and below a target stands a part of the project
pub target_is_part : (project below : List (List ℕ)) (target : Target) → IsTargetPath target.path → is_project_part project (target_path project target ++ below) ≡ true
unfolding is_project_part
target_is_part project below target is = by is.place
  where
    by : (target.path ≡ lock_target) ⊎ BeginsWith target.path vendor_target
        → (is_within (lock_path project) (target_path project target ++ below) || is_within (vendor_path project) (target_path project target ++ below)) ≡ true
    by (inl lock) = or_left (is_within (lock_path project) (target_path project target ++ below)) (is_within (vendor_path project) (target_path project target ++ below))
        (ap is_some (below_project project target.path below lock_target ∙ ap (λ path. behind lock_target (path ++ below)) lock))
    by (inr vendor) = or_right (is_within (lock_path project) (target_path project target ++ below)) (is_within (vendor_path project) (target_path project target ++ below))
        (ap is_some (below_project project target.path below vendor_target ∙ ap (λ path. behind vendor_target (path ++ below)) vendor.1))

-- what stands in `.install` is at or below no target
pub target_not_work : (project q : List (List ℕ)) (target : Target) → IsTargetPath target.path → is_within (work_path project) q ≡ true → behind (target_path project target) q ≡ None
target_not_work project q target is work = none_unless (behind (target_path project target) q) (λ rest e. never rest (head_behind (target_path project target) q rest e))
  where
    never : (rest : List (List ℕ)) → q ≡ target_path project target ++ rest → ⊥
    never rest e =
        let out = part_is_apart project q (ap (is_project_part project) e ∙ target_is_part project rest target is) in
        cc

-- the project lies outside of `.install`
pub work_not_part : (project at q : List (List ℕ)) → is_within (work_path project) at ≡ true → is_project_part project q ≡ true → behind at q ≡ None
work_not_part project at q work part = outside (work_path project) at q work (part_is_apart project q part)

pub work_not_surroundings : (project at q : List (List ℕ)) → is_within (work_path project) at ≡ true → is_surroundings project q ≡ true → behind at q ≡ None
work_not_surroundings project at q work out = outside (work_path project) at q work (surroundings_are_apart project q out)

pub target_not_surroundings : (project q : List (List ℕ)) (target : Target) → IsTargetPath target.path → is_surroundings project q ≡ true → behind (target_path project target) q ≡ None
unfolding is_surroundings
target_not_surroundings project q target is out = none_unless (behind (target_path project target) q) (λ rest e. never rest (head_behind (target_path project target) q rest e))
  where
    no_part : is_project_part project q ≡ false
    no_part = not-true (is_project_part project q) (both (not (is_project_part project q)) (not (is_within (work_path project) q)) out).0

    never : (rest : List (List ℕ)) → q ≡ target_path project target ++ rest → ⊥
    never rest e =
        let part = ap (is_project_part project) e ∙ target_is_part project rest target is in
        cc

-- one of two paths that both begin a third begins the other
one_begins : (a b x y : List (List ℕ)) → a ++ x ≡ b ++ y → BeginsWith a b ⊎ BeginsWith b a
one_begins [] b x y e = inr (b, refl)
one_begins (s ∷ a) [] x y e = inl (s ∷ a, refl)
one_begins (s ∷ a) (r ∷ b) x y e =
    let first : s ≡ r = cc in
    let more : a ++ x ≡ b ++ y = cc in
    elim (one_begins a b x y more) [
      | inl begins ↦ inl (begins.0, ap (λ p. s ∷ p) begins.1 ∙ ap (λ n. n ∷ (b ++ begins.0)) first)
      | inr begins ↦ inr (begins.0, ap (λ p. r ∷ p) begins.1 ∙ ap (λ n. n ∷ (a ++ begins.0)) (sym first))
    ]

pub targets_apart : (project below : List (List ℕ)) (first second : Target) → AreTargetsApart first second
    → behind (target_path project first) (target_path project second ++ below) ≡ None
targets_apart project below first second apart =
    below_project project second.path below first.path ∙ none_unless (behind first.path (second.path ++ below)) (λ rest e. never rest (head_behind first.path (second.path ++ below) rest e))
  where
    never : (rest : List (List ℕ)) → second.path ++ below ≡ first.path ++ rest → ⊥
    never rest e = elim (one_begins second.path first.path below rest e) [
      | inl begins ↦ apart.not_above begins
      | inr begins ↦ apart.not_below begins
    ]

pub turned : (first second : Target) → AreTargetsApart first second → AreTargetsApart second first
turned first second apart = record { not_below = apart.not_above; not_above = apart.not_below }

-- ---- the folder above a target

pub last_segment : (path parent : List (List ℕ)) → without_last path ≡ Some parent → (last : List (List ℕ)) × (last ≢ []) × (path ≡ parent ++ last)
last_segment [] parent e = absurd cc
last_segment (first ∷ rest) parent e =
    let is : take (length rest) (first ∷ rest) ≡ parent = cc in
    (drop (length rest) (first ∷ rest), some rest (first ∷ rest) refl, sym (take-append-drop (length rest) (first ∷ rest)) ∙ ap (λ p. p ++ drop (length rest) (first ∷ rest)) is)
  where
    some : (rest path : List (List ℕ)) → length path ≡ suc (length rest) → drop (length rest) path ≢ []
    some [] [] len e = omega arith
    some [] (x ∷ xs) len e = cc
    some (y ∷ rest) [] len e = omega arith
    some (y ∷ rest) (x ∷ xs) len e = some rest xs (omega arith) e

-- The folder above a target is at or below no target, not that one either.
pub target_not_parent : (project parent : List (List ℕ)) (first second : Target) → (first ≡ second) ⊎ AreTargetsApart first second
    → without_last (target_path project second) ≡ Some parent → behind (target_path project first) parent ≡ None
target_not_parent project parent first second either above =
    none_unless (behind (target_path project first) parent) (λ rest e. never rest (head_behind (target_path project first) parent rest e) either)
  where
    ends : (last : List (List ℕ)) × (last ≢ []) × (target_path project second ≡ parent ++ last)
    ends = last_segment (target_path project second) parent above

    longer : (last : List (List ℕ)) → last ≢ [] → 0 < length last
    longer [] some = absurd (some refl)
    longer (x ∷ xs) some = omega arith

    begins : (rest : List (List ℕ)) → parent ≡ target_path project first ++ rest → target_path project second ≡ target_path project first ++ (rest ++ ends.0)
    begins rest e = ends.2 ∙ ap (λ p. p ++ ends.0) e ∙ append_assoc (target_path project first) rest ends.0

    never : (rest : List (List ℕ)) → parent ≡ target_path project first ++ rest → (first ≡ second) ⊎ AreTargetsApart first second → ⊥
    never rest e (inl same) =
        let lens = ap length (begins rest e) ∙ length-append (target_path project first) (rest ++ ends.0) in
        let paths : length (target_path project second) ≡ length (target_path project first) = ap (λ t. length (target_path project t)) (sym same) in
        let more = length-append rest ends.0 in
        let some = longer ends.0 ends.1 in
        omega arith
    never rest e (inr apart) =
        let none = targets_apart project [] first second apart in
        let found = ap (behind (target_path project first)) (append-nil (target_path project second) ∙ begins rest e) ∙ behind_head (target_path project first) (rest ++ ends.0) in
        cc

-- The folder above a target is not in `.install`.
pub work_not_parent : (project parent at : List (List ℕ)) (target : Target) → IsTargetPath target.path → is_within (work_path project) at ≡ true
    → without_last (target_path project target) ≡ Some parent → behind at parent ≡ None
work_not_parent project parent at target is work above =
    none_unless (behind at parent) (λ rest e. never rest (head_behind at parent rest e))
  where
    ends : (last : List (List ℕ)) × (last ≢ []) × (target_path project target ≡ parent ++ last)
    ends = last_segment (target_path project target) parent above

    never : (rest : List (List ℕ)) → parent ≡ at ++ rest → ⊥
    never rest e =
        let begins : target_path project target ≡ at ++ (rest ++ ends.0) = ends.2 ∙ ap (λ p. p ++ ends.0) e ∙ append_assoc at rest ends.0 in
        let none = work_not_part project at (target_path project target) work
        (ap (is_project_part project) (sym (append-nil (target_path project target))) ∙ target_is_part project [] target is) in
        let found = ap (behind at) begins ∙ behind_head at (rest ++ ends.0) in
        cc

-- ---- parts by number

pub parts_apart : (targets : List Target) (i j : ℕ) (x y : Target) → AllPairs AreTargetsApart targets → IsPart targets i x → IsPart targets j y → i < j → AreTargetsApart x y
parts_apart targets i j x y apart first second less =
    subst (λ t. AreTargetsApart t y) (get_or_from_slice_get targets i x y first)
    (subst (AreTargetsApart (get_or targets i y)) (get_or_from_slice_get targets j y y second) (apart i j y less (slice_get_within targets j y second)))

pub two_parts_apart : (targets : List Target) (i j : ℕ) (x y : Target) → AllPairs AreTargetsApart targets → IsPart targets i x → IsPart targets j y → i ≢ j → AreTargetsApart x y
two_parts_apart targets i j x y apart first second other = elim (order i j other) [
  | inl less ↦ parts_apart targets i j x y apart first second less
  | inr more ↦ turned y x (parts_apart targets j i y x apart second first more)
]
  where
    order : (i j : ℕ) → i ≢ j → (i < j) ⊎ (j < i)
    order i j other = elim (cases_lt i j) [ inl less ↦ inl less | inr le ↦ inr (omega (arith, other)) ]
