-- The job, by what was searched.
use Rattle.std.proofs.Common.{◌≡◌, ◌⊎◌, ℕ, ◌+◌, ◌-◌, ◌<◌, ◌≤◌, Bool, true, false, ◌||◌, cond, List, [], ◌∷◌, ◌++◌, map, Some, None, Result, Ok, Err, refl, sym, ap, ◌∙◌, inl, inr, arith, codes, nat_lt}
use Rattle.std.proofs.lemmas.Bool.Decides.{nat_tests}
use Rattle.std.specs.BTreeSet.{contains}
use Rattle.std.specs.Str.{chars, is_utf8}
use Rattle.path_name.specs.Given.{◌>>=◌}
use Rattle.path_name.specs.Orders.{path_cmp}
use Rattle.path_name.specs.Paths.{is_segment}
use Rattle.tree_dev.specs.Trees.{FileTree}
use Rattle.tree_dev.specs.declared.limits.LimitKind.TheVariants as limits
use Rattle.stage_job.specs.Checked.{job_checked}
use Rattle.stage_job.specs.Faults.{Answers, is_vanished}
use Rattle.stage_job.specs.declared.fault.StageFault.{StageFault}
use Rattle.stage_job.specs.declared.fault.StageFault.TheVariants as faults
use Rattle.stage_job.specs.declared.job.Part.{Part}
use Rattle.stage_job.proofs.NeverVanishes.{job_stands}
use Rattle.package_moves.specs.Beside.{AreCounted}
use Rattle.package_moves.specs.Counted.{counted_off, targets_count}
use Rattle.package_moves.specs.Found.{AreStanding, IsFoundIn}
use Rattle.package_moves.specs.Joined.{left_outside, left_parts, vendor_part}
use Rattle.package_moves.specs.Moves.{IsJobFor, is_in_way, moves_checked}
use Rattle.package_moves.specs.Needed.{gone_part, needs_of, vendor_count}
use Rattle.package_moves.specs.declared.counts.Counts.{Counts}
use Rattle.package_moves.specs.declared.unneeded.Found.{Found}
use Rattle.package_moves.proofs.SameNeeds.{left_same}

less_true : (m n : ℕ) → m < n → nat_lt m n ≡ true
less_true m n lt = grind (arith, nat_tests)

not_less : (m n : ℕ) → nat_lt m n ≡ false → n ≤ m
not_less m n e = grind (arith, nat_tests)

is_less : (m n : ℕ) → nat_lt m n ≡ true → m < n
is_less m n e = grind (arith, nat_tests)

module _ (project : List (List ℕ)) (t : FileTree) (wanted : List Part) (left : ℕ) (a b : Counts) (starts : a.targets ≡ 0) (none : a.passed ≡ false) (here : job_checked project t wanted left ≡ Ok b.left.left)
    (counted : AreCounted (targets_count project t wanted + vendor_count (needs_of wanted) project t) a b) where
  total : ℕ
  total = targets_count project t wanted + vendor_count (needs_of wanted) project t

  whole : moves_checked project t wanted left ≡ counted_off (targets_count project t wanted + vendor_count (needs_of wanted) project t) b.left.left
  unfolding moves_checked
  whole = ap (λ (r : Result ℕ StageFault). r >>= λ rest. counted_off (targets_count project t wanted + vendor_count (needs_of wanted) project t) rest) here

  over : b.left.left < targets_count project t wanted + vendor_count (needs_of wanted) project t → moves_checked project t wanted left ≡ Err (faults.Limit limits.Entries)
  over lt =
      whole ∙ ap (λ (c : Bool). cond c (Err (faults.Limit limits.Entries)) (Ok (b.left.left - (targets_count project t wanted + vendor_count (needs_of wanted) project t))))
      (less_true b.left.left (targets_count project t wanted + vendor_count (needs_of wanted) project t) lt)

  over_by : (a.passed ≡ true) ⊎ (b.left.left < a.targets + (targets_count project t wanted + vendor_count (needs_of wanted) project t)) → moves_checked project t wanted left ≡ Err (faults.Limit limits.Entries)
  over_by (inl e) = absurd cc
  over_by (inr lt) = over (omega (arith, lt, starts))

  stops_by : (passed less : Bool) → b.passed ≡ passed → nat_lt b.left.left b.targets ≡ less → None ≡ cond (passed || less) None (Some (b.left.left - b.targets)) → moves_checked project t wanted left ≡ Err (faults.Limit limits.Entries)
  stops_by true less e l is = over_by (counted.many e)
  stops_by false true e l is = over (let exact = counted.exact e in let lt = is_less b.left.left b.targets l in omega (arith, exact, lt, starts))
  stops_by false false e l is = absurd cc

  -- too many were to be listed
  pub stops : None ≡ cond (b.passed || nat_lt b.left.left b.targets) None (Some (b.left.left - b.targets)) → moves_checked project t wanted left ≡ Err (faults.Limit limits.Entries)
  stops is = stops_by b.passed (nat_lt b.left.left b.targets) refl refl is

  goes_by : (rest : ℕ) (passed less : Bool) → b.passed ≡ passed → nat_lt b.left.left b.targets ≡ less → Some rest ≡ cond (passed || less) None (Some (b.left.left - b.targets))
      → (b.passed ≡ false) × (moves_checked project t wanted left ≡ Ok rest)
  goes_by rest true less e l is = absurd cc
  goes_by rest false true e l is = absurd cc
  goes_by rest false false e l is = (
    e,
    (let exact : b.targets ≡ targets_count project t wanted + vendor_count (needs_of wanted) project t = (let x = counted.exact e in omega (arith, x, starts)) in
        let same : rest ≡ b.left.left - b.targets = cc in
        whole ∙ ap (λ (n : ℕ). counted_off n b.left.left) (sym exact)
        ∙ ap (λ (c : Bool). cond c (Err (faults.Limit limits.Entries)) (Ok (b.left.left - b.targets))) l ∙ ap (λ (n : ℕ). Ok n) (sym same)),
  )

  -- so many may still be listed
  pub goes : (rest : ℕ) → Some rest ≡ cond (b.passed || nat_lt b.left.left b.targets) None (Some (b.left.left - b.targets)) → (b.passed ≡ false) × (moves_checked project t wanted left ≡ Ok rest)
  goes rest is = goes_by rest b.passed (nat_lt b.left.left b.targets) refl refl is

-- a source is refused
pub source_refused : (project : List (List ℕ)) (t : FileTree) (wanted : List Part) (left : ℕ) (fault : StageFault) → job_checked project t wanted left ≡ Err fault → moves_checked project t wanted left ≡ Err fault
unfolding moves_checked
source_refused project t wanted left fault is =
    ap (λ (r : Result ℕ StageFault). r >>= λ rest. counted_off (targets_count project t wanted + vendor_count (needs_of wanted) project t) rest) is

-- ---- nothing vanishes

off_stands : (count left : ℕ) → is_vanished (counted_off count left) ≡ false
off_stands count left = by (nat_lt left count)
  where
    by : (b : Bool) → is_vanished (cond b (Err (faults.Limit limits.Entries)) (Ok (left - count))) ≡ false
    by true = refl
    by false = refl

bind_stands : (r : Result ℕ StageFault) (count : ℕ) → is_vanished r ≡ false → is_vanished (r >>= λ rest. counted_off count rest) ≡ false
bind_stands (Ok n) count e = off_stands count n
bind_stands (Err fault) count e = e

moves_stand : (project : List (List ℕ)) (t : FileTree) (wanted : List Part) (left : ℕ) → is_vanished (moves_checked project t wanted left) ≡ false
unfolding moves_checked
moves_stand project t wanted left =
    bind_stands (job_checked project t wanted left) (targets_count project t wanted + vendor_count (needs_of wanted) project t) (job_stands project t wanted left)

never_by : {X : Type 0} (whole : Result ℕ StageFault) (left : ℕ) (r : Result X StageFault) → is_vanished whole ≡ false → Answers whole left r → is_vanished r ≡ false
never_by whole left (Ok x) stands answers = refl
never_by whole left (Err faults.DeviceFault) stands answers = refl
never_by whole left (Err faults.OutOfMemory) stands answers = refl
never_by whole left (Err (faults.MissingPath text)) stands answers = refl
never_by whole left (Err (faults.OtherEntry path)) stands answers = refl
never_by whole left (Err (faults.Limit kind)) stands answers = refl
never_by whole left (Err (faults.Vanished path)) stands answers = absurd (let is : is_vanished whole ≡ true = ap is_vanished answers in cc)

pub never : {X : Type 0} (project : List (List ℕ)) (t : FileTree) (wanted : List Part) (left after : ℕ) (r : Result X StageFault) → Answers (moves_checked project t wanted left) after r → is_vanished r ≡ false
never project t wanted left after r answers = never_by (moves_checked project t wanted left) after r (moves_stand project t wanted left) answers

-- ---- the job

pub job_for : (project : List (List ℕ)) (t : FileTree) (wanted : List Part) (flags : List Bool) (found : Found) (parts : List Part) → AreStanding project t wanted flags → IsFoundIn (needs_of wanted) project t found
    → parts ≡ cond found.no_folder (vendor_part wanted ∷ left_outside wanted flags) (left_parts (contains path_cmp found.blocked) wanted flags ++ map gone_part found.unneeded.items)
    → IsJobFor project t wanted parts
job_for project t wanted flags found parts standing is parts_are = by found.no_folder refl
  where
    by : (b : Bool) → found.no_folder ≡ b → IsJobFor project t wanted parts
    by true e = inl (record {
      no_folder = sym is.vendor ∙ e;
      flags = flags;
      are_standing = standing;
      parts_are = parts_are ∙ ap (λ (b : Bool). cond b (vendor_part wanted ∷ left_outside wanted flags) (left_parts (contains path_cmp found.blocked) wanted flags ++ map gone_part found.unneeded.items)) e;
    })
    by false e = inr (record {
      folder = sym is.vendor ∙ e;
      flags = flags;
      are_standing = standing;
      parts_are =
          parts_are ∙ ap (λ (b : Bool). cond b (vendor_part wanted ∷ left_outside wanted flags) (left_parts (contains path_cmp found.blocked) wanted flags ++ map gone_part found.unneeded.items)) e
          ∙ ap (λ (xs : List Part). xs ++ map gone_part found.unneeded.items) (left_same (contains path_cmp found.blocked) (is_in_way project t wanted) is.in_way wanted [] wanted flags)
          ∙ ap (λ (paths : List (List (List ℕ))). left_parts (is_in_way project t wanted) wanted flags ++ map gone_part paths) is.gone;
    })

-- ---- `vendor` is a segment

pub vendor_segment : is_segment (codes "vendor") ≡ true
unfolding is_utf8 chars lib.Utf8.encode
vendor_segment = refl
