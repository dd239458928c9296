-- One part more.
use Rattle.std.proofs.Common.{◌≡◌, ℕ, ◌+◌, ◌<◌, ◌≤◌, ◌^◌, ◌⊎◌, List, [], ◌∷◌, ◌++◌, length, drop, get_or, Some, None, Result, Ok, Err, sym, ap, ◌∙◌, inl, inr, codes, arith}
use Rattle.std.proofs.lemmas.Bool.{cases_lt}
use Rattle.std.proofs.lemmas.List.{at_drop_all, at_drop_more}
use Rattle.std.proofs.lemmas.Option.{get_or_from_slice_get}
use Rattle.std.specs.FinMap as map
use Rattle.std.specs.List.{slice_get}
use Rattle.path_name.specs.Decimals.{decimal_text}
use Rattle.path_name.specs.Given.{◌>>=◌}
use Rattle.tree_dev.specs.Trees.{FileTree, behind}
use Rattle.tree_dev.proofs.Snoc.{not_behind_itself}
use Rattle.stage_job.specs.Checked.{job_checked, part_checked}
use Rattle.stage_job.specs.Jobs.{CanPut, part_entry}
use Rattle.stage_job.specs.Places.{new_path}
use Rattle.stage_job.specs.Staged.{IsFree, Puts}
use Rattle.stage_job.specs.Staging.{PutsParts, place_of}
use Rattle.stage_job.specs.declared.fault.StageFault.{StageFault}
use Rattle.stage_job.specs.declared.job.Part.{Part}
use Rattle.stage_job.proofs.Below.{child_path, folder_above_child, not_below, not_longer, other_child}
use Rattle.stage_job.proofs.Numbers.{other_number}
use Rattle.stage_job.proofs.PartSteps.{AreAlike, part_checks, part_entries, source_apart}

pub parts_alike : (project : List (List ℕ)) (parts : List Part) (count : ℕ) (t m : FileTree) → PutsParts project parts count t m → AreAlike project t m
parts_alike project parts count t m so_far source can = record {
  each = λ below. let apart = source_apart project source (codes "new" ∷ []) can in so_far.elsewhere (source ++ below) (not_below (new_path project) source below (apart.1, apart.0));
}

other_place : (project : List (List ℕ)) (a b : ℕ) (below : List (List ℕ)) → a < 2 ^ 64 → b < 2 ^ 64 → (b ≡ a → ⊥) → behind (place_of project a) (place_of project b ++ below) ≡ None
other_place project a b below small_a small_b other =
    ap (behind (place_of project a)) (child_path (new_path project) (decimal_text b) below)
    ∙ other_child (new_path project) (decimal_text b) (decimal_text a) below (other_number b a small_b small_a other)

same_or_less : (number i : ℕ) → number < i + 1 → (number ≡ i) ⊎ (number < i)
same_or_less number i lt = elim (cases_lt number i) [ inl less ↦ inr less | inr more ↦ inl (omega arith) ]

module _ (project : List (List ℕ)) (parts : List Part) (i : ℕ) (part : Part) (t m : FileTree) (so_far : PutsParts project parts i t m) (small : i < 2 ^ 64) (lt : i < length parts) (is : part ≡ get_or parts i part) where
  pub place_free : IsFree (place_of project i) m
  place_free = record {
    above = folder_above_child m (new_path project) (decimal_text i) so_far.folder;
    none = λ below. so_far.rest i (omega arith) small below;
  }

  module _ (u : FileTree) (can : CanPut project part.from) (puts : Puts (place_of project i) (part_entry m part.from) m u) where
    here : (number : ℕ) (p : Part) → number ≡ i → slice_get parts number ≡ Some p → (below : List (List ℕ)) → map.get u (place_of project number ++ below) ≡ part_entry t p.from below
    here number p same at below =
        let same_part : part ≡ p = is ∙ ap (λ (n : ℕ). get_or parts n part) (sym same) ∙ get_or_from_slice_get parts number p part at in
        ap (λ (n : ℕ). map.get u (place_of project n ++ below)) same ∙ puts.put below
        ∙ part_entries project t m (parts_alike project parts i t m so_far) part.from can below
        ∙ ap (λ (q : Part). part_entry t q.from below) same_part

    before : (number : ℕ) (p : Part) → number < i → slice_get parts number ≡ Some p → (below : List (List ℕ)) → map.get u (place_of project number ++ below) ≡ part_entry t p.from below
    before number p less at below =
        puts.elsewhere (place_of project number ++ below) (other_place project i number below small (omega arith) (λ e. omega arith)) ∙ so_far.staged number p less at below

    pub parts_more : PutsParts project parts (i + 1) t u
    parts_more = record {
      staged = λ number p less at below. elim (same_or_less number i less) [ inl same ↦ here number p same at below | inr earlier ↦ before number p earlier at below ];
      rest = λ number le small_number below. puts.elsewhere (place_of project number ++ below) (other_place project i number below small small_number (λ e. omega arith)) ∙ so_far.rest number (omega arith) small_number below;
      folder = puts.elsewhere (new_path project) (not_behind_itself (new_path project) (decimal_text i)) ∙ so_far.folder;
      elsewhere = λ path out. puts.elsewhere path (not_longer (new_path project) (decimal_text i ∷ []) path out) ∙ so_far.elsewhere path out;
    }

  module _ (before : ℕ) (wanted : Result ℕ StageFault) (can : CanPut project part.from) (so_checked : job_checked project t (drop i parts) before ≡ wanted) where
    wanted_is : wanted ≡ (part_checked m (project ++ part.target) part.from before >>= λ rest. job_checked project t (drop (i + 1) parts) rest)
    unfolding job_checked
    wanted_is =
        sym so_checked ∙ at_drop_more (λ (ps : List Part). job_checked project t ps before) parts i part lt
        ∙ ap (λ (p : Part). job_checked project t (p ∷ drop (i + 1) parts) before) (sym is)
        ∙ ap (λ (r : Result ℕ StageFault). r >>= λ rest. job_checked project t (drop (i + 1) parts) rest)
        (sym (part_checks project t m (parts_alike project parts i t m so_far) (project ++ part.target) part.from before can))

    pub part_checked_more : (after : ℕ) → part_checked m (project ++ part.target) part.from before ≡ Ok after → job_checked project t (drop (i + 1) parts) after ≡ wanted
    part_checked_more after here = sym (wanted_is ∙ ap (λ (r : Result ℕ StageFault). r >>= λ rest. job_checked project t (drop (i + 1) parts) rest) here)

    pub part_checked_fault : (fault : StageFault) → part_checked m (project ++ part.target) part.from before ≡ Err fault → wanted ≡ Err fault
    part_checked_fault fault here = wanted_is ∙ ap (λ (r : Result ℕ StageFault). r >>= λ rest. job_checked project t (drop (i + 1) parts) rest) here

pub all_checked : (project : List (List ℕ)) (t : FileTree) (parts : List Part) (i left : ℕ) (wanted : Result ℕ StageFault) → length parts ≤ i
    → job_checked project t (drop i parts) left ≡ wanted → wanted ≡ Ok left
unfolding job_checked
all_checked project t parts i left wanted le so_checked = sym so_checked ∙ at_drop_all (λ (ps : List Part). job_checked project t ps left) parts i le
