-- How many calls of `write` came: calls one after another, and the items of a list one by one.
use Rattle.std.proofs.Common.{◌≡◌, ℕ, ◌+◌, ◌<◌, ◌≤◌, List, length, drop, get_or, OnOk, Result, Ok, Err, sym, ap, subst, ◌∙◌, arith}
use Rattle.std.proofs.lemmas.List.{at_drop_all}
use Rattle.std.proofs.lemmas.List.Sums.{sum_by-drop_more}
use Rattle.std.specs.Prelude.{sum_by}
use Rattle.std.specs.Result.{IsErrAnd}
use Rattle.tree_dev.specs.Device.{next}
use Rattle.stage_job.specs.Written.{Writes, after_more}
use Rattle.stage_job.specs.declared.fault.StageFault.{StageFault}

-- ---- one call after another

-- the call came after others, of which none wrote
pub writes_then : {X : Type 0} (r : Result X StageFault) (files : ℕ) (a b d : ℕ) → b ≡ a → Writes files b d r → Writes files a d r
writes_then (Ok x) files a b d none writes = omega (arith, none, writes)
writes_then (Err fault) files a b d none writes = omega (arith, none, writes)

-- the call that is passed on wrote no more than this
pub refused_writes : {X : Type 0} (r : Result X StageFault) (P : StageFault → Type 0) (files : ℕ) (a d : ℕ) → IsErrAnd r P → d ≤ after_more a files
    → Writes files a d r
refused_writes (Ok x) P files a d is le = absurd is
refused_writes (Err fault) P files a d is le = le

-- nothing was written, and the call is refused
pub none_writes : {X : Type 0} (r : Result X StageFault) (P : StageFault → Type 0) (files : ℕ) (a d : ℕ) → IsErrAnd r P → d ≡ a → Writes files a d r
none_writes r P files a d is none = refused_writes r P files a d is (omega (arith, none))

-- no call that is Ok was made, and nothing was written
pub lost_writes : {X : Type 0} (r : Result X StageFault) (files : ℕ) (a d : ℕ) → OnOk r ⊥ → d ≡ a → Writes files a d r
lost_writes (Ok x) files a d never none = absurd never
lost_writes (Err fault) files a d never none = omega (arith, none)

-- one file was put
pub file_writes : {X : Type 0} (r : Result X StageFault) (a b d : ℕ) → b ≡ a → d ≡ next b → Writes 1 a d r
file_writes (Ok x) a b d none one = omega (arith, none, one)
file_writes (Err fault) a b d none one = omega (arith, none, one)

-- so many files are as many
pub writes_same : {X : Type 0} (r : Result X StageFault) (files other : ℕ) (a d : ℕ) → files ≡ other → Writes files a d r → Writes other a d r
writes_same {X} r files other a d same writes = subst (λ (n : ℕ). Writes {X = X} n a d r) same writes

-- ---- the items of a list

module _ {X : Type 0} (f : X → ℕ) (xs : List X) (i : ℕ) (x : X) (a b : ℕ) (lt : i < length xs) (is : x ≡ get_or xs i x)
    (so_far : after_more b (sum_by f (drop i xs)) ≡ after_more a (sum_by f xs)) where
  split : sum_by f (drop i xs) ≡ f x + sum_by f (drop (i + 1) xs)
  split = sum_by-drop_more f xs i x lt ∙ ap (λ (y : X). f y + sum_by f (drop (i + 1) xs)) (sym is)

  pub item_written : (d files : ℕ) → files ≡ f x → d ≡ after_more b files → after_more d (sum_by f (drop (i + 1) xs)) ≡ after_more a (sum_by f xs)
  item_written d files same here = omega (arith, split, so_far, same, here)

  pub item_refused : (d files : ℕ) → files ≡ f x → d ≤ after_more b files → d ≤ after_more a (sum_by f xs)
  item_refused d files same here = omega (arith, split, so_far, same, here)

pub some_written : {X : Type 0} (f : X → ℕ) (xs : List X) (i a b : ℕ) → after_more b (sum_by f (drop i xs)) ≡ after_more a (sum_by f xs) → b ≤ after_more a (sum_by f xs)
some_written f xs i a b so_far = omega (arith, so_far)

pub all_written : {X : Type 0} (f : X → ℕ) (xs : List X) (i a b : ℕ) → length xs ≤ i → after_more b (sum_by f (drop i xs)) ≡ after_more a (sum_by f xs)
    → b ≡ after_more a (sum_by f xs)
all_written f xs i a b le so_far = let none = at_drop_all (sum_by f) xs i le in omega (arith, none, so_far)

-- ---- a job between calls that write nothing

-- before it
pub files_no_more : (a b d files other : ℕ) → files ≡ other → b ≡ a → d ≤ after_more b files → d ≤ after_more a other
files_no_more a b d files other same none le = omega (arith, same, none, le)

-- before and after it
pub files_all : (a b d e files other : ℕ) → files ≡ other → b ≡ a → d ≡ after_more b files → e ≡ d → (e ≡ after_more a other) × (e ≤ after_more a other)
files_all a b d e files other same none all after = (omega (arith, same, none, all, after), omega (arith, same, none, all, after))
