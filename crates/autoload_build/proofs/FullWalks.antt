-- A walk that ends well has found each file that it scans.
use Rattle.std.proofs.Common.{◌≡◌, ℕ, ◌+◌, Bool, true, false, cond, List, [], ◌∷◌, ◌++◌, length, Option, Some, None, Ok, Err, inl, inr, refl, sym, ap, ◌∙◌, subst, append_assoc}
use Rattle.std.specs.Prelude.{Result, nat_lt, ◌||◌, ◌&&◌, is_some, not}
use Rattle.std.specs.List.{AllByRecursion, cons_option, enumerate_from, filter_map, list_all, list_any}
use Rattle.std.specs.FinMap.{contains_key, contains_key-keys, get, keys}
use Rattle.path_name.specs.Given.{◌>>=◌}
use Rattle.path_name.specs.Paths.{without_last}
use Rattle.tree_dev.specs.Changes.{is_root}
use Rattle.tree_dev.specs.Projects.{is_within}
use Rattle.tree_dev.specs.Trees.{FileTree, IsTree, behind, entry_at, has_folder, is_folder}
use Rattle.tree_dev.specs.declared.entry.Entry.{Entry}
use Rattle.tree_dev.specs.declared.entry.Entry.TheVariants as entries
use Rattle.tree_dev.specs.declared.limits.TheConstants.{FILE_BYTES}
use Rattle.tree_dev.proofs.Behind.{behind_head}
use Rattle.tree_dev.proofs.Carried.{free_below}
use Rattle.tree_dev.proofs.SamePaths.{is_same, same_path}
use Rattle.tree_dev.proofs.Snoc.{behind_longer, without_last-snoc}
use Rattle.class_paths.proofs.Members.{Member, filter_member}
use Rattle.class_walk.specs.Reached.{filled, tail_below, tails_in}
use Rattle.class_walk.specs.Walks.{Search, Source, Walked, absent_walked, each_walked, entry_walked, file_walked, folder_listed, is_deep, is_hidden, is_reached, is_scanned, is_skipped, job_walked, jobs_walked, kind_walked, reached, read_file, start_walked}
use Rattle.class_walk.specs.declared.fault.WalkFault.{WalkFault}
use Rattle.class_walk.specs.declared.job.WalkJob.{WalkJob}
use Rattle.class_walk.specs.declared.pattern.Pattern.{Pattern}
use Rattle.autoload_build.proofs.ListMembers.{member_behind, member_front}
use Rattle.autoload_build.proofs.WalkedParts.{Finds, IsFoundBy, all_numbered, all_reached, each_finds, jobs_find}

-- ---- what stands below a folder of a tree

tail_of_key : (at tail : List (List ℕ)) (first : List ℕ) (paths : List (List (List ℕ))) → Member (at ++ first ∷ tail) paths → Member (first ∷ tail) (filter_map (tail_below at) paths)
tail_of_key at tail first [] there = absurd there
tail_of_key at tail first (path ∷ paths) (inl same) =
    subst (λ o. Member (first ∷ tail) (cons_option o (filter_map (tail_below at) paths))) (sym (ap (tail_below at) same ∙ ap filled (behind_head at (first ∷ tail)))) (inl refl)
tail_of_key at tail first (path ∷ paths) (inr later) = by (tail_below at path) (tail_of_key at tail first paths later)
  where
    by : (o : Option (List (List ℕ))) → Member (first ∷ tail) (filter_map (tail_below at) paths) → Member (first ∷ tail) (cons_option o (filter_map (tail_below at) paths))
    by None rest = rest
    by (Some other) rest = inr rest

same_member : (path : List (List ℕ)) (paths : List (List (List ℕ))) → list_any (is_same path) paths ≡ true → Member path paths
same_member path [] e = absurd cc
same_member path (other ∷ paths) e = by (is_same path other) refl e (λ later. same_member path paths later)
  where
    by : (b : Bool) → is_same path other ≡ b → (b || list_any (is_same path) paths) ≡ true → (list_any (is_same path) paths ≡ true → Member path paths) → Member path (other ∷ paths)
    by true same some rest = inl (sym (same_path path other same))
    by false same some rest = inr (rest some)

tail_in : (t : FileTree) (at tail : List (List ℕ)) (first : List ℕ) → contains_key t (at ++ first ∷ tail) ≡ true → Member (first ∷ tail) (tails_in t at)
unfolding tails_in
tail_in t at tail first has = tail_of_key at tail first (keys t) (same_member (at ++ first ∷ tail) (keys t) (sym (contains_key-keys t (at ++ first ∷ tail)) ∙ has))

not_root : (at : List (List ℕ)) (first : List ℕ) → is_root (at ++ first ∷ []) ≡ false
not_root [] first = refl
not_root (segment ∷ at) first = refl

-- the first entry on the way to one below a folder
first_there : (t : FileTree) (at tail : List (List ℕ)) (first : List ℕ) → IsTree t → contains_key t (at ++ first ∷ tail) ≡ true → contains_key t (at ++ first ∷ []) ≡ true
first_there t at tail first tree has = by (get t (at ++ first ∷ [])) refl
  where
    by : (entry : Option Entry) → get t (at ++ first ∷ []) ≡ entry → is_some entry ≡ true
    by (Some entry) e = refl
    by None e =
        let none : get t (at ++ first ∷ tail) ≡ None = ap (get t) (sym (append_assoc at (first ∷ []) tail)) ∙ free_below t (at ++ first ∷ []) tree (not_root at first) e tail in
        sym (ap is_some none) ∙ has

is_folder_at : (entry : Option Entry) → is_folder entry ≡ true → entry ≡ Some entries.Folder
is_folder_at None e = absurd cc
is_folder_at (Some (entries.File bytes)) e = absurd cc
is_folder_at (Some entries.Folder) e = refl
is_folder_at (Some entries.Other) e = absurd cc

folder_above : (t : FileTree) (at tail : List (List ℕ)) (first : List ℕ) → IsTree t → contains_key t (at ++ first ∷ tail) ≡ true → entry_at t at ≡ Some entries.Folder
folder_above t at tail first tree has =
    let above : has_folder t (without_last (at ++ first ∷ [])) ≡ true = tree.below_folders (at ++ first ∷ []) (first_there t at tail first tree has) in
    is_folder_at (entry_at t at) (ap (has_folder t) (sym (without_last-snoc at first)) ∙ above)

in_map : (t : FileTree) (at tail : List (List ℕ)) (first : List ℕ) (entry : Entry) → entry_at t (at ++ first ∷ tail) ≡ Some entry → contains_key t (at ++ first ∷ tail) ≡ true
in_map t [] tail first entry e = ap is_some e
in_map t (segment ∷ at) tail first entry e = ap is_some e

-- ---- what is not skipped

not_within : (head at tail : List (List ℕ)) → is_within head (at ++ tail) ≡ false → is_within head at ≡ false
not_within head at tail e = by (behind head at) refl
  where
    by : (o : Option (List (List ℕ))) → behind head at ≡ o → is_some o ≡ false
    by None f = refl
    by (Some rest) f = sym (ap is_some (behind_longer head at rest tail f)) ∙ e

both_not : (a b : Bool) → (a || b) ≡ false → (a ≡ false) × (b ≡ false)
both_not true b e = absurd cc
both_not false b e = (refl, e)

neither : (a b : Bool) → a ≡ false → b ≡ false → (a || b) ≡ false
neither true b e f = e
neither false b e f = f

start_kept : (skip : List (List (List ℕ))) (at tail : List (List ℕ)) → is_skipped skip (at ++ tail) ≡ false → is_skipped skip at ≡ false
start_kept [] at tail e = refl
start_kept (head ∷ skip) at tail e =
    let both = both_not (is_within head (at ++ tail)) (is_skipped skip (at ++ tail)) e in
    neither (is_within head at) (is_skipped skip at) (not_within head at tail both.0) (start_kept skip at tail both.1)

pub both_hold : (a b : Bool) → a ≡ true → b ≡ false → (a && not b) ≡ true
both_hold true true e f = sym f
both_hold true false e f = refl
both_hold false b e f = e

-- ---- one walk

-- a file is among those that were found, if all went well
abbrev pub Has : Source → Result Walked WalkFault → Type 0
Has source (Ok next) = Member source next.found
Has source (Err fault) = Unit {0}

module _ (source : Source) where
  kept_has : (P : Source → Type 0) (walked : Walked) (r : Result Walked WalkFault) → Finds P walked r → Member source walked.found → Has source r
  kept_has P walked (Err fault) finds there = tt
  kept_has P walked (Ok next) finds there = subst (Member source) (sym finds.1) (member_front source walked.found finds.0 there)

  then_has : (r : Result Walked WalkFault) (f : Walked → Result Walked WalkFault) → ((next : Walked) → Has source (f next)) → Has source (r >>= f)
  then_has (Err fault) f k = tt
  then_has (Ok next) f k = k next

  goes_on : (r : Result Walked WalkFault) (f : Walked → Result Walked WalkFault) → Has source r → ((next : Walked) → Member source next.found → Has source (f next)) → Has source (r >>= f)
  goes_on (Err fault) f h k = tt
  goes_on (Ok next) f h k = k next h

  either_has : (b : Bool) (x y : Result Walked WalkFault) → Has source x → Has source y → Has source (cond b x y)
  either_has true x y h k = h
  either_has false x y h k = k

abbrev pub Any : WalkJob → Type 0
Any job = Unit {0}

module _ (t : FileTree) (search : Search) (tail : List (List ℕ)) (bytes : List ℕ) (there : entry_at t (search.job.at ++ tail) ≡ Some (entries.File bytes)) (scanned : is_scanned search tail ≡ true) where
  abbrev wanted : Source
  wanted = record { search = search; tail = tail; bytes = bytes }

  entry_has : (walked : Walked) → Has wanted (entry_walked t search tail walked)
  unfolding entry_walked
  entry_has walked = subst (λ entry. Has wanted (kind_walked t search tail entry walked)) (sym there)
      (either_has wanted (is_deep tail) _ (file_walked search tail bytes walked) tt
      (subst (λ b. Has wanted (cond b (read_file search tail bytes walked) (Ok walked))) (sym scanned)
      (either_has wanted (nat_lt FILE_BYTES (length bytes)) _ _ tt (member_behind wanted walked.found (wanted ∷ []) (inl refl)))))

  each_has : (tails : List (List (List ℕ))) (walked : Walked) → AllByRecursion (λ other. is_reached search.job other ≡ true) tails → Member tail tails → Has wanted (each_walked t search tails walked)
  each_has [] walked all among = absurd among
  each_has (other ∷ tails) walked all (inl same) = goes_on wanted (entry_walked t search other walked) (λ next. each_walked t search tails next)
      (subst (λ one. Has wanted (entry_walked t search one walked)) (sym same) (entry_has walked))
      (λ next found. kept_has wanted (IsFoundBy t Any) next (each_walked t search tails next) (each_finds t Any search tt tails next all.1) found)
  each_has (other ∷ tails) walked all (inr later) = then_has wanted (entry_walked t search other walked) (λ next. each_walked t search tails next) (λ next. each_has tails next all.1 later)

  job_has : is_skipped search.job.skip search.job.at ≡ false → entry_at t search.job.at ≡ Some entries.Folder → Member tail (reached t search.job) → (walked : Walked) → Has wanted (job_walked t search walked)
  unfolding job_walked
  job_has kept folder among walked = subst (λ b. Has wanted (cond b (absent_walked search.job.rule search.job.at walked) (start_walked t search (entry_at t search.job.at) walked))) (sym kept)
      (subst (λ entry. Has wanted (start_walked t search entry walked)) (sym folder)
      (then_has wanted (folder_listed t search.job.at walked) (λ next. each_walked t search (reached t search.job) next) (λ next. each_has (reached t search.job) next (all_reached t search.job) among)))

-- ---- a file that a walk scans

-- it is below the walk's folder, and no name on the way is hidden
pub record IsScannedFile (t : FileTree) (exclude : List Pattern) (job : WalkJob) (tail : List (List ℕ)) (bytes : List ℕ) : Type 0 where
  pub first : List ℕ
  pub rest : List (List ℕ)
  pub below : tail ≡ first ∷ rest
  pub there : entry_at t (job.at ++ tail) ≡ Some (entries.File bytes)
  pub kept : is_skipped job.skip (job.at ++ tail) ≡ false
  pub shown : list_all (λ name. not (is_hidden name)) tail ≡ true
  pub scanned : (number : ℕ) → is_scanned (record { number = number; job = job; exclude = exclude }) tail ≡ true

module _ (t : FileTree) (tree : IsTree t) (exclude : List Pattern) (job : WalkJob) (tail : List (List ℕ)) (bytes : List ℕ) (file : IsScannedFile t exclude job tail bytes) where
  abbrev pub source_at : ℕ → Source
  source_at number = record { search = record { number = number; job = job; exclude = exclude }; tail = tail; bytes = bytes }

  has_key : contains_key t (job.at ++ file.first ∷ file.rest) ≡ true
  has_key = in_map t job.at file.rest file.first (entries.File bytes) (ap (λ below. entry_at t (job.at ++ below)) (sym file.below) ∙ file.there)

  is_among : Member tail (reached t job)
  unfolding reached is_reached
  is_among = filter_member (is_reached job) (tails_in t job.at) tail (subst (λ below. Member below (tails_in t job.at)) (sym file.below) (tail_in t job.at file.rest file.first has_key))
      (both_hold (list_all (λ name. not (is_hidden name)) tail) (is_skipped job.skip (job.at ++ tail)) file.shown file.kept)

  own_walk : (number : ℕ) (walked : Walked) → Has (source_at number) (job_walked t (record { number = number; job = job; exclude = exclude }) walked)
  own_walk number walked = job_has t (record { number = number; job = job; exclude = exclude }) tail bytes file.there (file.scanned number) (start_kept job.skip job.at tail file.kept) (folder_above t job.at file.rest file.first tree has_key) is_among walked

  -- it was found, by some walk
  abbrev pub IsIn : Result Walked WalkFault → Type 0
  IsIn (Ok next) = (number : ℕ) × Member (source_at number) next.found
  IsIn (Err fault) = Unit {0}

  some_walk : (number : ℕ) (r : Result Walked WalkFault) → Has (source_at number) r → IsIn r
  some_walk number (Ok next) h = (number, h)
  some_walk number (Err fault) h = tt

  then_in : (r : Result Walked WalkFault) (f : Walked → Result Walked WalkFault) → ((next : Walked) → IsIn (f next)) → IsIn (r >>= f)
  then_in (Err fault) f k = tt
  then_in (Ok next) f k = k next

  any_jobs : (jobs : List WalkJob) → AllByRecursion Any jobs
  any_jobs [] = tt
  any_jobs (one ∷ jobs) = (tt, any_jobs jobs)

  pub jobs_have : (number : ℕ) (jobs : List WalkJob) (walked : Walked) → Member job jobs → IsIn (jobs_walked t exclude (enumerate_from number jobs) walked)
  jobs_have number [] walked among = absurd among
  jobs_have number (one ∷ jobs) walked (inl same) =
      let later = λ (next : Walked). jobs_walked t exclude (enumerate_from (number + 1) jobs) next in
      some_walk number (job_walked t (record { number = number; job = one; exclude = exclude }) walked >>= later)
      (goes_on (source_at number) (job_walked t (record { number = number; job = one; exclude = exclude }) walked) later
      (subst (λ w. Has (source_at number) (job_walked t (record { number = number; job = w; exclude = exclude }) walked)) (sym same) (own_walk number walked))
      (λ next found. kept_has (source_at number) (IsFoundBy t Any) next (later next) (jobs_find t exclude Any (enumerate_from (number + 1) jobs) next (all_numbered Any (number + 1) jobs (any_jobs jobs))) found))
  jobs_have number (one ∷ jobs) walked (inr among) = then_in (job_walked t (record { number = number; job = one; exclude = exclude }) walked) (λ next. jobs_walked t exclude (enumerate_from (number + 1) jobs) next) (λ next. jobs_have (number + 1) jobs next among)
