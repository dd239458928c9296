-- What walks find, one part of them after another.
use Rattle.std.proofs.Common.{◌≡◌, ℕ, ◌+◌, Bool, true, false, cond, not, ◌&&◌, filter, List, [], ◌∷◌, ◌++◌, length, Ok, Err, refl, sym, ap, subst, ◌∙◌, append-nil, append_assoc}
use Rattle.std.specs.Prelude.{Result, Option, Some, None, nat_lt}
use Rattle.std.specs.List.{AllByRecursion, enumerate_from, list_all}
use Rattle.path_name.specs.Given.{◌>>=◌}
use Rattle.tree_dev.specs.Trees.{FileTree, entry_at, names_in}
use Rattle.tree_dev.specs.declared.entry.Entry.{Entry}
use Rattle.tree_dev.specs.declared.entry.Entry.TheVariants as entries
use Rattle.tree_dev.specs.declared.limits.TheConstants.{FILE_BYTES}
use Rattle.class_walk.specs.Reached.{tails_in}
use Rattle.class_walk.specs.Walks.{AreScansOf, Search, Source, Walked, absent_walked, class_scan, each_walked, entry_walked, file_walked, folder_listed, is_deep, is_hidden, is_reached, is_scanned, is_skipped, job_walked, jobs_walked, kind_walked, lone_file_walked, read_file, reached, start_walked}
use Rattle.class_walk.specs.declared.fault.WalkFault.{WalkFault}
use Rattle.class_walk.specs.declared.job.Scanned.{Scanned}
use Rattle.class_walk.specs.declared.job.WalkJob.{WalkJob}
use Rattle.class_walk.specs.declared.job.WalkRule.{WalkRule}
use Rattle.class_walk.specs.declared.job.WalkRule.TheVariants as rules
use Rattle.class_walk.specs.declared.pattern.Pattern.{Pattern}
use Rattle.table_scan.specs.declared.types.Mode.TheVariants.{Optimised}
use Rattle.autoload_build.specs.Answers.{AreFound, walks_of}
use Rattle.autoload_build.specs.Jobs.{Project, listed_jobs, patterns_of, row_jobs}
use Rattle.autoload_build.proofs.KeyGroups.{all_append}

-- ---- a step leaves what was found before

-- a file that is there, is not left out, and is scanned
pub record IsFoundFile (t : FileTree) (source : Source) : Type 0 where
  pub there : entry_at t (source.search.job.at ++ source.tail) ≡ Some (entries.File source.bytes)
  pub kept : is_skipped source.search.job.skip (source.search.job.at ++ source.tail) ≡ false
  pub scanned : is_scanned source.search source.tail ≡ true

-- such a file that is found in a walk of which Q holds
abbrev pub IsFoundBy : FileTree → (WalkJob → Type 0) → Source → Type 0
IsFoundBy t Q source = Q source.search.job × IsFoundFile t source

-- what more was found, each with P
abbrev pub Finds : (Source → Type 0) → Walked → Result Walked WalkFault → Type 0
Finds P walked (Ok next) = (more : List Source) × (next.found ≡ walked.found ++ more) × AllByRecursion P more
Finds P walked (Err fault) = Unit {0}

module _ (P : Source → Type 0) where
  stays : (walked : Walked) → Finds P walked (Ok walked)
  stays walked = ([], sym (append-nil walked.found), tt)

  either : (walked : Walked) (b : Bool) (x y : Result Walked WalkFault) → Finds P walked x → Finds P walked y → Finds P walked (cond b x y)
  either walked true x y h k = h
  either walked false x y h k = k

  by_test : (walked : Walked) (b : Bool) (x y : Result Walked WalkFault) → (b ≡ true → Finds P walked x) → (b ≡ false → Finds P walked y) → Finds P walked (cond b x y)
  by_test walked true x y h k = h refl
  by_test walked false x y h k = k refl

  and_then : (walked : Walked) (r : Result Walked WalkFault) (f : Walked → Result Walked WalkFault) → Finds P walked r → ((next : Walked) → Finds P next (f next)) → Finds P walked (r >>= f)
  and_then walked (Err fault) f h k = tt
  and_then walked (Ok next) f h k = by (f next) (k next)
    where
      by : (r : Result Walked WalkFault) → Finds P next r → Finds P walked r
      by (Err fault) later = tt
      by (Ok last) later = (h.0 ++ later.0, later.1 ∙ ap (λ list. list ++ later.0) h.1 ∙ append_assoc walked.found h.0 later.0, all_append P h.0 later.0 h.2 later.2)

kept_pass : {X : Type 0} (test : X → Bool) (xs : List X) → AllByRecursion (λ x. test x ≡ true) (filter test xs)
kept_pass test [] = tt
kept_pass test (x ∷ xs) = by (test x) refl (kept_pass test xs)
  where
    by : (b : Bool) → test x ≡ b → AllByRecursion (λ y. test y ≡ true) (filter test xs) → AllByRecursion (λ y. test y ≡ true) (cond b (x ∷ filter test xs) (filter test xs))
    by true e rest = (e, rest)
    by false e rest = rest

not_skipped : (a b : Bool) → (a && not b) ≡ true → b ≡ false
not_skipped a true e = absurd (none a e)
  where
    none : (c : Bool) → (c && false) ≡ true → ⊥
    none true f = cc
    none false f = cc
not_skipped a false e = refl

reached_kept : (job : WalkJob) (tail : List (List ℕ)) → is_reached job tail ≡ true → is_skipped job.skip (job.at ++ tail) ≡ false
unfolding is_reached
reached_kept job tail e = not_skipped (list_all (λ name. not (is_hidden name)) tail) (is_skipped job.skip (job.at ++ tail)) e

pub all_reached : (t : FileTree) (job : WalkJob) → AllByRecursion (λ tail. is_reached job tail ≡ true) (reached t job)
unfolding reached
all_reached t job = kept_pass (is_reached job) (tails_in t job.at)

module _ (t : FileTree) (Q : WalkJob → Type 0) (search : Search) (q : Q search.job) where
  abbrev pub P : Source → Type 0
  P source = IsFoundBy t Q source

  file_finds : (tail : List (List ℕ)) (bytes : List ℕ) (walked : Walked) → entry_at t (search.job.at ++ tail) ≡ Some (entries.File bytes) → is_skipped search.job.skip (search.job.at ++ tail) ≡ false
      → Finds P walked (file_walked search tail bytes walked)
  file_finds tail bytes walked there kept =
      by_test P walked (is_scanned search tail) (read_file search tail bytes walked) (Ok walked)
      (λ scanned. either P walked (nat_lt FILE_BYTES (length bytes)) _ _ tt (record { search = search; tail = tail; bytes = bytes } ∷ [], refl, ((q, record { there = there; kept = kept; scanned = scanned }), tt)))
      (λ passed. stays P walked)

  listing_finds : (folder : List (List ℕ)) (walked : Walked) → Finds P walked (folder_listed t folder walked)
  unfolding folder_listed
  listing_finds folder walked = either P walked (nat_lt walked.left (length (names_in t folder))) _ _ tt ([], sym (append-nil walked.found), tt)

  kind_finds : (tail : List (List ℕ)) (kind : Option Entry) (walked : Walked) → entry_at t (search.job.at ++ tail) ≡ kind → is_skipped search.job.skip (search.job.at ++ tail) ≡ false → Finds P walked (kind_walked t search tail kind walked)
  kind_finds tail None walked is kept = stays P walked
  kind_finds tail (Some (entries.File bytes)) walked is kept = either P walked (is_deep tail) _ _ tt (file_finds tail bytes walked is kept)
  kind_finds tail (Some entries.Folder) walked is kept = either P walked (is_deep tail) _ _ tt (listing_finds (search.job.at ++ tail) walked)
  kind_finds tail (Some entries.Other) walked is kept = tt

  entry_finds : (tail : List (List ℕ)) (walked : Walked) → is_skipped search.job.skip (search.job.at ++ tail) ≡ false → Finds P walked (entry_walked t search tail walked)
  unfolding entry_walked
  entry_finds tail walked kept = kind_finds tail (entry_at t (search.job.at ++ tail)) walked refl kept

  pub each_finds : (tails : List (List (List ℕ))) (walked : Walked) → AllByRecursion (λ tail. is_reached search.job tail ≡ true) tails → Finds P walked (each_walked t search tails walked)
  each_finds [] walked all = stays P walked
  each_finds (tail ∷ tails) walked all = and_then P walked (entry_walked t search tail walked) (λ next. each_walked t search tails next) (entry_finds tail walked (reached_kept search.job tail all.0)) (λ next. each_finds tails next all.1)

  absent_finds : (rule : WalkRule) (at : List (List ℕ)) (walked : Walked) → Finds P walked (absent_walked rule at walked)
  absent_finds rules.Listed at walked = tt
  absent_finds (rules.Psr4 prefix) at walked = stays P walked
  absent_finds (rules.Psr0 prefix) at walked = stays P walked

  lone_finds : (rule : WalkRule) (bytes : List ℕ) (walked : Walked) → entry_at t (search.job.at ++ []) ≡ Some (entries.File bytes) → is_skipped search.job.skip (search.job.at ++ []) ≡ false → Finds P walked (lone_file_walked rule search bytes walked)
  lone_finds rules.Listed bytes walked there kept = file_finds [] bytes walked there kept
  lone_finds (rules.Psr4 prefix) bytes walked there kept = stays P walked
  lone_finds (rules.Psr0 prefix) bytes walked there kept = stays P walked

  start_finds : (kind : Option Entry) (walked : Walked) → entry_at t search.job.at ≡ kind → is_skipped search.job.skip search.job.at ≡ false → Finds P walked (start_walked t search kind walked)
  start_finds None walked is kept = absent_finds search.job.rule search.job.at walked
  start_finds (Some (entries.File bytes)) walked is kept = lone_finds search.job.rule bytes walked (ap (entry_at t) (append-nil search.job.at) ∙ is) (ap (is_skipped search.job.skip) (append-nil search.job.at) ∙ kept)
  start_finds (Some entries.Folder) walked is kept = and_then P walked (folder_listed t search.job.at walked) (λ next. each_walked t search (reached t search.job) next) (listing_finds search.job.at walked) (λ next. each_finds (reached t search.job) next (all_reached t search.job))
  start_finds (Some entries.Other) walked is kept = tt

  job_finds : (walked : Walked) → Finds P walked (job_walked t search walked)
  unfolding job_walked
  job_finds walked = by_test P walked (is_skipped search.job.skip search.job.at) _ _ (λ left_out. absent_finds search.job.rule search.job.at walked) (λ kept. start_finds (entry_at t search.job.at) walked refl kept)

-- ---- jobs behind others

module _ (t : FileTree) (exclude : List Pattern) where
  pub jobs_find : (Q : WalkJob → Type 0) (jobs : List (ℕ × WalkJob)) (walked : Walked) → AllByRecursion (λ job. Q job.1) jobs → Finds (IsFoundBy t Q) walked (jobs_walked t exclude jobs walked)
  jobs_find Q [] walked h = stays (IsFoundBy t Q) walked
  jobs_find Q (job ∷ jobs) walked h = and_then (IsFoundBy t Q) walked (job_walked t (record { number = job.0; job = job.1; exclude = exclude }) walked) (λ next. jobs_walked t exclude jobs next)
      (job_finds t Q (record { number = job.0; job = job.1; exclude = exclude }) h.0 walked) (λ next. jobs_find Q jobs next h.1)

  in_parts : (first second : List (ℕ × WalkJob)) (walked : Walked) → jobs_walked t exclude (first ++ second) walked ≡ (jobs_walked t exclude first walked >>= λ next. jobs_walked t exclude second next)
  in_parts [] second walked = refl
  in_parts (job ∷ first) second walked = by (job_walked t (record { number = job.0; job = job.1; exclude = exclude }) walked) (λ next. in_parts first second next)
    where
      by : (r : Result Walked WalkFault) → ((next : Walked) → jobs_walked t exclude (first ++ second) next ≡ (jobs_walked t exclude first next >>= λ last. jobs_walked t exclude second last))
          → (r >>= λ next. jobs_walked t exclude (first ++ second) next) ≡ ((r >>= λ next. jobs_walked t exclude first next) >>= λ last. jobs_walked t exclude second last)
      by (Ok next) h = h next
      by (Err fault) h = refl

-- the numbers of a second part go on
numbered : (n : ℕ) (first second : List WalkJob) → (m : ℕ) × (enumerate_from n (first ++ second) ≡ enumerate_from n first ++ enumerate_from m second)
numbered n [] second = (n, refl)
numbered n (job ∷ first) second =
    let rest = numbered (n + 1) first second in
    (rest.0, ap (λ list. (n, job) ∷ list) rest.1)

pub all_numbered : (Q : WalkJob → Type 0) (n : ℕ) (jobs : List WalkJob) → AllByRecursion Q jobs → AllByRecursion (λ (job : ℕ × WalkJob). Q job.1) (enumerate_from n jobs)
all_numbered Q n [] h = tt
all_numbered Q n (job ∷ jobs) h = (h.0, all_numbered Q (n + 1) jobs h.1)

-- ---- what the first part found, and what stands behind it

pub record Parts (t : FileTree) (Q : WalkJob → Type 0) (first second : List WalkJob) (exclude : List Pattern) (left : ℕ) (all : Walked) : Type 0 where
  pub front : Walked
  pub is : class_scan t first exclude left ≡ Ok front
  pub more : List Source
  pub found : all.found ≡ front.found ++ more
  pub each : AllByRecursion (IsFoundBy t Q) more

pub scan_parts : (t : FileTree) (Q : WalkJob → Type 0) (first second : List WalkJob) (exclude : List Pattern) (left : ℕ) (all : Walked) → AllByRecursion Q second → class_scan t (first ++ second) exclude left ≡ Ok all → Parts t Q first second exclude left all
unfolding class_scan
scan_parts t Q first second exclude left all own e = by (jobs_walked t exclude (enumerate_from 0 first) start) refl (sym (ap (λ jobs. jobs_walked t exclude jobs start) numbers.1 ∙ in_parts t exclude (enumerate_from 0 first) (enumerate_from numbers.0 second) start) ∙ e)
  where
    start : Walked
    start = record { found = []; left = left }

    numbers : (m : ℕ) × (enumerate_from 0 (first ++ second) ≡ enumerate_from 0 first ++ enumerate_from m second)
    numbers = numbered 0 first second

    by : (r : Result Walked WalkFault) → jobs_walked t exclude (enumerate_from 0 first) start ≡ r → (r >>= λ next. jobs_walked t exclude (enumerate_from numbers.0 second) next) ≡ Ok all → Parts t Q first second exclude left all
    by (Err fault) f h = absurd cc
    by (Ok front) f h =
        let grown = subst (Finds (IsFoundBy t Q) front) h (jobs_find t exclude Q (enumerate_from numbers.0 second) front (all_numbered Q numbers.0 second own)) in
        record { front = front; is = f; more = grown.0; found = grown.1; each = grown.2 }

pub record Cut (first more : List Source) (found : List Scanned) : Type 0 where
  pub listed : List Scanned
  pub walked : List Scanned
  pub is : found ≡ listed ++ walked
  pub scans : AreScansOf first listed

pub cut : (first more : List Source) (found : List Scanned) → AreScansOf (first ++ more) found → Cut first more found
cut [] more found h = record { listed = []; walked = found; is = refl; scans = tt }
cut (source ∷ first) more [] h = absurd h
cut (source ∷ first) more (scanned ∷ found) h = by (cut first more found h.1)
  where
    by : Cut first more found → Cut (source ∷ first) more (scanned ∷ found)
    by rest = record { listed = scanned ∷ rest.listed; walked = rest.walked; is = ap (λ list. scanned ∷ list) rest.is; scans = (h.0, rest.scans) }

-- what is behind a first part is the scans of the files behind its files
pub later_scans : (first more : List Source) (listed walked : List Scanned) → AreScansOf first listed → AreScansOf (first ++ more) (listed ++ walked) → AreScansOf more walked
later_scans [] more [] walked first all = all
later_scans [] more (scanned ∷ listed) walked first all = absurd first
later_scans (source ∷ sources) more [] walked first all = absurd first
later_scans (source ∷ sources) more (scanned ∷ listed) walked first all = later_scans sources more listed walked first.1 all.1

no_more : (jobs : List WalkJob) → AllByRecursion (λ (job : WalkJob). Unit {0}) jobs
no_more [] = tt
no_more (job ∷ jobs) = (tt, no_more jobs)

pub found_in_parts : (t : FileTree) (p : Project) (left : ℕ) (all : Walked) (found : List Scanned) → walks_of t p Optimised left ≡ Ok all → AreScansOf all.found found
    → (listed : List Scanned) × (walked : List Scanned) × (found ≡ listed ++ walked) × AreFound t p left listed walked
found_in_parts t p left all found e scans = by (scan_parts t (λ (job : WalkJob). Unit {0}) (listed_jobs p) (row_jobs p) (patterns_of p) left all (no_more (row_jobs p)) e)
  where
    by : Parts t (λ (job : WalkJob). Unit {0}) (listed_jobs p) (row_jobs p) (patterns_of p) left all → (listed : List Scanned) × (walked : List Scanned) × (found ≡ listed ++ walked) × AreFound t p left listed walked
    by parts =
        let pieces = cut parts.front.found parts.more found (subst (λ sources. AreScansOf sources found) parts.found scans) in
        (pieces.listed, pieces.walked, pieces.is, record { first = parts.front; all = all; lists = parts.is; listed_files = pieces.scans; walks = e; files = subst (AreScansOf all.found) pieces.is scans })
