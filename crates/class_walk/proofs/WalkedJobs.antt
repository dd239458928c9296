-- What walking a job gives, and all jobs.
use Rattle.std.proofs.Common.{◌≡◌, ℕ, ◌+◌, ◌<◌, true, false, List, [], ◌∷◌, length, drop, get_or, Option, Some, is_some, Result, Ok, Err, refl, sym, ap, subst, ◌∙◌, append-nil, arith}
use Rattle.std.specs.Prelude.{MatchResult, Vec}
use Rattle.std.specs.Result.{IsErrAnd}
use Rattle.std.specs.declared.alloc.Global.{Global}
use Rattle.std.specs.List.{enumerate_from}
use Rattle.std.proofs.lemmas.List.{drop_more, drop_all}
use Rattle.path_name.specs.Given.{◌>>=◌}
use Rattle.tree_dev.specs.Changes.{is_file}
use Rattle.tree_dev.specs.Trees.{FileTree, entry_at}
use Rattle.tree_dev.specs.declared.entry.Entry.{Entry}
use Rattle.tree_dev.specs.declared.entry.Entry.TheVariants as entries
use Rattle.class_walk.specs.Faults.{Answers, Refuses, Tells, Ends, Goes}
use Rattle.class_walk.specs.Walks.{Search, Walked, absent_walked, is_reached, is_skipped, job_walked, jobs_walked, lone_file_walked, start_walked}
use Rattle.class_walk.specs.Searches.{IsNoFile, folder_goes}
use Rattle.class_walk.specs.declared.fault.WalkFault.{WalkFault}
use Rattle.class_walk.specs.declared.fault.WalkFault.TheVariants as faults
use Rattle.class_walk.specs.declared.job.Scanned.{Scanned}
use Rattle.class_walk.specs.declared.job.WalkJob.{WalkJob}
use Rattle.class_walk.specs.declared.pattern.Pattern.{Pattern}
use Rattle.class_walk.proofs.ReachedPaths.{reached_at_start}
use Rattle.class_walk.proofs.Steps.{goes_same, refuses_on}

-- ---- one job

pub absent_ends : (X : Type 0) (wanted : Result Walked WalkFault) (found : List Scanned) (left : ℕ) (walked : Walked) (r : Result X WalkFault) → MatchResult r (λ _. wanted ≡ Ok walked) (λ fault. Refuses fault wanted) → Tells walked found left → Ends wanted found left r
absent_ends X wanted found left walked (Ok x) is tells = (walked, is, tells)
absent_ends X wanted found left walked (Err fault) refuses tells = refuses

pub folder_no_file : (t : FileTree) (at : List (List ℕ)) → entry_at t at ≡ Some entries.Folder → IsNoFile t at
folder_no_file t at is = record { there = ap is_some is; no_file = ap is_file is }

pub reached_root : (job : WalkJob) (tail : List (List ℕ)) → tail ≡ [] → is_skipped job.skip job.at ≡ false → is_reached job tail ≡ true
unfolding is_reached
reached_root job tail root kept = rw (root, append-nil job.at, kept) refl

module _ (t : FileTree) (search : Search) where
  pub job_skipped : (walked : Walked) → is_skipped search.job.skip search.job.at ≡ true → job_walked t search walked ≡ absent_walked search.job.rule search.job.at walked
  unfolding job_walked
  job_skipped walked skip = rw skip refl

  pub job_started : (e : Option Entry) (walked : Walked) → is_skipped search.job.skip search.job.at ≡ false → entry_at t search.job.at ≡ e → job_walked t search walked ≡ start_walked t search e walked
  unfolding job_walked
  job_started e walked kept is = rw (kept, is) refl

  folder_start : (walked : Walked) → entry_at t search.job.at ≡ Some entries.Folder → folder_goes t search [] walked ≡ start_walked t search (Some entries.Folder) walked
  unfolding folder_goes
  folder_start walked is = rw (append-nil search.job.at, is, append-nil search.job.at, reached_at_start t search.job) refl

  pub folder_job : (X : Type 0) (tail : List (List ℕ)) (found after : List Scanned) (left rest : ℕ) (r : Result X WalkFault) → tail ≡ [] → is_skipped search.job.skip search.job.at ≡ false → entry_at t search.job.at ≡ Some entries.Folder
      → Goes (folder_goes t search tail) found left after rest r → Goes (job_walked t search) found left after rest r
  folder_job X tail found after left rest r root kept is goes =
      goes_same X (folder_goes t search []) (job_walked t search) found after left rest r (λ walked. folder_start walked is ∙ sym (job_started (Some entries.Folder) walked kept is))
      (subst (λ (p : List (List ℕ)). Goes (folder_goes t search p) found left after rest r) root goes)

  pub file_job : (X : Type 0) (bytes : List ℕ) (found after : List Scanned) (left rest : ℕ) (r : Result X WalkFault) → is_skipped search.job.skip search.job.at ≡ false → entry_at t search.job.at ≡ Some (entries.File bytes)
      → Goes (lone_file_walked search.job.rule search bytes) found left after rest r → Goes (job_walked t search) found left after rest r
  file_job X bytes found after left rest r kept is goes =
      goes_same X (lone_file_walked search.job.rule search bytes) (job_walked t search) found after left rest r (λ walked. sym (job_started (Some (entries.File bytes)) walked kept is)) goes

  wrong_kind : List (List ℕ) → Result Walked WalkFault
  wrong_kind path = Err (faults.OtherEntry path)

  pub other_job : (walked : Walked) (path : List (List ℕ)) → is_skipped search.job.skip search.job.at ≡ false → entry_at t search.job.at ≡ Some entries.Other → path ≡ search.job.at → job_walked t search walked ≡ Err (faults.OtherEntry path)
  unfolding wrong_kind
  other_job walked path kept is same = job_started (Some entries.Other) walked kept is ∙ ap wrong_kind (sym same)

-- ---- all jobs

module _ (t : FileTree) (exclude : List Pattern) (jobs : List WalkJob) where
  abbrev pub search_at : ℕ → WalkJob → Search
  search_at number job = record { number = number; job = job; exclude = exclude }

  pub next_job : (number : ℕ) (job : WalkJob) (walked : Walked) → number < length jobs → job ≡ get_or jobs number job
      → jobs_walked t exclude (enumerate_from number (drop number jobs)) walked ≡ (job_walked t (search_at number job) walked >>= λ next. jobs_walked t exclude (enumerate_from (number + 1) (drop (number + 1) jobs)) next)
  next_job number job walked lt is =
      ap (λ (js : List WalkJob). jobs_walked t exclude (enumerate_from number js) walked) (drop_more jobs number job lt ∙ ap (λ (j : WalkJob). j ∷ drop (number + 1) jobs) (sym is))

  pub no_jobs_left : (number : ℕ) (walked : Walked) → number ≡ length jobs → jobs_walked t exclude (enumerate_from number (drop number jobs)) walked ≡ Ok walked
  no_jobs_left number walked all = rw (drop_all number jobs (omega (arith, all))) refl

  pub refused_job : (fault : WalkFault) (number : ℕ) (job : WalkJob) (walked : Walked) (wanted : Result Walked WalkFault) → number < length jobs → job ≡ get_or jobs number job → wanted ≡ jobs_walked t exclude (enumerate_from number (drop number jobs)) walked
      → Refuses fault (job_walked t (search_at number job) walked) → Refuses fault wanted
  refused_job fault number job walked wanted lt is same refuses =
      subst (λ (r : Result Walked WalkFault). Refuses fault r) (sym (same ∙ next_job number job walked lt is))
      (refuses_on fault (job_walked t (search_at number job) walked) (λ next. jobs_walked t exclude (enumerate_from (number + 1) (drop (number + 1) jobs)) next) refuses)

pub fault_answers : (wanted : Result Walked WalkFault) (left : ℕ) (r : Result (Vec Scanned Global) WalkFault) (fault : WalkFault) → IsErrAnd r (λ y. y ≡ fault) → Refuses fault wanted → Answers wanted left r
fault_answers wanted left (Ok x) fault is refuses = absurd is
fault_answers wanted left (Err other) fault is refuses = subst (λ (f : WalkFault). Refuses f wanted) (sym is) refuses
