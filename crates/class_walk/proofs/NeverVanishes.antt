-- Over a tree no scan refuses that an entry vanished: what is listed is there.
use Rattle.std.proofs.Common.{◌≡◌, ℕ, ◌-◌, Bool, true, false, cond, List, [], ◌∷◌, ◌++◌, length, Option, Some, None, Result, Ok, Err, Vec, refl, ap, nat_lt}
use Rattle.std.specs.declared.alloc.Global.{Global}
use Rattle.std.specs.List.{enumerate_from}
use Rattle.path_name.specs.Given.{◌>>=◌}
use Rattle.tree_dev.specs.Trees.{FileTree, entry_at, names_in}
use Rattle.tree_dev.specs.declared.entry.Entry.{Entry}
use Rattle.tree_dev.specs.declared.entry.Entry.TheVariants as entries
use Rattle.tree_dev.specs.declared.limits.LimitKind.TheVariants as limits
use Rattle.tree_dev.specs.declared.limits.TheConstants.{FILE_BYTES}
use Rattle.class_walk.specs.Faults.{Answers, is_vanished}
use Rattle.class_walk.specs.Walks.{Search, Step, Walked, absent_walked, class_scan, each_walked, entry_walked, file_walked, folder_listed, is_deep, is_scanned, is_skipped, job_walked, jobs_walked, kind_walked, lone_file_walked, reached, read_file, start_walked, with_file}
use Rattle.class_walk.specs.declared.fault.WalkFault.{WalkFault}
use Rattle.class_walk.specs.declared.fault.WalkFault.TheVariants as faults
use Rattle.class_walk.specs.declared.job.Scanned.{Scanned}
use Rattle.class_walk.specs.declared.job.WalkJob.{WalkJob}
use Rattle.class_walk.specs.declared.job.WalkRule.{WalkRule}
use Rattle.class_walk.specs.declared.job.WalkRule.TheVariants as rules
use Rattle.class_walk.specs.declared.pattern.Pattern.{Pattern}

abbrev Stands : Result Walked WalkFault → Type 0
Stands r = is_vanished {X = Walked} r ≡ false

bind_stands : (r : Result Walked WalkFault) (next : Step) → Stands r → ((walked : Walked) → Stands (next walked)) → Stands (r >>= next)
bind_stands (Ok walked) next here more = more walked
bind_stands (Err fault) next here more = here

cond_stands : (b : Bool) (x y : Result Walked WalkFault) → Stands x → Stands y → Stands (cond b x y)
cond_stands true x y a b = a
cond_stands false x y a b = b

listing_stands : (t : FileTree) (folder : List (List ℕ)) (walked : Walked) → Stands (folder_listed t folder walked)
unfolding folder_listed
listing_stands t folder walked =
    cond_stands (nat_lt walked.left (length (names_in t folder))) (Err (faults.Limit limits.Entries)) (Ok (record { found = walked.found; left = walked.left - length (names_in t folder) })) refl refl

file_stands : (search : Search) (tail : List (List ℕ)) (bytes : List ℕ) (walked : Walked) → Stands (file_walked search tail bytes walked)
file_stands search tail bytes walked =
    cond_stands (is_scanned search tail) (read_file search tail bytes walked) (Ok walked)
    (cond_stands (nat_lt FILE_BYTES (length bytes)) (Err (faults.Limit (limits.FileBytes (search.job.at ++ tail)))) (Ok (with_file search tail bytes walked)) refl refl)
    refl

kind_stands : (t : FileTree) (search : Search) (tail : List (List ℕ)) (e : Option Entry) (walked : Walked) → Stands (kind_walked t search tail e walked)
kind_stands t search tail None walked = refl
kind_stands t search tail (Some (entries.File bytes)) walked =
    cond_stands (is_deep tail) (Err (faults.Limit (limits.Depth (search.job.at ++ tail)))) (file_walked search tail bytes walked) refl (file_stands search tail bytes walked)
kind_stands t search tail (Some entries.Folder) walked =
    cond_stands (is_deep tail) (Err (faults.Limit (limits.Depth (search.job.at ++ tail)))) (folder_listed t (search.job.at ++ tail) walked) refl (listing_stands t (search.job.at ++ tail) walked)
kind_stands t search tail (Some entries.Other) walked = refl

entry_stands : (t : FileTree) (search : Search) (tail : List (List ℕ)) (walked : Walked) → Stands (entry_walked t search tail walked)
unfolding entry_walked
entry_stands t search tail walked = kind_stands t search tail (entry_at t (search.job.at ++ tail)) walked

each_stands : (t : FileTree) (search : Search) (tails : List (List (List ℕ))) (walked : Walked) → Stands (each_walked t search tails walked)
each_stands t search [] walked = refl
each_stands t search (tail ∷ tails) walked =
    bind_stands (entry_walked t search tail walked) (λ next. each_walked t search tails next) (entry_stands t search tail walked) (λ next. each_stands t search tails next)

absent_stands : (rule : WalkRule) (at : List (List ℕ)) (walked : Walked) → Stands (absent_walked rule at walked)
absent_stands rules.Listed at walked = refl
absent_stands (rules.Psr4 prefix) at walked = refl
absent_stands (rules.Psr0 prefix) at walked = refl

lone_file_stands : (rule : WalkRule) (search : Search) (bytes : List ℕ) (walked : Walked) → Stands (lone_file_walked rule search bytes walked)
lone_file_stands rules.Listed search bytes walked = file_stands search [] bytes walked
lone_file_stands (rules.Psr4 prefix) search bytes walked = refl
lone_file_stands (rules.Psr0 prefix) search bytes walked = refl

start_stands : (t : FileTree) (search : Search) (e : Option Entry) (walked : Walked) → Stands (start_walked t search e walked)
start_stands t search None walked = absent_stands search.job.rule search.job.at walked
start_stands t search (Some (entries.File bytes)) walked = lone_file_stands search.job.rule search bytes walked
start_stands t search (Some entries.Folder) walked =
    bind_stands (folder_listed t search.job.at walked) (λ next. each_walked t search (reached t search.job) next) (listing_stands t search.job.at walked) (λ next. each_stands t search (reached t search.job) next)
start_stands t search (Some entries.Other) walked = refl

job_stands : (t : FileTree) (search : Search) (walked : Walked) → Stands (job_walked t search walked)
unfolding job_walked
job_stands t search walked =
    cond_stands (is_skipped search.job.skip search.job.at) (absent_walked search.job.rule search.job.at walked) (start_walked t search (entry_at t search.job.at) walked)
    (absent_stands search.job.rule search.job.at walked) (start_stands t search (entry_at t search.job.at) walked)

jobs_stand : (t : FileTree) (exclude : List Pattern) (jobs : List (ℕ × WalkJob)) (walked : Walked) → Stands (jobs_walked t exclude jobs walked)
jobs_stand t exclude [] walked = refl
jobs_stand t exclude (job ∷ jobs) walked =
    bind_stands (job_walked t (record { number = job.0; job = job.1; exclude = exclude }) walked) (λ next. jobs_walked t exclude jobs next)
    (job_stands t (record { number = job.0; job = job.1; exclude = exclude }) walked) (λ next. jobs_stand t exclude jobs next)

pub scan_stands : (t : FileTree) (jobs : List WalkJob) (exclude : List Pattern) (left : ℕ) → is_vanished {X = Walked} (class_scan t jobs exclude left) ≡ false
unfolding class_scan
scan_stands t jobs exclude left = jobs_stand t exclude (enumerate_from 0 jobs) (record { found = []; left = left })

-- so an answer to it is no such refusal
pub answer_stands : (wanted : Result Walked WalkFault) (left : ℕ) (r : Result (Vec Scanned Global) WalkFault) → is_vanished {X = Walked} wanted ≡ false → Answers wanted left r → is_vanished r ≡ false
answer_stands wanted left (Ok found) stands answer = refl
answer_stands wanted left (Err faults.DeviceFault) stands answer = refl
answer_stands wanted left (Err faults.OutOfMemory) stands answer = refl
answer_stands wanted left (Err (faults.ClassmapMissing path)) stands answer = refl
answer_stands wanted left (Err (faults.OtherEntry path)) stands answer = refl
answer_stands wanted left (Err (faults.Limit kind)) stands answer = refl
answer_stands wanted left (Err (faults.Vanished path)) stands answer = absurd (let here : is_vanished {X = Walked} wanted ≡ true = ap (is_vanished {X = Walked}) answer in cc)
