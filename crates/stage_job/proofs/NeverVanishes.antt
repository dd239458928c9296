-- Over a tree no check refuses that an entry vanished: what is listed is there.
use Rattle.std.proofs.Common.{◌≡◌, ℕ, zero, suc, ◌-◌, Bool, true, false, cond, List, [], ◌∷◌, ◌++◌, length, filter, Option, Some, None, Result, Ok, Err, refl, ap, nat_lt}
use Rattle.path_name.specs.Given.{◌>>=◌}
use Rattle.tree_dev.specs.Trees.{FileTree, entry_at, names_in}
use Rattle.tree_dev.specs.declared.entry.Entry.{Entry}
use Rattle.tree_dev.specs.declared.entry.Entry.TheVariants as entries
use Rattle.tree_dev.specs.declared.limits.LimitKind.TheVariants as limits
use Rattle.tree_dev.specs.declared.limits.TheConstants.{DEPTH, FILE_BYTES}
use Rattle.stage_job.specs.Checked.{Check, bytes_checked, deep_checked, each_checked, entry_checked, folder_checked, inner_checked, job_checked, kind_checked, leaf_checked, package_checked, part_checked, passes_all, passes_top, source_kind_checked}
use Rattle.stage_job.specs.Faults.{Answers, is_vanished}
use Rattle.stage_job.specs.declared.fault.StageFault.{StageFault}
use Rattle.stage_job.specs.declared.fault.StageFault.TheVariants as faults
use Rattle.stage_job.specs.declared.job.Inner.{Inner}
use Rattle.stage_job.specs.declared.job.Leaf.{Leaf}
use Rattle.stage_job.specs.declared.job.Leaf.TheVariants as leaves
use Rattle.stage_job.specs.declared.job.Part.{Part}
use Rattle.stage_job.specs.declared.job.Source.{Source}
use Rattle.stage_job.specs.declared.job.Source.TheVariants as sources

abbrev Stands : Result ℕ StageFault → Type 0
Stands r = is_vanished {X = ℕ} r ≡ false

bind_stands : (r : Result ℕ StageFault) (f : ℕ → Result ℕ StageFault) → Stands r → ((n : ℕ) → Stands (f n)) → Stands (r >>= f)
bind_stands (Ok n) f here more = more n
bind_stands (Err fault) f here more = here

cond_stands : (b : Bool) (x y : Result ℕ StageFault) → Stands x → Stands y → Stands (cond b x y)
cond_stands true x y a b = a
cond_stands false x y a b = b

bytes_stand : (at : List (List ℕ)) (bytes : List ℕ) (left : ℕ) → Stands (bytes_checked at bytes left)
bytes_stand at bytes left = cond_stands (nat_lt FILE_BYTES (length bytes)) (Err (faults.Limit (limits.FileBytes at))) (Ok left) refl refl

each_stands : (check : Check) → ((at : List (List ℕ)) (left : ℕ) → Stands (check at left)) → (folder names : List (List ℕ)) (left : ℕ) → Stands (each_checked check folder names left)
each_stands check here folder [] left = refl
each_stands check here folder (name ∷ names) left =
    bind_stands (check (folder ++ name ∷ []) left) (λ rest. each_checked check folder names rest) (here (folder ++ name ∷ []) left) (λ rest. each_stands check here folder names rest)

folder_stands : (check : Check) → ((at : List (List ℕ)) (left : ℕ) → Stands (check at left)) → (passes : List ℕ → Bool) (t : FileTree) (folder : List (List ℕ)) (left : ℕ) → Stands (folder_checked check passes t folder left)
folder_stands check here passes t folder left =
    cond_stands (nat_lt left (length (names_in t folder))) (Err (faults.Limit limits.Entries)) (each_checked check folder (filter passes (names_in t folder)) (left - length (names_in t folder)))
    refl (each_stands check here folder (filter passes (names_in t folder)) (left - length (names_in t folder)))

deep_stands : (at : List (List ℕ)) (e : Option Entry) (left : ℕ) → Stands (deep_checked at e left)
deep_stands at None left = refl
deep_stands at (Some (entries.File bytes)) left = refl
deep_stands at (Some entries.Folder) left = refl
deep_stands at (Some entries.Other) left = refl

kind_stands : (folder : Result ℕ StageFault) (at : List (List ℕ)) (e : Option Entry) (left : ℕ) → Stands folder → Stands (kind_checked folder at e left)
kind_stands folder at None left here = refl
kind_stands folder at (Some (entries.File bytes)) left here = bytes_stand at bytes left
kind_stands folder at (Some entries.Folder) left here = here
kind_stands folder at (Some entries.Other) left here = refl

entry_stands : (levels : ℕ) (t : FileTree) (at : List (List ℕ)) (left : ℕ) → Stands (entry_checked levels t at left)
unfolding entry_checked
entry_stands zero t at left = deep_stands at (entry_at t at) left
entry_stands (suc levels) t at left =
    kind_stands (folder_checked (entry_checked levels t) passes_all t at left) at (entry_at t at) left (folder_stands (entry_checked levels t) (λ p rest. entry_stands levels t p rest) passes_all t at left)

source_stands : (folder : Result ℕ StageFault) (at : List (List ℕ)) (e : Option Entry) → Stands folder → Stands (source_kind_checked folder at e)
source_stands folder at None here = refl
source_stands folder at (Some (entries.File bytes)) here = refl
source_stands folder at (Some entries.Folder) here = here
source_stands folder at (Some entries.Other) here = refl

package_stands : (t : FileTree) (at : List (List ℕ)) (left : ℕ) → Stands (package_checked t at left)
unfolding package_checked
package_stands t at left =
    source_stands (folder_checked (entry_checked DEPTH t) passes_top t at left) at (entry_at t at) (folder_stands (entry_checked DEPTH t) (λ p rest. entry_stands DEPTH t p rest) passes_top t at left)

leaf_stands : (t : FileTree) (at : List (List ℕ)) (leaf : Leaf) (left : ℕ) → Stands (leaf_checked t at leaf left)
leaf_stands t at (leaves.Copy source) left = package_stands t source left
leaf_stands t at (leaves.Bytes bytes) left = bytes_stand at bytes left

inner_stands : (t : FileTree) (at : List (List ℕ)) (inner : List Inner) (left : ℕ) → Stands (inner_checked t at inner left)
inner_stands t at [] left = refl
inner_stands t at (part ∷ inner) left =
    bind_stands (leaf_checked t (at ++ part.below) part.from left) (λ rest. inner_checked t at inner rest) (leaf_stands t (at ++ part.below) part.from left) (λ rest. inner_stands t at inner rest)

part_stands : (t : FileTree) (at : List (List ℕ)) (source : Source) (left : ℕ) → Stands (part_checked t at source left)
unfolding part_checked
part_stands t at (sources.Copy source) left = package_stands t source left
part_stands t at (sources.Bytes bytes) left = bytes_stand at bytes left
part_stands t at (sources.Folder inner) left = inner_stands t at inner left
part_stands t at sources.Gone left = refl

pub job_stands : (project : List (List ℕ)) (t : FileTree) (parts : List Part) (left : ℕ) → is_vanished {X = ℕ} (job_checked project t parts left) ≡ false
unfolding job_checked
job_stands project t [] left = refl
job_stands project t (part ∷ parts) left =
    bind_stands (part_checked t (project ++ part.target) part.from left) (λ rest. job_checked project t parts rest) (part_stands t (project ++ part.target) part.from left) (λ rest. job_stands project t parts rest)

-- so an answer to it is no such refusal
pub answer_stands : {X : Type 0} (wanted : Result ℕ StageFault) (left : ℕ) (r : Result X StageFault) → is_vanished {X = ℕ} wanted ≡ false → Answers wanted left r → is_vanished r ≡ false
answer_stands {X} wanted left (Ok x) stands answer = refl
answer_stands {X} wanted left (Err faults.DeviceFault) stands answer = refl
answer_stands {X} wanted left (Err faults.OutOfMemory) stands answer = refl
answer_stands {X} wanted left (Err (faults.MissingPath text)) stands answer = refl
answer_stands {X} wanted left (Err (faults.OtherEntry path)) stands answer = refl
answer_stands {X} wanted left (Err (faults.Limit kind)) stands answer = refl
answer_stands {X} wanted left (Err (faults.Vanished path)) stands answer = absurd (let here : is_vanished {X = ℕ} wanted ≡ true = ap (is_vanished {X = ℕ}) answer in cc)
