-- Works that are made of jobs.
use Rattle.std.proofs.Common.{◌≡◌, ◌≤◌, ℕ, Bool, List, [], ◌∷◌, sym, subst, Result, Ok, Err, inl, inr}
use Rattle.std.specs.Prelude.{IfOk}
use Rattle.std.specs.List.{AllByRecursion}
use Rattle.tree_dev.specs.Trees.{FileTree}
use Rattle.autoload_build.specs.Jobs.{HasReadManifests}
use Rattle.manifest_read.specs.WellFormed.{IsManifest, IsPackage}
use Rattle.manifest_read.specs.declared.types.Manifest.{Manifest}
use Rattle.manifest_read.specs.declared.types.Role.TheVariants.{Member, Root}
use Rattle.psr_routes.specs.declared.types.Placed.{Placed}
use Rattle.stage_job.specs.Jobs.{AreParts}
use Rattle.stage_job.specs.Staging.{HasParents}
use Rattle.stage_job.specs.declared.job.Job.{Job}
use Rattle.install_sources.specs.Sources.{AreSources, IsSource}
use Rattle.run_answers.specs.Steps.{TellsOne}
use Rattle.run_answers.specs.declared.refusal.Refusal.{Refusal}
use Rattle.install_packages.specs.Installing.{with_left, work_of}
use Rattle.table_files.specs.NewTables.{project_with}
use Rattle.install_commands.specs.Working.{IsWork}
use Rattle.table_files.specs.declared.building.NewTables.{NewTables}
use Rattle.install_commands.specs.declared.work.Work.{Work}

pub work_made : (project : List (List ℕ)) (members : List Placed) (new : NewTables) (job : Job) (work : Work) → work ≡ work_of members new job → AreParts project job.parts → 1 ≤ new.generation → IsWork project work
work_made project members new job work is parts first = subst (IsWork project) (sym is) (record { parts = parts; generation = first })

pub parents_made : (project : List (List ℕ)) (t : FileTree) (members : List Placed) (new : NewTables) (job : Job) (work : Work) → work ≡ work_of members new job → HasParents project job.parts t → HasParents project work.job.parts t
parents_made project t members new job work is parents = subst (λ (it : Work). HasParents project it.job.parts t) (sym is) parents

-- what is known of the value of a result that is another's
pub if_same : {X E : Type 0} (r : Result X E) (x : X) (P : X → Type 0) → IfOk r (λ y. y ≡ x) → P x → IfOk r P
if_same (Ok y) x P is p = subst P (sym is) p
if_same (Err e) x P is p = tt

-- ---- tables of what was read

all_packages : (project : List (List ℕ)) (members : List Placed) → AllByRecursion (IsSource project) members → AllByRecursion (λ one. IsPackage Member one.«package») members
all_packages project [] all = tt
all_packages project (member ∷ members) all = (all.0.member.parts, all_packages project members all.1)

pub read_manifests : (project : List (List ℕ)) (root : Manifest) (members : List Placed) (dev : Bool) → IsManifest Root root → AreSources project members → HasReadManifests (project_with project root members dev)
read_manifests project root members dev formed sources = record { root = formed; members = all_packages project members sources.each }

-- the entries that are left are told beside a work
pub with_entries : (after : ℕ) (IsMade : Result (Work × ℕ) Refusal → Type 0) (r : Result Work Refusal) → TellsOne (λ work. (work, after)) IsMade r → TellsOne (λ work. work) (λ made. IsMade (with_left after made)) r
with_entries after IsMade (Ok work) told = told
with_entries after IsMade (Err refusal) (inl free) = inl free
with_entries after IsMade (Err refusal) (inr told) = inr told
