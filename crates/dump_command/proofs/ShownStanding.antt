-- What stands before a dump is read from well-formed files, and its packages are seen after it as they were read.
use Rattle.std.proofs.Common.{◌≡◌, ℕ, List, [], ◌++◌, Option, Some, None, Result, Ok, Err, refl, sym, ap, subst, ◌∙◌}
use Rattle.std.specs.FinMap as map
use Rattle.std.specs.Prelude.{IfSome}
use Rattle.std.specs.List.{AllByRecursion}
use Rattle.path_name.specs.Given.{◌>>=◌}
use Rattle.tree_dev.specs.Projects.{file_at, work_path}
use Rattle.tree_dev.specs.Trees.{FileTree, IsTree}
use Rattle.composer_words.specs.declared.chosen.Ways.{Ways}
use Rattle.json_ordered.specs.JsonTree.{JsonTree}
use Rattle.lock_file.specs.FormedLocks as formed_locks
use Rattle.lock_file.specs.InstalledPackages.{installed_fields_of, installed_from}
use Rattle.lock_file.specs.declared.types.Installed.{Installed}
use Rattle.lock_file.proofs.FormedEntries.{installed_is_formed}
use Rattle.manifest_read.specs.Manifests.{manifest_of}
use Rattle.manifest_read.specs.Values.{object_at}
use Rattle.manifest_read.specs.WellFormed.{IsManifest}
use Rattle.manifest_read.specs.declared.fault.FieldFault.{FieldFault}
use Rattle.manifest_read.specs.declared.types.Manifest.{Manifest}
use Rattle.manifest_read.specs.declared.types.Role.TheVariants.{Root}
use Rattle.manifest_read.proofs.Formed.{manifests_are_formed}
use Rattle.psr_routes.specs.declared.types.Placed.{Placed}
use Rattle.install_world.specs.InFlight.{HasFiles}
use Rattle.stage_job.specs.Jobs.{Files, job_result}
use Rattle.autoload_build.specs.ClassAgreement.{IsShown, file_in, file_of_package}
use Rattle.autoload_build.specs.Jobs.{HasReadManifests}
use Rattle.run_answers.specs.declared.refusal.NamedFile.{NamedFile}
use Rattle.run_answers.specs.declared.refusal.NamedFile.TheVariants as named
use Rattle.run_answers.specs.declared.refusal.Refusal.{Refusal}
use Rattle.project_files.specs.Documents.{document_in, or_bad_fields}
use Rattle.project_files.specs.InstalledFiles.{installed_fields_in, installed_if, installed_in, installed_of_text}
use Rattle.project_files.specs.Places.{installed_place}
use Rattle.project_files.specs.ProjectManifest.{manifest_of_text, manifest_text_in, project_manifest_in}
use Rattle.project_files.specs.ProjectManifest as manifests
use Rattle.project_files.specs.States.{generation_in}
use Rattle.project_files.specs.Texts.{text_in}
use Rattle.project_files.specs.declared.manifests.ProjectManifest.{ProjectManifest}
use Rattle.install_commands.specs.Claiming.{with_claim}
use Rattle.install_commands.specs.Working.{IsInstalled}
use Rattle.install_commands.specs.declared.work.Work.{Work}
use Rattle.dump_command.specs.Dumping.{IsDumped, IsStandingWork, IsWorkFrom}
use Rattle.dump_command.specs.Standing.{project_of, root_in, standing_in, standing_of, table_folders_in, with_folders_in, with_installed_in}
use Rattle.dump_command.specs.declared.standing.Standing.{Standing}
use Rattle.dump_command.proofs.FormedStanding.{formed_standing}
use Rattle.dump_command.proofs.OwnFiles.{AreOwnFilesKept, claimed_file, own_kept}
use Rattle.dump_command.proofs.ShownMembers.{packages_kept}

-- both of two steps gave something
pub both : {X Y E : Type 0} (first : Result X E) (next : X → Result Y E) (y : Y) → (first >>= next) ≡ Ok y → (x : X) × (first ≡ Ok x) × (next x ≡ Ok y)
both (Ok x) next y e = (x, refl, e)
both (Err fault) next y e = absurd cc

same_value : {X E : Type 0} (x y : X) → ◌≡◌ {A = Result X E} (Ok x) (Ok y) → x ≡ y
same_value x y e = cc

no_fault : {X : Type 0} (file : NamedFile) (r : Result X FieldFault) (x : X) → or_bad_fields file r ≡ Ok x → r ≡ Ok x
no_fault file (Ok y) x e = ap Ok (same_value y x e)
no_fault file (Err fault) x e = absurd cc

-- ---- the manifest

root_is_formed : (t : FileTree) (project : List (List ℕ)) (root : Manifest) → root_in t project ≡ Ok root → IsManifest Root root
unfolding root_in project_manifest_in manifest_of_text manifests.root_in
root_is_formed t project root e =
    let read = both (project_manifest_in t project) (λ (m : ProjectManifest). Ok m.root) root e in
    let text = both (manifest_text_in t project) manifest_of_text read.0 read.1 in
    let document = both (document_in named.Manifest text.0) _ read.0 text.2 in
    let fields = both (manifests.root_in document.0) _ read.0 document.2 in
    let is = manifests_are_formed Root document.0 fields.0 (no_fault named.Manifest (manifest_of Root document.0) fields.0 fields.1) in
    subst (IsManifest Root) (ap (λ (m : ProjectManifest). m.root) (same_value _ read.0 fields.2) ∙ same_value read.0.root root read.2) is

-- ---- what is installed

fields_are_formed : (v : JsonTree) (installed : Installed) → installed_fields_of v ≡ Ok installed → formed_locks.IsInstalled installed
unfolding installed_fields_of
fields_are_formed v installed e =
    let pairs = both (object_at [] v) (installed_from []) installed e in
    installed_is_formed [] pairs.0 installed pairs.2

text_is_formed : (text : List ℕ) (installed : Installed) → installed_of_text text ≡ Ok installed → formed_locks.IsInstalled installed
unfolding installed_of_text installed_fields_in
text_is_formed text installed e =
    let document = both (document_in named.Installed text) installed_fields_in installed e in
    fields_are_formed document.0 installed (no_fault named.Installed (installed_fields_of document.0) installed document.2)

if_is_formed : (text : Option (List ℕ)) (installed : Option Installed) → installed_if text ≡ Ok installed → IfSome installed formed_locks.IsInstalled
if_is_formed None installed e = subst (λ (some : Option Installed). IfSome some formed_locks.IsInstalled) (same_value None installed e) tt
if_is_formed (Some text) installed e =
    let read = both (installed_of_text text) (λ (one : Installed). Ok (Some one)) installed e in
    subst (λ (some : Option Installed). IfSome some formed_locks.IsInstalled) (same_value (Some read.0) installed read.2) (text_is_formed text read.0 read.1)

installed_are_formed : (t : FileTree) (project : List (List ℕ)) (installed : Option Installed) → installed_in t project ≡ Ok installed → IfSome installed formed_locks.IsInstalled
unfolding installed_in
installed_are_formed t project installed e =
    let text = both (text_in t (installed_place project)) installed_if installed e in
    if_is_formed text.0 installed text.2

-- ---- both

module _ (project : List (List ℕ)) (ways : Ways) (t : FileTree) (standing : Standing)
    (is : standing_in t project ways ≡ Ok standing) where
  record IsReadAs : Type 0 where
    root : Manifest
    installed : Option Installed
    root_formed : IsManifest Root root
    formed : IfSome installed formed_locks.IsInstalled
    same : standing_of project ways (generation_in t project) root installed ≡ standing

  read_as : IsReadAs
  unfolding standing_in with_installed_in with_folders_in
  read_as =
      let root = both (root_in t project) (with_installed_in t project ways (generation_in t project)) standing is in
      let installed = both (installed_in t project) (with_folders_in t project ways (generation_in t project) root.0) standing root.2 in
      let folders = both (table_folders_in t project) _ standing installed.2 in
      record {
        root = root.0;
        installed = installed.0;
        root_formed = root_is_formed t project root.0 root.1;
        formed = installed_are_formed t project installed.0 installed.1;
        same = same_value _ standing folders.2;
      }

  pub standing_formed : HasReadManifests (project_of project standing)
  standing_formed =
      let read = read_as in
      subst (λ (one : Standing). HasReadManifests (project_of project one)) read.same
      (formed_standing project ways (generation_in t project) read.root read.installed read.root_formed read.formed)

  module _ (u : FileTree) (left after : ℕ) (work : Work) (made : IsStandingWork t project left after standing (Ok work)) (old : Files)
      (same_old : (path : List (List ℕ)) → old path ≡ file_at t path) (stand : HasFiles project u (job_result project t work.job.parts old)) where
    abbrev AreShownIn : Standing → Type 0
    AreShownIn one = AllByRecursion (λ (member : Placed). (below : List (List ℕ)) → file_in u (member.shown ++ below) ≡ file_of_package t member below) one.members

    of_installed : (root : Manifest) (installed : Option Installed) → IfSome installed formed_locks.IsInstalled → AreShownIn (standing_of project ways (generation_in t project) root installed)
    of_installed root None formed = tt
    of_installed root (Some installed) formed = packages_kept project t u left after standing work made old same_old stand installed.packages formed.packages

    standing_shown : AreOwnFilesKept project t u → IsShown (project_of project standing) t u
    standing_shown own = let read = read_as in record { own = own; packages = subst AreShownIn read.same (of_installed read.root read.installed read.formed) }

-- ---- after a dump

pub dump_shown : (project : List (List ℕ)) (ways : Ways) (start u : FileTree) (left after : ℕ) (standing : Standing)
    (work : Work) → standing_in (with_claim project start) project ways ≡ Ok standing → IsStandingWork (with_claim project start) project left after standing (Ok work)
    → IsTree start → IsTree u → map.get start (work_path project) ≡ None → map.get u (work_path project) ≡ None
    → IsInstalled project start (job_result project (with_claim project start) work.job.parts (file_at start)) u → IsShown (project_of project standing) (with_claim project start) u
dump_shown project ways start u left after standing work is made tree stands free gone installed =
    let t = with_claim project start in
    standing_shown project ways t standing is u left after work made (file_at start) (λ path. sym (claimed_file project start path free)) installed.has_files
    (own_kept project start u left after standing work made tree stands free gone installed)

-- ---- what is dumped

pub standing_dumped : (project : List (List ℕ)) (ways : Ways) (left after : ℕ) (t : FileTree) (work : Work) → IsDumped project ways left t after (Ok work)
    → (standing : Standing) × (standing_in t project ways ≡ Ok standing) × IsStandingWork t project left after standing (Ok work)
unfolding IsDumped
standing_dumped project ways left after t work dumped = by (standing_in t project ways) refl dumped
  where
    by : (s : Result Standing Refusal) → standing_in t project ways ≡ s → IsWorkFrom t project left after s (Ok work)
        → (standing : Standing) × (standing_in t project ways ≡ Ok standing) × IsStandingWork t project left after standing (Ok work)
    by (Ok standing) e is = (standing, e, is)
    by (Err refusal) e is = absurd (let same : ◌≡◌ {A = Result Work Refusal} (Ok work) (Err refusal) = is in cc)
