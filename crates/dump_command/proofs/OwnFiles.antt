-- Outside `vendor` a dump keeps all files.
use Rattle.std.proofs.Common.{◌≡◌, ℕ, Bool, true, false, cond, List, [], ◌∷◌, ◌++◌, codes, Option, Some, None, is_some, Ok, refl, sym, ap, ◌∙◌, append-nil}
use Rattle.std.specs.FinMap as map
use Rattle.std.specs.Prelude.{◌&&◌, not}
use Rattle.tree_dev.specs.Changes.{is_root}
use Rattle.tree_dev.specs.Projects.{bytes_of, file_at, is_project_part, is_surroundings, is_within, vendor_path, work_path}
use Rattle.tree_dev.specs.Trees.{FileTree, IsTree, behind, is_folder}
use Rattle.tree_dev.specs.declared.change.Change.TheVariants as changes
use Rattle.tree_dev.specs.declared.entry.Entry.{Entry}
use Rattle.tree_dev.specs.declared.entry.Entry.TheVariants as entries
use Rattle.tree_dev.proofs.Behind.{head_behind}
use Rattle.tree_dev.proofs.Carried.{nothing_below}
use Rattle.tree_dev.proofs.Changed.{get-changed}
use Rattle.tree_dev.proofs.ProjectParts.{behind_same_head, outside}
use Rattle.tree_dev.proofs.SamePaths.{is_same, same_path}
use Rattle.class_walk.specs.Walks.{ends_in, last_of}
use Rattle.stage_job.specs.Jobs.{Files, job_result, put_or}
use Rattle.stage_job.specs.declared.job.Part.{Part}
use Rattle.stage_job.specs.declared.job.Source.TheVariants.{Bytes}
use Rattle.table_scan.specs.TableGrammar.{vendor_name}
use Rattle.table_scan.specs.declared.types.TableTexts.{TableTexts}
use Rattle.table_print.specs.TablePrinting.{printed}
use Rattle.autoload_build.specs.ClassAgreement.{file_in}
use Rattle.table_files.specs.Written.{parts_of, target_of, text_part, written_files}
use Rattle.table_files.specs.declared.written.WrittenFile.{WrittenFile}
use Rattle.install_commands.specs.Claiming.{with_claim}
use Rattle.install_commands.specs.Working.{IsInstalled}
use Rattle.install_commands.specs.declared.work.Work.{Work}
use Rattle.dump_command.specs.Dumping.{IsStandingWork, installed_text}
use Rattle.dump_command.specs.declared.standing.Standing.{Standing}
use Rattle.dump_command.proofs.DumpedWork.{same_parts, work_built}

-- Outside of `vendor` the files whose names end in `.php` are the same in two trees.
abbrev pub AreOwnFilesKept : List (List ℕ) → FileTree → FileTree → Type 0
AreOwnFilesKept project read shown =
    (path : List (List ℕ)) → is_within (vendor_path project) path ≡ false → ends_in (codes ".php") (last_of path) ≡ true → file_in shown path ≡ file_in read path

-- ---- the claim changes no file

bytes_or : (b : Bool) (e : Option Entry) → (b ≡ true → e ≡ None) → bytes_of (cond b (Some entries.Folder) e) ≡ bytes_of e
bytes_or true e none = sym (ap bytes_of (none refl))
bytes_or false e none = refl

pub claimed_file : (project : List (List ℕ)) (t : FileTree) (path : List (List ℕ)) → map.get t (work_path project) ≡ None → file_at (with_claim project t) path ≡ file_at t path
claimed_file project t path none =
    ap bytes_of (get-changed t (changes.FolderMade (work_path project)) path)
    ∙ bytes_or (is_same path (work_path project)) (map.get t path) (λ same. ap (map.get t) (same_path path (work_path project) same) ∙ none)

-- ---- files that are written lie in `vendor`

abbrev AreInside : List WrittenFile → Type 0
AreInside [] = Unit {0}
AreInside (file ∷ written) = (is_within (codes "vendor" ∷ []) (target_of file) ≡ true) × AreInside written

files_inside : (texts : TableTexts) (installed : Option (List ℕ)) → AreInside (written_files texts installed)
unfolding written_files vendor_name
files_inside texts installed = (refl, (refl, (refl, (refl, (refl, (refl, (refl, tt)))))))

module _ (project : List (List ℕ)) (t : FileTree) (old : Files) (path : List (List ℕ)) (out : is_within (vendor_path project) path ≡ false) where
  off_part : (target : List (List ℕ)) (text : Option (List ℕ)) (rest : List Part) → behind (project ++ target) path ≡ None
      → job_result project t (text_part target text ++ rest) old path ≡ job_result project t rest old path
  unfolding job_result
  off_part target None rest off = refl
  off_part target (Some text) rest off = ap (λ (o : Option (List (List ℕ))). put_or t (Bytes text) o (job_result project t rest old path)) off

  off_files : (written : List WrittenFile) → AreInside written → job_result project t (parts_of written) old path ≡ old path
  unfolding job_result
  off_files [] are = refl
  off_files (file ∷ written) are =
      off_part (target_of file) file.text (parts_of written)
      (outside (vendor_path project) (project ++ target_of file) path (ap is_some (behind_same_head project (codes "vendor" ∷ []) (target_of file)) ∙ are.0) out)
      ∙ off_files written are.1

-- ---- `.install`

no_root : (project : List (List ℕ)) → is_root (work_path project) ≡ false
no_root [] = refl
no_root (x ∷ project) = refl

no_file : (project : List (List ℕ)) (t : FileTree) → IsTree t → map.get t (work_path project) ≡ None → (path : List (List ℕ)) → is_within (work_path project) path ≡ true → file_at t path ≡ None
no_file project t tree gone path within = by (behind (work_path project) path) refl within
  where
    none : (rest : List (List ℕ)) → map.get t (work_path project ++ rest) ≡ None
    none [] = ap (map.get t) (append-nil (work_path project)) ∙ gone
    none (x ∷ rest) = nothing_below t tree (work_path project) (no_root project) (ap is_folder gone) (x ∷ rest) refl

    by : (o : Option (List (List ℕ))) → behind (work_path project) path ≡ o → is_some o ≡ true → file_at t path ≡ None
    by None e f = absurd cc
    by (Some rest) e f = ap (file_at t) (head_behind (work_path project) path rest e) ∙ ap bytes_of (none rest)

neither : (a b : Bool) → a ≡ false → b ≡ false → not a && not b ≡ true
neither true b e f = absurd cc
neither false true e f = absurd cc
neither false false e f = refl

surrounds : (project path : List (List ℕ)) → is_project_part project path ≡ false → is_within (work_path project) path ≡ false → is_surroundings project path ≡ true
unfolding is_surroundings
surrounds project path e f = neither (is_project_part project path) (is_within (work_path project) path) e f

-- ---- all files outside `vendor`

module _ (project : List (List ℕ)) (start u : FileTree) (left after : ℕ) (standing : Standing) (work : Work)
    (made : IsStandingWork (with_claim project start) project left after standing (Ok work)) (tree : IsTree start) (stands : IsTree u)
    (free : map.get start (work_path project) ≡ None) (gone : map.get u (work_path project) ≡ None)
    (is : IsInstalled project start (job_result project (with_claim project start) work.job.parts (file_at start)) u) where
  own_result : (path : List (List ℕ)) → is_within (vendor_path project) path ≡ false → job_result project (with_claim project start) work.job.parts (file_at start) path ≡ file_at start path
  own_result path out =
      let built = work_built (with_claim project start) project left after standing work made in
      let texts = printed project built.0.tables in
      ap (λ (parts : List Part). job_result project (with_claim project start) parts (file_at start) path) (same_parts project standing.is_listed built.0 work built.1.1)
      ∙ off_files project (with_claim project start) (file_at start) path out (written_files texts (installed_text standing.is_listed)) (files_inside texts (installed_text standing.is_listed))

  own_file : (path : List (List ℕ)) → is_within (vendor_path project) path ≡ false → file_at u path ≡ file_at start path
  own_file path out = by (is_project_part project path) refl (is_within (work_path project) path) refl
    where
      by : (part : Bool) → is_project_part project path ≡ part → (inside : Bool) → is_within (work_path project) path ≡ inside → file_at u path ≡ file_at start path
      by true e inside f = is.has_files.each path e ∙ own_result path out
      by false e true f = no_file project u stands gone path f ∙ sym (no_file project start tree free path f)
      by false e false f = ap bytes_of (is.outside.each path (surrounds project path e f))

  pub own_kept : AreOwnFilesKept project (with_claim project start) u
  own_kept [] out php = refl
  own_kept (x ∷ path) out php = own_file (x ∷ path) out ∙ sym (claimed_file project start (x ∷ path) free)
