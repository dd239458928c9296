-- What stands in a project of packages and of files that are written.
use Rattle.std.proofs.Common.{◌≡◌, ℕ, Bool, true, false, cond, List, [], ◌∷◌, ◌++◌, codes, Option, Some, None, refl, sym, ap, ◌∙◌, inl, inr}
use Rattle.std.specs.Prelude.{IfSome}
use Rattle.std.specs.FinMap as maps
use Rattle.tree_dev.specs.Projects.{bytes_of, file_at, is_within, vendor_path, work_path}
use Rattle.tree_dev.specs.Trees.{FileTree, IsTree, behind}
use Rattle.tree_dev.specs.declared.change.Change.TheVariants as changes
use Rattle.tree_dev.specs.declared.entry.Entry.{Entry}
use Rattle.tree_dev.specs.declared.entry.Entry.TheVariants as entries
use Rattle.tree_dev.proofs.Behind.{behind_head}
use Rattle.tree_dev.proofs.Changed.{get-changed}
use Rattle.tree_dev.proofs.SamePaths.{is_same, same_path}
use Rattle.manifest_read.specs.Names.{project_of, vendor_of}
use Rattle.package_moves.specs.Moves.{IsAmong}
use Rattle.package_moves.specs.Wanted.{without_vendor}
use Rattle.package_moves.proofs.JobLaws.{among_first, among_last}
use Rattle.package_moves.proofs.Results.{AreOff, result_off}
use Rattle.package_moves.proofs.WholeResults.{AreTargetsApart, makes_wanted, parts_apart, result_of}
use Rattle.psr_routes.specs.declared.types.Placed.{Placed}
use Rattle.stage_job.specs.Jobs.{Files, job_result, part_entry}
use Rattle.stage_job.specs.Mirrored.{mirrored}
use Rattle.stage_job.specs.declared.job.Part.{Part}
use Rattle.stage_job.specs.declared.job.Source.TheVariants as sources
use Rattle.install_commands.specs.Claiming.{with_claim}
use Rattle.install_choice.specs.declared.chosen.Chosen.{Chosen}
use Rattle.install_commands.specs.declared.work.Work.{Work}
use Rattle.install_sources.specs.Folders.{package_place}
use Rattle.table_files.specs.Written.{parts_of, place_in, target_of, text_part}
use Rattle.table_files.specs.declared.written.FilePlace.{FilePlace}
use Rattle.table_files.specs.declared.written.FilePlace.TheVariants as places
use Rattle.table_files.specs.declared.written.WrittenFile.{WrittenFile}
use Rattle.install_packages.specs.InstallParts.{copy_part, copy_parts}
use Rattle.table_files.specs.declared.building.Setting.{Setting}
use Rattle.install_packages.specs.Installations.{AreAboveNone, ArePackagesAt, AreWrittenAt, Installation, IsOffTargets, installed_files}

-- ---- where parts go

place_below : (at : List (List ℕ)) (place : FilePlace) → place_in at place ≡ at ++ place_in [] place
place_below at (places.Table table) = refl
place_below at places.Installed = refl
place_below at places.Autoloader = refl
place_below at places.Lock = refl

joined : (at : List (List ℕ)) (segment : List ℕ) (rest : List (List ℕ)) → (at ++ segment ∷ []) ++ rest ≡ at ++ segment ∷ rest
joined [] segment rest = refl
joined (name ∷ at) segment rest = ap (λ path. name ∷ path) (joined at segment rest)

package_below : (at : List (List ℕ)) (name : List ℕ) → package_place at name ≡ at ++ package_place [] name
package_below at name = joined at (codes "vendor") (vendor_of name ∷ project_of name ∷ [])

-- ---- what parts put there

module _ (at : List (List ℕ)) (t : FileTree) (all : List Part) (old : Files) (apart : AreTargetsApart all) where
  abbrev made : Files
  made = job_result at t all old

  package_there : (one : Placed) → IsAmong all (copy_part one) → (below : List (List ℕ)) → made (package_place at one.«package».name ++ below) ≡ bytes_of (mirrored t one.at below)
  unfolding part_entry
  package_there one among below =
      let name = one.«package».name in
      result_of at t (package_place at name ++ below) all (copy_part one) below old apart among
      (ap (λ (path : List (List ℕ)). behind (at ++ package_place [] name) (path ++ below)) (package_below at name) ∙ behind_head (at ++ package_place [] name) below)

  pub packages_there : (members : List Placed) → ((part : Part) → IsAmong (copy_parts members) part → IsAmong all part) → ArePackagesAt at t made members
  packages_there [] are = tt
  packages_there (one ∷ members) are = (package_there one (are (copy_part one) (inl refl)), packages_there members (λ part among. are part (inr among)))

  ended : (path : List (List ℕ)) → path ++ [] ≡ path
  ended [] = refl
  ended (name ∷ path) = ap (λ rest. name ∷ rest) (ended path)

  text_there : (place : FilePlace) (text : List ℕ) → IsAmong all (record { target = place_in [] place; from = sources.Bytes text }) → made (place_in at place) ≡ Some text
  unfolding part_entry
  text_there place text among =
      result_of at t (place_in at place) all (record { target = place_in [] place; from = sources.Bytes text }) [] old apart among
      (ap (behind (at ++ place_in [] place)) (place_below at place ∙ sym (ended (at ++ place_in [] place))) ∙ behind_head (at ++ place_in [] place) [])

  file_there : (place : FilePlace) (text : Option (List ℕ)) (rest : List Part) → ((part : Part) → IsAmong (text_part (place_in [] place) text ++ rest) part → IsAmong all part)
      → IfSome text (λ bytes. made (place_in at place) ≡ Some bytes)
  file_there place None rest are = tt
  file_there place (Some text) rest are = text_there place text (are (record { target = place_in [] place; from = sources.Bytes text }) (inl refl))

  behind_part : (target : List (List ℕ)) (text : Option (List ℕ)) (rest : List Part) (part : Part) → IsAmong rest part → IsAmong (text_part target text ++ rest) part
  behind_part target None rest part among = among
  behind_part target (Some text) rest part among = inr among

  pub files_there : (files : List WrittenFile) → ((part : Part) → IsAmong (parts_of files) part → IsAmong all part) → AreWrittenAt at made files
  files_there [] are = tt
  files_there (file ∷ files) are =
      (file_there file.place file.text (parts_of files) are, files_there files (λ part among. are part (behind_part (target_of file) file.text (parts_of files) part among)))

-- ---- the claim changes no file

bytes_or : (b : Bool) (e : Option Entry) → (b ≡ true → e ≡ None) → bytes_of (cond b (Some entries.Folder) e) ≡ bytes_of e
bytes_or true e none = sym (ap bytes_of (none refl))
bytes_or false e none = refl

pub claimed_file : (at : List (List ℕ)) (t : FileTree) (path : List (List ℕ)) → maps.get t (work_path at) ≡ None → file_at (with_claim at t) path ≡ file_at t path
claimed_file at t path none =
    ap bytes_of (get-changed t (changes.FolderMade (work_path at)) path)
    ∙ bytes_or (is_same path (work_path at)) (maps.get t path) (λ same. ap (maps.get t) (same_path path (work_path at) same) ∙ none)

-- ---- paths elsewhere

off_targets : (at : List (List ℕ)) (t : FileTree) (path : List (List ℕ)) (parts : List Part) → AreAboveNone at parts path → AreOff at t path parts
off_targets at t path [] off = tt
off_targets at t path (part ∷ parts) off = (off.0, off_targets at t path parts off.1)

-- ---- an installation

module _ (t : FileTree) (at : List (List ℕ)) (chosen : Chosen) (setting : Setting) (left after : ℕ) (work : Work) (made : Installation t at chosen setting left after work) where
  abbrev wanted : List Part
  wanted = copy_parts made.members ++ parts_of made.files

  pub new_project : (path : List (List ℕ)) → IsTree t → job_result at t work.job.parts (file_at t) path ≡ installed_files at t made.members made.files (file_at t) path
  new_project path tree = makes_wanted at t wanted path tree made.can_be.are_wanted made.can_be.are_parts work.job.parts made.parts made.job

  module _ (old : Files) where
    abbrev stands : Files
    stands = installed_files at t made.members made.files old

    pub packages_stand : ArePackagesAt at t stands made.members
    packages_stand = packages_there at t wanted (without_vendor at old) (parts_apart at wanted made.can_be.are_parts) made.members (λ part among. among_first (copy_parts made.members) (parts_of made.files) part among)

    pub files_stand : AreWrittenAt at stands made.files
    files_stand = files_there at t wanted (without_vendor at old) (parts_apart at wanted made.can_be.are_parts) made.files (λ part among. among_last (copy_parts made.members) (parts_of made.files) part among)

    pub others_stay : (path : List (List ℕ)) → IsOffTargets at made.members made.files path → is_within (vendor_path at) path ≡ false → stands path ≡ old path
    others_stay path off outside = result_off at t path wanted (without_vendor at old) (off_targets at t path wanted off) ∙ ap (λ (inside : Bool). cond inside None (old path)) outside

    pub nothing_else : (path : List (List ℕ)) → IsOffTargets at made.members made.files path → is_within (vendor_path at) path ≡ true → stands path ≡ None
    nothing_else path off inside = result_off at t path wanted (without_vendor at old) (off_targets at t path wanted off) ∙ ap (λ (within : Bool). cond within None (old path)) inside
