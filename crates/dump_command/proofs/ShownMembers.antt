-- Packages that are installed stand after a dump as the walks for their classes read them: no file is written at or below
-- the place of a package.
use Rattle.std.proofs.Common.{◌≡◌, ℕ, Bool, true, false, cond, List, [], ◌∷◌, ◌++◌, length, get_or, codes, Option, None, is_some, Ok, refl, sym, ap, ◌∙◌, ltb-true, eqb-true}
use Rattle.std.specs.Prelude.{◌&&◌, ◌||◌, not, nat_lt}
use Rattle.std.specs.List.{AllByRecursion, list_any, position_or_len}
use Rattle.std.proofs.lemmas.Bool.{false≢true}
use Rattle.std.proofs.lemmas.List.Sums.{split_at_first, prefix_len_stops}
use Rattle.path_name.specs.Orders.{bytes_are_equal}
use Rattle.path_name.specs.Paths.{is_slash}
use Rattle.tree_dev.specs.Projects.{file_at, is_project_part, is_within, lock_path, vendor_path}
use Rattle.tree_dev.specs.Trees.{FileTree, behind}
use Rattle.tree_dev.proofs.Behind.{bytes_same, same_bytes}
use Rattle.manifest_read.specs.Names.{autoload_file, is_package_name, is_part, is_reserved, project_of, vendor_of, written_names}
use Rattle.manifest_read.specs.WellFormed.{IsMember, IsMemberName}
use Rattle.manifest_read.specs.declared.types.Package.{Package}
use Rattle.psr_routes.specs.declared.types.Placed.{Placed}
use Rattle.install_world.specs.InFlight.{HasFiles}
use Rattle.install_sources.specs.Folders.{package_place}
use Rattle.stage_job.specs.Jobs.{Files, job_result}
use Rattle.stage_job.specs.declared.job.Part.{Part}
use Rattle.table_scan.specs.TableGrammar.{vendor_name}
use Rattle.table_scan.specs.TableNames.{table_name}
use Rattle.table_scan.specs.declared.types.TableTexts.{TableTexts}
use Rattle.table_print.specs.TablePrinting.{printed}
use Rattle.autoload_build.specs.ClassAgreement.{file_in, file_of_package}
use Rattle.project_files.specs.Places.{composer_name}
use Rattle.table_files.specs.Members.{members_in_place}
use Rattle.table_files.specs.Written.{parts_of, target_of, written_files}
use Rattle.table_files.specs.declared.written.WrittenFile.{WrittenFile}
use Rattle.install_commands.specs.declared.work.Work.{Work}
use Rattle.dump_command.specs.Dumping.{IsStandingWork, installed_text}
use Rattle.dump_command.specs.declared.standing.Standing.{Standing}
use Rattle.dump_command.proofs.DumpedFiles.{skip}
use Rattle.dump_command.proofs.DumpedWork.{same_parts, work_built}

-- ---- names of two parts

both : (a b : Bool) → a && b ≡ true → (a ≡ true) × (b ≡ true)
both true true e = (refl, refl)
both true false e = absurd cc
both false b e = absurd cc

or_false : (a b : Bool) → a || b ≡ false → (a ≡ false) × (b ≡ false)
or_false true b e = absurd cc
or_false false b e = (refl, e)

slash_there : (b : Bool) → not b ≡ false → b ≡ true
slash_there true e = refl
slash_there false e = absurd cc

cut : (name : List ℕ) → nat_lt (position_or_len is_slash name) (length name) ≡ true → name ≡ vendor_of name ++ 47 ∷ project_of name
cut name e =
    let within = ltb-true (position_or_len is_slash name) (length name) e in
    let byte = get_or name (position_or_len is_slash name) 0 in
    let is : byte ≡ 47 = eqb-true byte 47 (slash_there (is_slash byte) (prefix_len_stops (λ b. not (is_slash b)) name 0 within)) in
    split_at_first is_slash name 0 within ∙ ap (λ b. vendor_of name ++ b ∷ project_of name) is

name_parts : (name : List ℕ) → is_package_name name ≡ true → name ≡ vendor_of name ++ 47 ∷ project_of name
unfolding is_package_name
name_parts name e = cut name (both (nat_lt (position_or_len is_slash name) (length name)) (is_part false (vendor_of name) && is_part true (project_of name)) e).0

-- ---- a package's place, and what is written

-- a file of vendor/composer whose name no package has there
composer_same : (name file : List ℕ) → IsMemberName name → list_any (bytes_are_equal (composer_name ++ 47 ∷ file)) written_names ≡ true
    → composer_name ≡ vendor_of name → file ≡ project_of name → ⊥
unfolding is_reserved
composer_same name file is listed first second =
    let same : name ≡ composer_name ++ 47 ∷ file =
    name_parts name is.0 ∙ ap (λ front. front ++ 47 ∷ project_of name) (sym first) ∙ ap (λ back. composer_name ++ 47 ∷ back) (sym second) in
    let there : list_any (bytes_are_equal name) written_names ≡ true = ap (λ text. list_any (bytes_are_equal text) written_names) same ∙ listed in
    false≢true (sym (or_false (bytes_are_equal (vendor_of name) autoload_file) (list_any (bytes_are_equal name) written_names) is.1).1 ∙ there)

two_off : (w q v p : List ℕ) (below : List (List ℕ)) → (w ≡ v → q ≡ p → ⊥) → behind (w ∷ q ∷ []) (v ∷ p ∷ below) ≡ None
two_off w q v p below differ = by_first (bytes_are_equal w v) refl
  where
    by_second : (b : Bool) → bytes_are_equal q p ≡ b → w ≡ v → cond b (behind [] below) None ≡ None
    by_second true e same = absurd (differ same (same_bytes q p e))
    by_second false e same = refl

    by_first : (b : Bool) → bytes_are_equal w v ≡ b → cond b (behind (q ∷ []) (p ∷ below)) None ≡ None
    by_first true e = by_second (bytes_are_equal q p) refl (same_bytes w v e)
    by_first false e = refl

-- what stands at and below a package's place, counted from the project
abbrev below_member : List ℕ → List (List ℕ) → List (List ℕ)
below_member name below = codes "vendor" ∷ vendor_of name ∷ project_of name ∷ below

composer_off : (name file : List ℕ) (below : List (List ℕ)) → IsMemberName name → list_any (bytes_are_equal (composer_name ++ 47 ∷ file)) written_names ≡ true
    → behind (codes "vendor" ∷ composer_name ∷ file ∷ []) (below_member name below) ≡ None
composer_off name file below is listed = two_off composer_name file (vendor_of name) (project_of name) below (composer_same name file is listed)

-- the autoloader, in vendor itself
loader_off : (name : List ℕ) (below : List (List ℕ)) → IsMemberName name → behind (codes "vendor" ∷ codes "autoload.php" ∷ []) (below_member name below) ≡ None
unfolding is_reserved autoload_file
loader_off name below is = by (bytes_are_equal (codes "autoload.php") (vendor_of name)) refl
  where
    by : (b : Bool) → bytes_are_equal (codes "autoload.php") (vendor_of name) ≡ b → cond b (behind [] (project_of name ∷ below)) None ≡ None
    by true e =
        let same = same_bytes (codes "autoload.php") (vendor_of name) e in
        let there : bytes_are_equal (vendor_of name) (codes "autoload.php") ≡ true = ap (λ text. bytes_are_equal text (codes "autoload.php")) (sym same) ∙ bytes_same (codes "autoload.php") in
        absurd (false≢true (sym (or_false (bytes_are_equal (vendor_of name) (codes "autoload.php")) (list_any (bytes_are_equal name) written_names) is.1).0 ∙ there))
    by false e = refl

-- ---- files elsewhere

-- a path that is at or below the target of no file
abbrev AreOff : List (List ℕ) → List WrittenFile → Type 0
AreOff path [] = Unit {0}
AreOff path (file ∷ written) = (behind (target_of file) path ≡ None) × AreOff path written

files_off : (name : List ℕ) (texts : TableTexts) (installed : Option (List ℕ)) (below : List (List ℕ)) → IsMemberName name → AreOff (below_member name below) (written_files texts installed)
unfolding written_files written_names composer_name table_name vendor_name
files_off name texts installed below is = (
  composer_off name (codes "autoload_psr4.php") below is refl,
  (
    composer_off name (codes "autoload_namespaces.php") below is refl,
    (
      composer_off name (codes "autoload_classmap.php") below is refl,
      (
        composer_off name (codes "autoload_files.php") below is refl,
        (composer_off name (codes "autoload_state.php") below is refl, (composer_off name (codes "installed.json") below is refl, (loader_off name below is, tt))),
      ),
    ),
  ),
)

off_files : (project : List (List ℕ)) (t : FileTree) (old : Files) (path : List (List ℕ)) (written : List WrittenFile) → AreOff path written
    → job_result project t (parts_of written) old (project ++ path) ≡ old (project ++ path)
unfolding job_result
off_files project t old path [] off = refl
off_files project t old path (file ∷ written) off = skip project t old (target_of file) path file.text (parts_of written) off.0 ∙ off_files project t old path written off.1

-- ---- one package

place_below : (project : List (List ℕ)) (name : List ℕ) (below : List (List ℕ)) → package_place project name ++ below ≡ project ++ below_member name below
place_below [] name below = refl
place_below (x ∷ project) name below = ap (λ (rest : List (List ℕ)). x ∷ rest) (place_below project name below)

in_tree : (t : FileTree) (project : List (List ℕ)) (name : List ℕ) (below : List (List ℕ)) → file_in t (package_place project name ++ below) ≡ file_at t (package_place project name ++ below)
in_tree t [] name below = refl
in_tree t (x ∷ project) name below = refl

in_project : (project : List (List ℕ)) (name : List ℕ) (below : List (List ℕ)) → is_project_part project (package_place project name ++ below) ≡ true
unfolding is_project_part
in_project project name below =
    any (is_within (lock_path project) (package_place project name ++ below)) _ (within (vendor_path project) (vendor_of name ∷ project_of name ∷ []) below)
  where
    any : (a b : Bool) → b ≡ true → a || b ≡ true
    any true b e = refl
    any false b e = e

    within : (head rest more : List (List ℕ)) → is_within head ((head ++ rest) ++ more) ≡ true
    within [] rest more = refl
    within (x ∷ head) rest more = ap (λ (same : Bool). is_some (cond same (behind head ((head ++ rest) ++ more)) None)) (bytes_same x) ∙ within head rest more

-- ---- all packages

module _ (project : List (List ℕ)) (t u : FileTree) (left after : ℕ) (standing : Standing) (work : Work) (made : IsStandingWork t project left after standing (Ok work))
    (old : Files) (same_old : (path : List (List ℕ)) → old path ≡ file_at t path) (stand : HasFiles project u (job_result project t work.job.parts old)) where
  kept : (name : List ℕ) (below : List (List ℕ)) → IsMemberName name → file_at u (package_place project name ++ below) ≡ file_at t (package_place project name ++ below)
  kept name below is =
      let path = package_place project name ++ below in
      let built = work_built t project left after standing work made in
      let texts = printed project built.0.tables in
      let written = written_files texts (installed_text standing.is_listed) in
      stand.each path (in_project project name below)
      ∙ ap (λ (parts : List Part). job_result project t parts old path) (same_parts project standing.is_listed built.0 work built.1.1)
      ∙ ap (λ (at : List (List ℕ)). job_result project t (parts_of written) old at) (place_below project name below)
      ∙ off_files project t old (below_member name below) written (files_off name texts (installed_text standing.is_listed) below is)
      ∙ ap old (sym (place_below project name below)) ∙ same_old path

  pub packages_kept : (packages : List Package) → AllByRecursion IsMember packages
      → AllByRecursion (λ (one : Placed). (below : List (List ℕ)) → file_in u (one.shown ++ below) ≡ file_of_package t one below) (members_in_place project packages)
  packages_kept [] are = tt
  packages_kept (party ∷ packages) are = (
    λ below. in_tree u project party.name below ∙ kept party.name below are.0.name ∙ sym (in_tree t project party.name below),
    packages_kept packages are.1,
  )
