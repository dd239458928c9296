-- Packages that are installed stand as the walks for their classes saw them.
use Rattle.std.proofs.Common.{◌≡◌, ℕ, Bool, true, false, cond, List, [], ◌∷◌, ◌++◌, codes, Option, Some, None, is_some, Ok, refl, sym, ap, subst, ◌∙◌}
use Rattle.std.specs.Prelude.{◌||◌, not}
use Rattle.std.specs.FinMap as maps
use Rattle.std.specs.List.{AllByRecursion}
use Rattle.path_name.specs.Given.{◌>>=◌}
use Rattle.path_name.specs.Orders.{bytes_are_equal}
use Rattle.tree_dev.specs.Projects.{bytes_of, file_at, is_project_part, is_within, lock_path, vendor_path, work_path}
use Rattle.tree_dev.specs.Trees.{FileTree, IsTree, behind}
use Rattle.tree_dev.proofs.Behind.{bytes_same, same_bytes}
use Rattle.tree_dev.proofs.ProjectParts.{behind_same_head}
use Rattle.install_world.specs.InFlight.{HasFiles}
use Rattle.lock_file.specs.declared.types.Locked.{Locked}
use Rattle.manifest_read.specs.Names.{project_of, vendor_of}
use Rattle.package_moves.proofs.Results.{bytes_at}
use Rattle.psr_routes.specs.declared.types.Placed.{Placed}
use Rattle.stage_job.specs.Jobs.{Files, job_result}
use Rattle.stage_job.specs.Mirrored.{is_left_out, mirrored}
use Rattle.class_walk.specs.Walks.{is_skipped}
use Rattle.autoload_build.specs.ClassAgreement.{file_in, file_of_package}
use Rattle.autoload_build.specs.Jobs.{not_copied}
use Rattle.install_choice.specs.declared.chosen.Chosen.{Chosen}
use Rattle.install_choice.proofs.Steps.{both_ok, same_value}
use Rattle.install_commands.specs.declared.work.Work.{Work}
use Rattle.install_sources.specs.Folders.{package_place}
use Rattle.install_sources.specs.Sources.{copied_from, placed_each, placed_in, source_checked, source_folder}
use Rattle.table_files.specs.declared.building.Setting.{Setting}
use Rattle.install_packages.specs.Installations.{ArePackagesAt, ArePackagesShown, Installation, installed_files}
use Rattle.install_packages.proofs.NewProjects.{new_project, packages_stand}

-- ---- the top entries that are left out

same_both : (a b : List ℕ) → bytes_are_equal a b ≡ bytes_are_equal b a
same_both a b = by (bytes_are_equal a b) refl (bytes_are_equal b a) refl
  where
    by : (x : Bool) → bytes_are_equal a b ≡ x → (y : Bool) → bytes_are_equal b a ≡ y → x ≡ y
    by true e true f = refl
    by false e false f = refl
    by true e false f = sym (bytes_same b) ∙ ap (bytes_are_equal b) (sym (same_bytes a b e)) ∙ f
    by false e true f = sym e ∙ ap (bytes_are_equal a) (same_bytes b a f) ∙ bytes_same a

found_first : (b : Bool) (rest : List (List ℕ)) → is_some (cond b (Some rest) None) ≡ b
found_first true rest = refl
found_first false rest = refl

pub top_within : (source : List (List ℕ)) (name top : List ℕ) (rest : List (List ℕ)) → is_within (source ++ name ∷ []) (source ++ top ∷ rest) ≡ bytes_are_equal top name
top_within source name top rest =
    ap is_some (behind_same_head source (name ∷ []) (top ∷ rest)) ∙ found_first (bytes_are_equal name top) rest ∙ same_both name top

pub none_within : (source : List (List ℕ)) (name : List ℕ) → is_within (source ++ name ∷ []) (source ++ []) ≡ false
none_within source name = ap is_some (behind_same_head source (name ∷ []) [])

any_of_three : (a b d : Bool) → a || (b || (d || false)) ≡ a || b || d
any_of_three true b d = refl
any_of_three false true d = refl
any_of_three false false true = refl
any_of_three false false false = refl

three_same : (a b d x y z : Bool) → a ≡ x → b ≡ y → d ≡ z → a || (b || (d || false)) ≡ x || y || z
three_same a b d x y z p q r =
    any_of_three a b d ∙ ap (λ (k : Bool). k || b || d) p ∙ ap (λ (k : Bool). x || k || d) q ∙ ap (λ (k : Bool). x || y || k) r

top_skipped : (source : List (List ℕ)) (top : List ℕ) (rest : List (List ℕ)) → is_skipped (not_copied source) (source ++ top ∷ rest) ≡ is_left_out top
unfolding is_left_out
top_skipped source top rest =
    three_same (is_within (vendor_path source) (source ++ top ∷ rest)) (is_within (source ++ codes ".git" ∷ []) (source ++ top ∷ rest)) (is_within (work_path source) (source ++ top ∷ rest))
    (bytes_are_equal top (codes "vendor")) (bytes_are_equal top (codes ".git")) (bytes_are_equal top (codes ".install"))
    (top_within source (codes "vendor") top rest) (top_within source (codes ".git") top rest) (top_within source (codes ".install") top rest)

none_skipped : (source : List (List ℕ)) → is_skipped (not_copied source) (source ++ []) ≡ false
none_skipped source =
    three_same (is_within (vendor_path source) (source ++ [])) (is_within (source ++ codes ".git" ∷ []) (source ++ [])) (is_within (work_path source) (source ++ [])) false false false
    (none_within source (codes "vendor")) (none_within source (codes ".git")) (none_within source (codes ".install"))

-- ---- what is seen of a package, and what its copy holds

module _ (t : FileTree) (tree : IsTree t) (source : List (List ℕ)) where
  abbrev seen : List (List ℕ) → Option (List ℕ)
  seen below = cond (is_skipped (not_copied source) (source ++ below)) None (file_in t (source ++ below))

  kept : (out : Bool) (top : List ℕ) (rest : List (List ℕ)) → bytes_of (cond (not out) (maps.get t (source ++ top ∷ rest)) None) ≡ cond out None (file_in t (source ++ top ∷ rest))
  kept true top rest = refl
  kept false top rest = sym (bytes_at t (source ++ top ∷ rest) tree)

  copy_seen : (below : List (List ℕ)) → bytes_of (mirrored t source below) ≡ seen below
  copy_seen [] = sym (bytes_at t (source ++ []) tree) ∙ sym (ap (λ (b : Bool). cond b None (file_in t (source ++ []))) (none_skipped source))
  copy_seen (top ∷ rest) =
      kept (is_left_out top) top rest ∙ sym (ap (λ (b : Bool). cond b None (file_in t (source ++ top ∷ rest))) (top_skipped source top rest))

-- ---- all packages

abbrev pub IsCopied : List (List ℕ) → Placed → Type 0
IsCopied at one = (one.mirrored ≡ true) × (one.shown ≡ package_place at one.«package».name)

copied : (t : FileTree) (at : List (List ℕ)) (locked : Locked) (one : Placed) → placed_in t at locked ≡ Ok one → IsCopied at one
unfolding placed_in
copied t at locked one e =
    let folder = both_ok (source_folder at locked) (λ place. source_checked t at place >>= λ found. Ok (copied_from at locked.«package» found)) one e in
    let found = both_ok (source_checked t at folder.0) (λ place. Ok (copied_from at locked.«package» place)) one folder.2 in
    subst (IsCopied at) (same_value (copied_from at locked.«package» found.0) one found.2) (refl, refl)

all_copied : (t : FileTree) (at : List (List ℕ)) (entries : List Locked) (members : List Placed) → placed_each t at entries ≡ Ok members → AllByRecursion (IsCopied at) members
unfolding placed_each
all_copied t at [] members e = subst (AllByRecursion (IsCopied at)) (same_value [] members e) tt
all_copied t at (locked ∷ entries) members e =
    let one = both_ok (placed_in t at locked) (λ placed. placed_each t at entries >>= λ rest. Ok (placed ∷ rest)) members e in
    let more = both_ok (placed_each t at entries) (λ rest. Ok (one.0 ∷ rest)) members one.2 in
    subst (AllByRecursion (IsCopied at)) (same_value (one.0 ∷ more.0) members more.2) (copied t at locked one.0 one.1, all_copied t at entries more.0 more.1)

in_project : (at : List (List ℕ)) (name : List ℕ) (below : List (List ℕ)) → is_project_part at (package_place at name ++ below) ≡ true
unfolding is_project_part
in_project at name below = any (is_within (lock_path at) (package_place at name ++ below)) _ (within (vendor_path at) (vendor_of name ∷ project_of name ∷ []) below)
  where
    any : (a b : Bool) → b ≡ true → a || b ≡ true
    any true b e = refl
    any false b e = e

    within : (head rest more : List (List ℕ)) → is_within head ((head ++ rest) ++ more) ≡ true
    within [] rest more = refl
    within (x ∷ head) rest more = ap (λ (same : Bool). is_some (cond same (behind head ((head ++ rest) ++ more)) None)) (bytes_same x) ∙ within head rest more

module _ (at : List (List ℕ)) (t u : FileTree) (files : Files) (tree : IsTree t) (left : IsTree u) (stand : HasFiles at u files) where
  one_shown : (one : Placed) → IsCopied at one → ((below : List (List ℕ)) → files (package_place at one.«package».name ++ below) ≡ bytes_of (mirrored t one.at below))
      → (below : List (List ℕ)) → file_in u (one.shown ++ below) ≡ file_of_package t one below
  one_shown one is copies below =
      let place = package_place at one.«package».name ++ below in
      ap (λ (path : List (List ℕ)). file_in u (path ++ below)) is.1 ∙ bytes_at u place left ∙ stand.each place (in_project at one.«package».name below) ∙ copies below ∙ copy_seen t tree one.at below
      ∙ ap (λ (b : Bool). cond (is_skipped (cond b (not_copied one.at) []) (one.at ++ below)) None (file_in t (one.at ++ below))) (sym is.0)

  all_shown : (members : List Placed) → AllByRecursion (IsCopied at) members → ArePackagesAt at t files members → ArePackagesShown t u members
  all_shown [] are copies = tt
  all_shown (one ∷ members) are copies = (one_shown one are.0 copies.0, all_shown members are.1 copies.1)

-- ---- an installation

module _ (t : FileTree) (at : List (List ℕ)) (chosen : Chosen) (setting : Setting) (left after : ℕ) (work : Work) (made : Installation t at chosen setting left after work) where
  pub members_copied : AllByRecursion (IsCopied at) made.members
  members_copied = all_copied t at made.are_members.entries made.members (sym made.are_members.is_made)

  pub packages_shown : (u : FileTree) → IsTree t → IsTree u → HasFiles at u (job_result at t work.job.parts (file_at t)) → ArePackagesShown t u made.members
  packages_shown u tree standing stand =
      let new : HasFiles at u (installed_files at t made.members made.files (file_at t)) =
      record { each = λ path part. stand.each path part ∙ new_project t at chosen setting left after work made path tree } in
      all_shown at t u (installed_files at t made.members made.files (file_at t)) tree standing new made.members members_copied (packages_stand t at chosen setting left after work made (file_at t))
