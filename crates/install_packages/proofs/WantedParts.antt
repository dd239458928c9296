-- What is wanted of a project: copies of packages and written files, at targets that are apart.
use Rattle.std.proofs.Common.{◌≡◌, ℕ, Bool, true, false, cond, List, [], ◌∷◌, ◌++◌, length, map, get_or, Option, Some, None, refl, sym, ap, ◌∙◌, inl, inr, ltb-true, eqb-true}
use Rattle.std.specs.Prelude.{◌&&◌, ◌||◌, not, nat_lt, codes, is_some}
use Rattle.std.specs.List.{AllByRecursion, IsDistinct, list_any, position_or_len}
use Rattle.std.proofs.lemmas.Bool.{false≢true}
use Rattle.std.proofs.lemmas.List.Sums.{split_at_first, prefix_len_stops}
use Rattle.path_name.specs.Orders.{bytes_are_equal}
use Rattle.path_name.specs.Paths.{is_slash}
use Rattle.tree_dev.specs.Projects.{is_within, vendor_path, work_path}
use Rattle.tree_dev.specs.Trees.{behind}
use Rattle.tree_dev.proofs.Behind.{bytes_same, same_bytes}
use Rattle.manifest_read.specs.Names.{autoload_file, is_package_name, is_part, is_reserved, project_of, vendor_of, written_names}
use Rattle.pkg_pool.specs.Patterns.{is_barred, is_installed}
use Rattle.package_moves.specs.Wanted.{AreWanted, IsWantedTarget, is_short}
use Rattle.psr_routes.specs.declared.types.Placed.{Placed}
use Rattle.stage_job.specs.Jobs.{AreApart, AreParts, CanCopy, CanPut, IsTarget, IsTargetApart}
use Rattle.stage_job.specs.declared.job.Part.{Part}
use Rattle.table_scan.specs.TableGrammar.{vendor_name}
use Rattle.table_scan.specs.TableNames.{table_name}
use Rattle.table_scan.specs.declared.types.TableTexts.{TableTexts}
use Rattle.project_files.specs.Places.{composer_name}
use Rattle.install_packages.specs.InstallParts.{copy_parts, install_files}
use Rattle.install_sources.specs.Folders.{package_place}
use Rattle.install_sources.specs.Sources.{AreSources, IsNamed, IsSource, placed_name}
use Rattle.table_files.specs.Written.{parts_of, target_of, text_part, written_files}
use Rattle.table_files.specs.declared.written.WrittenFile.{WrittenFile}

-- ---- names of two parts

both : (a b : Bool) → a && b ≡ true → (a ≡ true) × (b ≡ true)
both true true e = (refl, refl)
both true false e = absurd cc
both false b e = absurd cc

slash_there : (b : Bool) → not b ≡ false → b ≡ true
slash_there true e = refl
slash_there false e = absurd cc

cut : (name : List ℕ) → nat_lt (position_or_len is_slash name) (length name) ≡ true → name ≡ vendor_of name ++ 47 ∷ project_of name
cut name e =
    let within = ltb-true (position_or_len is_slash name) (length name) e in
    let byte = get_or name (position_or_len is_slash name) 0 in
    let is : byte ≡ 47 = eqb-true byte 47 (slash_there (is_slash byte) (prefix_len_stops (λ b. not (is_slash b)) name 0 within)) in
    split_at_first is_slash name 0 within ∙ ap (λ b. vendor_of name ++ b ∷ project_of name) is

pub name_parts : (name : List ℕ) → is_package_name name ≡ true → name ≡ vendor_of name ++ 47 ∷ project_of name
unfolding is_package_name
name_parts name e = cut name (both (nat_lt (position_or_len is_slash name) (length name)) (is_part false (vendor_of name) && is_part true (project_of name)) e).0

-- ---- where a package goes

abbrev package_target : List ℕ → List (List ℕ)
package_target name = package_place [] name

two_apart : (v w p q : List ℕ) → (v ≡ w → p ≡ q → ⊥) → behind (v ∷ p ∷ []) (w ∷ q ∷ []) ≡ None
two_apart v w p q differ = by_first (bytes_are_equal v w) refl
  where
    by_second : (b : Bool) → bytes_are_equal p q ≡ b → v ≡ w → cond b (behind [] []) None ≡ None
    by_second true e same = absurd (differ same (same_bytes p q e))
    by_second false e same = refl

    by_first : (b : Bool) → bytes_are_equal v w ≡ b → cond b (behind (p ∷ []) (q ∷ [])) None ≡ None
    by_first true e = by_second (bytes_are_equal p q) refl (same_bytes v w e)
    by_first false e = refl

joined_same : (v w p q : List ℕ) → v ≡ w → p ≡ q → v ++ 47 ∷ p ≡ w ++ 47 ∷ q
joined_same v w p q first second = ap (λ front. front ++ 47 ∷ p) first ∙ ap (λ back. w ++ 47 ∷ back) second

name_same : (name other : List ℕ) → is_package_name name ≡ true → is_package_name other ≡ true → bytes_are_equal name other ≡ false
    → vendor_of name ≡ vendor_of other → project_of name ≡ project_of other → ⊥
name_same name other n m differ first second =
    let same : name ≡ other = name_parts name n ∙ joined_same (vendor_of name) (vendor_of other) (project_of name) (project_of other) first second ∙ sym (name_parts other m) in
    false≢true (sym differ ∙ ap (λ text. bytes_are_equal name text) (sym same) ∙ bytes_same name)

names_apart : (name other : List ℕ) → is_package_name name ≡ true → is_package_name other ≡ true → bytes_are_equal name other ≡ false → AreApart (package_target name) (package_target other)
names_apart name other n m differ = (
  two_apart (vendor_of name) (vendor_of other) (project_of name) (project_of other) (name_same name other n m differ),
  two_apart (vendor_of other) (vendor_of name) (project_of other) (project_of name) (λ first second. name_same name other n m differ (sym first) (sym second)),
)

-- ---- packages and files

or_false : (a b : Bool) → a || b ≡ false → (a ≡ false) × (b ≡ false)
or_false true b e = absurd cc
or_false false b e = (refl, e)

-- a file of vendor/composer whose name no package has there
composer_same : (name file : List ℕ) → is_package_name name ≡ true → is_reserved name ≡ false → list_any (bytes_are_equal (composer_name ++ 47 ∷ file)) written_names ≡ true
    → vendor_of name ≡ composer_name → project_of name ≡ file → ⊥
unfolding is_reserved
composer_same name file n free listed first second =
    let same : name ≡ composer_name ++ 47 ∷ file = name_parts name n ∙ joined_same (vendor_of name) composer_name (project_of name) file first second in
    let there : list_any (bytes_are_equal name) written_names ≡ true = ap (λ text. list_any (bytes_are_equal text) written_names) same ∙ listed in
    false≢true (sym (or_false (bytes_are_equal (vendor_of name) autoload_file) (list_any (bytes_are_equal name) written_names) free).1 ∙ there)

composer_apart : (name file : List ℕ) → is_package_name name ≡ true → is_reserved name ≡ false → list_any (bytes_are_equal (composer_name ++ 47 ∷ file)) written_names ≡ true
    → AreApart (package_target name) (codes "vendor" ∷ composer_name ∷ file ∷ [])
composer_apart name file n free listed = (
  two_apart (vendor_of name) composer_name (project_of name) file (composer_same name file n free listed),
  two_apart composer_name (vendor_of name) file (project_of name) (λ first second. composer_same name file n free listed (sym first) (sym second)),
)

-- the autoloader, in vendor itself
loader_apart : (name : List ℕ) → is_reserved name ≡ false → AreApart (package_target name) (codes "vendor" ∷ codes "autoload.php" ∷ [])
unfolding is_reserved autoload_file
loader_apart name free = (below (bytes_are_equal (vendor_of name) (codes "autoload.php")), above (bytes_are_equal (codes "autoload.php") (vendor_of name)) refl)
  where
    below : (b : Bool) → cond b (behind (project_of name ∷ []) []) None ≡ None
    below true = refl
    below false = refl

    above : (b : Bool) → bytes_are_equal (codes "autoload.php") (vendor_of name) ≡ b → cond b (behind [] (project_of name ∷ [])) None ≡ None
    above true e =
        let same = same_bytes (codes "autoload.php") (vendor_of name) e in
        let there : bytes_are_equal (vendor_of name) (codes "autoload.php") ≡ true = ap (λ text. bytes_are_equal text (codes "autoload.php")) (sym same) ∙ bytes_same (codes "autoload.php") in
        absurd (false≢true (sym (or_false (bytes_are_equal (vendor_of name) (codes "autoload.php")) (list_any (bytes_are_equal name) written_names) free).0 ∙ there))
    above false e = refl

abbrev IsApartFrom : List ℕ → WrittenFile → Type 0
IsApartFrom name file = AreApart (package_target name) (target_of file)

files_apart : (name : List ℕ) (texts : TableTexts) (installed : List ℕ) (lock : Option (List ℕ)) → is_package_name name ≡ true → is_reserved name ≡ false
    → AllByRecursion (IsApartFrom name) (install_files texts installed lock)
unfolding written_files written_names composer_name table_name vendor_name
files_apart name texts installed lock n free = (
  composer_apart name (codes "autoload_psr4.php") n free refl,
  (
    composer_apart name (codes "autoload_namespaces.php") n free refl,
    (
      composer_apart name (codes "autoload_classmap.php") n free refl,
      (
        composer_apart name (codes "autoload_files.php") n free refl,
        (
          composer_apart name (codes "autoload_state.php") n free refl,
          (
            composer_apart name (codes "installed.json") n free refl,
            (loader_apart name free, ((refl, refl), tt)),
          ),
        ),
      ),
    ),
  ),
)

apart_part : (target other : List (List ℕ)) (text : Option (List ℕ)) (rest : List Part) → AreApart target other → IsTargetApart target rest → IsTargetApart target (text_part other text ++ rest)
apart_part target other None rest apart more = more
apart_part target other (Some text) rest apart more = (apart, more)

file_parts_apart : (name : List ℕ) (files : List WrittenFile) → AllByRecursion (IsApartFrom name) files → IsTargetApart (package_target name) (parts_of files)
file_parts_apart name [] all = tt
file_parts_apart name (file ∷ files) all = apart_part (package_target name) (target_of file) file.text (parts_of files) all.0 (file_parts_apart name files all.1)

-- ---- files

-- each has a target that may be wanted, and they are apart
abbrev AreFilesWanted : List WrittenFile → Type 0
AreFilesWanted [] = Unit {0}
AreFilesWanted (file ∷ files) = IsWantedTarget (target_of file) × AllByRecursion (λ (other : WrittenFile). AreApart (target_of file) (target_of other)) files × AreFilesWanted files

target_apart : (target : List (List ℕ)) (files : List WrittenFile) → AllByRecursion (λ (other : WrittenFile). AreApart target (target_of other)) files → IsTargetApart target (parts_of files)
target_apart target [] all = tt
target_apart target (file ∷ files) all = apart_part target (target_of file) file.text (parts_of files) all.0 (target_apart target files all.1)

wanted_part : (target : List (List ℕ)) (text : Option (List ℕ)) (rest : List Part) → IsWantedTarget target → IsTargetApart target rest → AreWanted rest → AreWanted (text_part target text ++ rest)
wanted_part target None rest is apart more = more
wanted_part target (Some text) rest is apart more = (is, refl, apart, more)

file_parts_wanted : (files : List WrittenFile) → AreFilesWanted files → AreWanted (parts_of files)
file_parts_wanted [] all = tt
file_parts_wanted (file ∷ files) all = wanted_part (target_of file) file.text (parts_of files) all.0 (target_apart (target_of file) files all.1) (file_parts_wanted files all.2)

files_wanted : (texts : TableTexts) (installed : List ℕ) (lock : Option (List ℕ)) → AreFilesWanted (install_files texts installed lock)
unfolding written_files composer_name table_name vendor_name
files_wanted texts installed lock =
    (inr refl, ((refl, refl), ((refl, refl), ((refl, refl), ((refl, refl), ((refl, refl), ((refl, refl), ((refl, refl), tt))))))), (inr refl, ((refl, refl), ((refl, refl), ((refl, refl), ((refl, refl), ((refl, refl), ((refl, refl), tt)))))), (inr refl, ((refl, refl), ((refl, refl), ((refl, refl), ((refl, refl), ((refl, refl), tt))))), (inr refl, ((refl, refl), ((refl, refl), ((refl, refl), ((refl, refl), tt)))), (inr refl, ((refl, refl), ((refl, refl), ((refl, refl), tt))), (inr refl, ((refl, refl), ((refl, refl), tt)), (inr refl, ((refl, refl), tt), (inl refl, tt, tt))))))))

-- ---- copies, and files behind them

apart_append : (target : List (List ℕ)) (xs ys : List Part) → IsTargetApart target xs → IsTargetApart target ys → IsTargetApart target (xs ++ ys)
apart_append target [] ys first second = second
apart_append target (x ∷ xs) ys first second = (first.0, apart_append target xs ys first.1 second)

copies_apart : (name : List ℕ) (members : List Placed) → is_package_name name ≡ true → AllByRecursion IsNamed members → AllByRecursion (λ other. bytes_are_equal name other ≡ false) (map placed_name members)
    → IsTargetApart (package_target name) (copy_parts members)
copies_apart name [] n named differ = tt
copies_apart name (member ∷ members) n named differ = (names_apart name (placed_name member) n named.0.name.0 differ.0, copies_apart name members n named.1 differ.1)

copies_wanted : (members : List Placed) (files : List WrittenFile) → AllByRecursion IsNamed members → IsDistinct bytes_are_equal (map placed_name members) → AreWanted (parts_of files)
    → ((name : List ℕ) → is_package_name name ≡ true → is_reserved name ≡ false → AllByRecursion (IsApartFrom name) files) → AreWanted (copy_parts members ++ parts_of files)
unfolding IsDistinct
copies_wanted [] files named distinct wanted apart = wanted
copies_wanted (member ∷ members) files named distinct wanted apart =
    let name = placed_name member in (
      inr refl,
      refl,
      apart_append (package_target name) (copy_parts members) (parts_of files) (copies_apart name members named.0.name.0 named.1 distinct.0) (file_parts_apart name files (apart name named.0.name.0 named.0.name.1)),
      copies_wanted members files named.1 distinct.1 wanted apart,
    )

pub all_named : (project : List (List ℕ)) (members : List Placed) → AllByRecursion (IsSource project) members → AllByRecursion IsNamed members
all_named project [] all = tt
all_named project (member ∷ members) all = (all.0.member, all_named project members all.1)

-- what is wanted is so that what has to be changed can be told
pub install_wanted : (project : List (List ℕ)) (members : List Placed) (texts : TableTexts) (installed : List ℕ) (lock : Option (List ℕ)) → AreSources project members
    → AreWanted (copy_parts members ++ parts_of (install_files texts installed lock))
install_wanted project members texts installed lock sources =
    copies_wanted members (install_files texts installed lock) (all_named project members sources.each) sources.distinct
    (file_parts_wanted (install_files texts installed lock) (files_wanted texts installed lock))
    (λ name n free. files_apart name texts installed lock n free)

-- ---- what can be put

none_of : {X : Type 0} (o : Option X) → is_some o ≡ false → o ≡ None
none_of None e = refl
none_of (Some x) e = absurd cc

pub can_copy : (project at : List (List ℕ)) → is_barred project at ≡ false → CanCopy project at
unfolding is_barred is_installed
can_copy project at free =
    let outer = or_false (is_within at project) (is_within (vendor_path project) at || is_within (work_path project) at) free in
    let inner = or_false (is_within (vendor_path project) at) (is_within (work_path project) at) outer.1 in
    record { not_above = none_of (behind at project) outer.0; vendor = none_of (behind (vendor_path project) at) inner.0; work = none_of (behind (work_path project) at) inner.1 }

abbrev CanPutPart : List (List ℕ) → Part → Type 0
CanPutPart project part = CanPut project part.from

put_part : (project target : List (List ℕ)) (text : Option (List ℕ)) (rest : List Part) → AllByRecursion (CanPutPart project) rest → AllByRecursion (CanPutPart project) (text_part target text ++ rest)
put_part project target None rest more = more
put_part project target (Some text) rest more = (tt, more)

files_put : (project : List (List ℕ)) (files : List WrittenFile) → AllByRecursion (CanPutPart project) (parts_of files)
files_put project [] = tt
files_put project (file ∷ files) = put_part project (target_of file) file.text (parts_of files) (files_put project files)

all_put : (project : List (List ℕ)) (members : List Placed) (files : List WrittenFile) → AllByRecursion (IsSource project) members → AllByRecursion (CanPutPart project) (copy_parts members ++ parts_of files)
all_put project [] files all = files_put project files
all_put project (member ∷ members) files all = (can_copy project member.at all.0.allowed, all_put project members files all.1)

short_some : (o : Option (List (List ℕ))) → is_short o ≡ true → is_some o ≡ true
short_some None e = absurd cc
short_some (Some path) e = refl

as_target : (target : List (List ℕ)) → IsWantedTarget target → IsTarget target
as_target target (inl same) = inl same
as_target target (inr short) = inr (short_some (behind (codes "vendor" ∷ []) target) short)

parts_put : (project : List (List ℕ)) (parts : List Part) → AreWanted parts → AllByRecursion (CanPutPart project) parts → AreParts project parts
parts_put project [] wanted all = tt
parts_put project (part ∷ parts) wanted all = (as_target part.target wanted.0, all.0, wanted.2, parts_put project parts wanted.3 all.1)

pub install_parts : (project : List (List ℕ)) (members : List Placed) (texts : TableTexts) (installed : List ℕ) (lock : Option (List ℕ)) → AreSources project members
    → AreParts project (copy_parts members ++ parts_of (install_files texts installed lock))
install_parts project members texts installed lock sources =
    parts_put project (copy_parts members ++ parts_of (install_files texts installed lock)) (install_wanted project members texts installed lock sources)
    (all_put project members (install_files texts installed lock) sources.each)
