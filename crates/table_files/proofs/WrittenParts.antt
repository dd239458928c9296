-- The files that are written, as parts of a job.
use Rattle.std.proofs.Common.{◌≡◌, ℕ, Bool, false, cond, List, [], ◌∷◌, ◌++◌, codes, Option, Some, None, refl, ap, inr}
use Rattle.std.specs.Prelude.{◌≢◌}
use Rattle.path_name.specs.Orders.{bytes_are_equal}
use Rattle.stage_job.specs.Jobs.{AreApart, AreParts, IsTarget, IsTargetApart}
use Rattle.stage_job.specs.declared.job.Part.{Part}
use Rattle.table_scan.specs.TableGrammar.{vendor_name}
use Rattle.table_scan.specs.TableNames.{table_name}
use Rattle.table_scan.specs.declared.types.TableFile.TheVariants as files
use Rattle.table_scan.specs.declared.types.TableTexts.{TableTexts}
use Rattle.table_print.specs.AutoloadText.{autoload_text}
use Rattle.project_files.specs.Places.{autoloader_place, composer_name}
use Rattle.table_files.specs.Written.{file_at_place, part_of, parts_of, target_of, text_part, written_files}
use Rattle.table_files.specs.declared.written.FilePlace.{FilePlace}
use Rattle.table_files.specs.declared.written.FilePlace.TheVariants as places
use Rattle.table_files.specs.declared.written.WrittenFile.{WrittenFile}

-- ---- parts of a job

-- the target of a file is not at, below or above that of another
abbrev pub IsFileApart : List (List ℕ) → List WrittenFile → Type 0
IsFileApart target [] = Unit {0}
IsFileApart target (other ∷ written) = AreApart target (target_of other) × IsFileApart target written

abbrev pub AreTargets : List WrittenFile → Type 0
AreTargets [] = Unit {0}
AreTargets (file ∷ written) = IsTarget (target_of file) × IsFileApart (target_of file) written × AreTargets written

apart_part : (target other : List (List ℕ)) (text : Option (List ℕ)) (rest : List Part) → AreApart target other → IsTargetApart target rest → IsTargetApart target (text_part other text ++ rest)
apart_part target other None rest apart more = more
apart_part target other (Some text) rest apart more = (apart, more)

apart_parts : (target : List (List ℕ)) (written : List WrittenFile) → IsFileApart target written → IsTargetApart target (parts_of written)
apart_parts target [] apart = tt
apart_parts target (file ∷ written) apart = apart_part target (target_of file) file.text (parts_of written) apart.0 (apart_parts target written apart.1)

put_part : (project target : List (List ℕ)) (text : Option (List ℕ)) (rest : List Part) → IsTarget target → IsTargetApart target rest → AreParts project rest → AreParts project (text_part target text ++ rest)
put_part project target None rest is apart more = more
put_part project target (Some text) rest is apart more = (is, tt, apart, more)

pub parts_are : (project : List (List ℕ)) (written : List WrittenFile) → AreTargets written → AreParts project (parts_of written)
parts_are project [] are = tt
parts_are project (file ∷ written) are =
    put_part project (target_of file) file.text (parts_of written) are.0 (apart_parts (target_of file) written are.1) (parts_are project written are.2)

-- ---- these files

composer_target : (name : List ℕ) → IsTarget (vendor_name ∷ composer_name ∷ name ∷ [])
unfolding vendor_name
composer_target name = inr refl

loader_target : IsTarget (autoloader_place [])
unfolding vendor_name
loader_target = inr refl

names_apart : (a b : List ℕ) → bytes_are_equal a b ≡ false → bytes_are_equal b a ≡ false → AreApart (vendor_name ∷ composer_name ∷ a ∷ []) (vendor_name ∷ composer_name ∷ b ∷ [])
unfolding vendor_name composer_name
names_apart a b e f = (ap (λ (x : Bool). cond x (Some []) None) e, ap (λ (x : Bool). cond x (Some []) None) f)

loader_apart : (a : List ℕ) → AreApart (vendor_name ∷ composer_name ∷ a ∷ []) (autoloader_place [])
unfolding vendor_name composer_name
loader_apart a = (refl, refl)

pub are_targets : (texts : TableTexts) (installed : Option (List ℕ)) → AreTargets (written_files texts installed)
unfolding written_files table_name
are_targets texts installed = (
  composer_target (table_name files.Psr4),
  (
    names_apart (table_name files.Psr4) (table_name files.Psr0) refl refl,
    (
      names_apart (table_name files.Psr4) (table_name files.ClassMap) refl refl,
      (
        names_apart (table_name files.Psr4) (table_name files.Files) refl refl,
        (
          names_apart (table_name files.Psr4) (table_name files.State) refl refl,
          (
            names_apart (table_name files.Psr4) (codes "installed.json") refl refl,
            (loader_apart (table_name files.Psr4), tt),
          ),
        ),
      ),
    ),
  ),
  (
    composer_target (table_name files.Psr0),
    (
      names_apart (table_name files.Psr0) (table_name files.ClassMap) refl refl,
      (
        names_apart (table_name files.Psr0) (table_name files.Files) refl refl,
        (
          names_apart (table_name files.Psr0) (table_name files.State) refl refl,
          (
            names_apart (table_name files.Psr0) (codes "installed.json") refl refl,
            (loader_apart (table_name files.Psr0), tt),
          ),
        ),
      ),
    ),
    (
      composer_target (table_name files.ClassMap),
      (
        names_apart (table_name files.ClassMap) (table_name files.Files) refl refl,
        (
          names_apart (table_name files.ClassMap) (table_name files.State) refl refl,
          (
            names_apart (table_name files.ClassMap) (codes "installed.json") refl refl,
            (loader_apart (table_name files.ClassMap), tt),
          ),
        ),
      ),
      (
        composer_target (table_name files.Files),
        (
          names_apart (table_name files.Files) (table_name files.State) refl refl,
          (
            names_apart (table_name files.Files) (codes "installed.json") refl refl,
            (loader_apart (table_name files.Files), tt),
          ),
        ),
        (
          composer_target (table_name files.State),
          (names_apart (table_name files.State) (codes "installed.json") refl refl, (loader_apart (table_name files.State), tt)),
          (
            composer_target (codes "installed.json"),
            (loader_apart (codes "installed.json"), tt),
            (loader_target, tt, tt),
          ),
        ),
      ),
    ),
  ),
)

-- ---- there is a part

right_empty : (xs ys : List Part) → xs ++ ys ≡ [] → ys ≡ []
right_empty [] ys e = e
right_empty (x ∷ xs) ys e = absurd cc

last_there : (written : List WrittenFile) (place : FilePlace) (text : List ℕ) → parts_of (written ++ file_at_place place (Some text) ∷ []) ≡ [] → ⊥
last_there [] place text e = absurd cc
last_there (file ∷ written) place text e = last_there written place text (right_empty (part_of file) (parts_of (written ++ file_at_place place (Some text) ∷ [])) e)

pub some_parts : (texts : TableTexts) (installed : Option (List ℕ)) → parts_of (written_files texts installed) ≢ []
unfolding written_files
some_parts texts installed =
    last_there
    (file_at_place (places.Table files.Psr4) texts.psr4
    ∷ file_at_place (places.Table files.Psr0) texts.psr0
    ∷ file_at_place (places.Table files.ClassMap) texts.class_map
    ∷ file_at_place (places.Table files.Files) texts.files
    ∷ file_at_place (places.Table files.State) texts.state
    ∷ file_at_place places.Installed installed ∷ [])
    places.Autoloader autoload_text
