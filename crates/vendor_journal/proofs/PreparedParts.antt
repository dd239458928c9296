-- The parts that were made ready, by their numbers.
use Rattle.std.proofs.Common.{◌≡◌, ◌≢◌, ℕ, zero, suc, ◌+◌, ◌<◌, true, List, [], ◌∷◌, ◌++◌, length, codes, Some, refl, sym, ap, ◌∙◌, subst, inl, inr, arith, append_assoc}
use Rattle.std.specs.Prelude.{◌⊎◌}
use Rattle.std.specs.Str.{is_utf8, chars}
use Rattle.std.proofs.lemmas.List.{length-append}
use Rattle.path_name.specs.Paths.{is_segment}
use Rattle.std.specs.List.{slice_get}
use Rattle.std.proofs.lemmas.Option.{get_or_from_slice_get, slice_get_within}
use Rattle.tree_dev.specs.Trees.{FileTree}
use Rattle.install_world.specs.InFlight.{IsPart, IsPartDone, draft_path}
use Rattle.install_world.specs.JournalText.{IsJournal}
use Rattle.install_world.specs.Moving.{ArePlaces, ChangesPlaces, IsOnWay, Way}
use Rattle.install_world.specs.Targets.{IsTargetPath}
use Rattle.install_world.specs.declared.journal.Journal.{Journal}
use Rattle.install_world.specs.declared.version.Version.TheVariants.{Two}
use Rattle.install_world.specs.declared.target.Target.{Target}
use Rattle.install_world.proofs.PartFinish.{done_then_moved, way_apart, way_number, way_target}
use Rattle.vendor_journal.specs.Prepared.{ArePrepared, IsPreparedPart}
use Rattle.vendor_journal.specs.declared.prepared.PreparedPart.{PreparedPart}

-- the target of a part
pub record HasTarget (project : List (List ℕ)) (targets : List Target) (number : ℕ) (part : PreparedPart) : Type 0 where
  pub target : Target
  pub is_part : IsPart targets number target
  pub is_prepared : IsPreparedPart project number target part

some_there : (targets : List Target) (number : ℕ) → number < length targets → (target : Target) × (slice_get targets number ≡ Some target)
some_there [] number below = absurd (omega arith)
some_there (x ∷ xs) zero below = (x, refl)
some_there (x ∷ xs) (suc number) below = some_there xs number (omega arith)

pub part_of : (project : List (List ℕ)) (targets : List Target) (parts : List PreparedPart) → ArePrepared project targets parts → (number : ℕ) (part : PreparedPart)
    → slice_get parts number ≡ Some part → HasTarget project targets number part
part_of project targets parts are number part there =
    let inside = slice_get_within parts number part there in
    let count = are.count in
    let found = some_there targets number (omega arith) in
    record { target = found.0; is_part = found.1; is_prepared = are.each number found.0 part found.1 there }

-- what is done stays so while another part is moved
pub others_stay : (way : Way) (t : FileTree) → IsOnWay way t → (number j : ℕ) (target other : Target) (part : PreparedPart) → IsPreparedPart way.project number target part
    → IsPart way.journal.targets number target → IsPart way.journal.targets j other → number ≢ j → (read now : FileTree) → ChangesPlaces part.places read now → t ≡ read
    → IsPartDone other.gone way.project j other read → IsPartDone other.gone way.project j other now
others_stay way t on number j target other part is mine there differs read now moves reads done =
    done_then_moved way.project number j target other part.places is.places (way_target way t on j other there)
    (way_number way t on number target mine) (way_number way t on j other there) differs
    (way_apart way t on number j target other differs mine there) read now moves other.gone done

-- ---- parts that are made ready one by one

pub pushed_length : (xs : List PreparedPart) (x : PreparedPart) → length (xs ++ x ∷ []) ≡ length xs + 1
pushed_length xs x = length-append xs (x ∷ [])

pub pushed_get : (xs : List PreparedPart) (x : PreparedPart) (j : ℕ) (y : PreparedPart) → slice_get (xs ++ x ∷ []) j ≡ Some y
    → (slice_get xs j ≡ Some y) ⊎ ((j ≡ length xs) × (y ≡ x))
pushed_get [] x zero y e = inr (refl, cc)
pushed_get [] x (suc j) y e = absurd cc
pushed_get (z ∷ zs) x zero y e = inl e
pushed_get (z ∷ zs) x (suc j) y e = by (pushed_get zs x j y e)
  where
    by : (slice_get zs j ≡ Some y) ⊎ ((j ≡ length zs) × (y ≡ x)) → (slice_get zs j ≡ Some y) ⊎ ((suc j ≡ length (z ∷ zs)) × (y ≡ x))
    by (inl found) = inl found
    by (inr last) = inr (ap suc last.0, last.1)

-- the part that was made ready last
pub part_at : (project : List (List ℕ)) (targets : List Target) (number j : ℕ) (mine target : Target) (part made : PreparedPart) → number ≡ j → IsPart targets number mine → IsPart targets j target
    → ArePlaces project number mine made.places → made.gone ≡ mine.gone → part ≡ made → IsPreparedPart project j target part
part_at project targets number j mine target part made e there here are mark is =
    let again : slice_get targets number ≡ Some target = ap (slice_get targets) e ∙ here in
    let same : mine ≡ target = cc in
    subst (λ n. IsPreparedPart project n target part) e
    (subst (λ (x : Target). IsPreparedPart project number x part) same
    (subst (λ (p : PreparedPart). IsPreparedPart project number mine p) (sym is) (record { places = are; mark = mark })))

pub targets_are : (journal : Journal) → IsJournal Two journal → (number : ℕ) (target : Target) → IsPart journal.targets number target → IsTargetPath target.path
targets_are journal is number target part =
    subst (λ (x : Target). IsTargetPath x.path) (get_or_from_slice_get journal.targets number target target part)
    (is.job.each number target (slice_get_within journal.targets number target part)).place

pub draft_segment : is_segment (codes "journal.tmp") ≡ true
unfolding is_utf8 chars lib.Utf8.encode
draft_segment = refl

pub draft_is : (project work at : List (List ℕ)) → work ≡ project ++ codes ".install" ∷ [] → at ≡ work ++ codes "journal.tmp" ∷ [] → at ≡ draft_path project
draft_is project work at is_work is = is ∙ ap (λ p. p ++ codes "journal.tmp" ∷ []) is_work ∙ append_assoc project (codes ".install" ∷ []) (codes "journal.tmp" ∷ [])
