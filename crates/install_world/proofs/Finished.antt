-- What becomes of a tree in flight, and how it begins.
use Rattle.std.proofs.Common.{◌≡◌, ℕ, zero, suc, ◌+◌, Bool, true, false, cond, List, [], ◌∷◌, ◌++◌, Option, Some, None, is_some, refl, sym, ap, ◌∙◌, subst, inl, inr, arith}
use Rattle.std.specs.Prelude.{AllPairs}
use Rattle.std.specs.FinMap as map
use Rattle.std.proofs.lemmas.Option.{slice_get_within, get_or_from_slice_get}
use Rattle.tree_dev.specs.Trees.{FileTree, behind}
use Rattle.tree_dev.specs.Projects.{file_at, is_project_part}
use Rattle.tree_dev.proofs.Behind.{behind_head, head_behind}
use Rattle.install_world.specs.InFlight.{Files, HasFiles, HasFilesOf, HasJournal, IsMoving, IsPart, HasStagedParts, IsStagedSource, PartInFlight, finished_by, finished_file, job_file, job_result, part_at, part_from, placed_or, Placed, staged_path, target_path}
use Rattle.install_world.specs.Targets.{AreTargetsApart, IsTargetPath}
use Rattle.install_world.specs.declared.journal.Journal.{Journal}
use Rattle.install_world.specs.declared.target.Target.{Target}
use Rattle.install_world.proofs.PartPaths.{target_is_part, targets_apart}

-- ---- the part at a path

abbrev pub placing : ℕ → Bool → List (List ℕ) → Placed
placing number gone below = record { number = number; gone = gone; below = below }

-- a part whose target a path stands at or below
pub record FoundPart (project : List (List ℕ)) (targets : List Target) (path : List (List ℕ)) (part : Placed) (offset : ℕ) : Type 0 where
  pub index : ℕ
  pub target : Target
  pub number : part.number ≡ offset + index
  pub is_part : IsPart targets index target
  pub gone : part.gone ≡ target.gone
  pub path_is : path ≡ target_path project target ++ part.below

found_from : (offset : ℕ) (project path : List (List ℕ)) (targets : List Target) (part : Placed) → part_from offset project targets path ≡ Some part
    → FoundPart project targets path part offset
found_from offset project path [] part e = absurd cc
found_from offset project path (target ∷ targets) part e =
    by (behind (target_path project target) path) refl e (λ rest. found_from (offset + 1) project path targets part rest)
  where
    by : (found : Option (List (List ℕ))) → behind (target_path project target) path ≡ found
        → placed_or found offset target.gone (part_from (offset + 1) project targets path) ≡ Some part
        → (part_from (offset + 1) project targets path ≡ Some part → FoundPart project targets path part (offset + 1))
        → FoundPart project (target ∷ targets) path part offset
    by None behind_is e rest =
        let more = rest e in
        record { index = suc more.index; target = more.target; number = more.number ∙ omega arith; is_part = more.is_part; gone = more.gone; path_is = more.path_is }
    by (Some below) behind_is e rest =
        let first : placing offset target.gone below ≡ part = cc in
        record {
          index = 0;
          target = target;
          number = sym (ap (λ (p : Placed). p.number) first) ∙ omega arith;
          is_part = refl;
          gone = sym (ap (λ (p : Placed). p.gone) first);
          path_is = head_behind (target_path project target) path below behind_is ∙ ap (λ (p : Placed). target_path project target ++ p.below) first;
        }

pub found_part : (project path : List (List ℕ)) (targets : List Target) (part : Placed) → part_at project targets path ≡ Some part
    → FoundPart project targets path part 0
unfolding part_at
found_part project path targets part e = found_from 0 project path targets part e

apart_rest : (x : Target) (xs : List Target) → AllPairs AreTargetsApart (x ∷ xs) → AllPairs AreTargetsApart xs
apart_rest x xs apart i j d less below = apart (suc i) (suc j) d (omega arith) (omega arith)

placed_at : (number offset : ℕ) (project below : List (List ℕ)) (targets : List Target) (target : Target) → AllPairs AreTargetsApart targets → IsPart targets number target
    → part_from offset project targets (target_path project target ++ below) ≡ Some (placing (offset + number) target.gone below)
placed_at number offset project below [] target apart part = absurd cc
placed_at zero offset project below (x ∷ xs) target apart part =
    let same : x ≡ target = cc in
    let there : behind (target_path project x) (target_path project target ++ below) ≡ Some below =
    ap (λ t. behind (target_path project t) (target_path project target ++ below)) same ∙ behind_head (target_path project target) below in
    ap (λ found. placed_or found offset x.gone (part_from (offset + 1) project xs (target_path project target ++ below))) there
    ∙ ap (λ n. Some (placing (n) x.gone below)) (omega arith)
    ∙ ap (λ (t : Target). Some (placing (offset + 0) t.gone below)) same
placed_at (suc number) offset project below (x ∷ xs) target apart part =
    let two : AreTargetsApart x target =
    subst (AreTargetsApart x) (get_or_from_slice_get xs number target target part) (apart 0 (suc number) target (omega arith) (let w = slice_get_within xs number target part in omega arith)) in
    ap (λ found. placed_or found offset x.gone (part_from (offset + 1) project xs (target_path project target ++ below))) (targets_apart project below x target two)
    ∙ placed_at number (offset + 1) project below xs target (apart_rest x xs apart) part
    ∙ ap (λ n. Some (placing (n) target.gone below)) (omega arith)

-- at and below a part's target stands that part, and no other one
pub part_at_target : (number : ℕ) (project below : List (List ℕ)) (targets : List Target) (target : Target) → AllPairs AreTargetsApart targets → IsPart targets number target
    → part_at project targets (target_path project target ++ below) ≡ Some (placing (number) target.gone below)
unfolding part_at
part_at_target number project below targets target apart part =
    placed_at number 0 project below targets target apart part ∙ ap (λ n. Some (placing (n) target.gone below)) (omega arith)

-- ---- what becomes of it

-- the file of a part that is on its way, once it is done
part_finished : (project : List (List ℕ)) (old new : Files) (number : ℕ) (target : Target) (below : List (List ℕ)) (t : FileTree) (is_there : Bool)
    → is_some (map.get t (staged_path project number)) ≡ is_there → PartInFlight false project old new number target t
    → cond is_there (file_at t (staged_path project number ++ below)) (file_at t (target_path project target ++ below)) ≡ new (target_path project target ++ below)
part_finished project old new number target below t true e (inl is) = is.staged.files.each below
part_finished project old new number target below t true e (inr (inl is)) = is.staged.files.each below
part_finished project old new number target below t true e (inr (inr is)) = let none = ap is_some is.unstaged in absurd cc
part_finished project old new number target below t false e (inl is) = let some = is.staged.there in absurd cc
part_finished project old new number target below t false e (inr (inl is)) = let some = is.staged.there in absurd cc
part_finished project old new number target below t false e (inr (inr is)) = is.target_as_after.each below

-- A tree on the way is finished to the new project, whatever was done of it.
pub moving_is_finished : (project : List (List ℕ)) (old new : Files) (t : FileTree) (moving : IsMoving project old new t) (path : List (List ℕ))
    → is_project_part project path ≡ true → finished_by project moving.journal.targets t path ≡ new path
unfolding finished_by job_result
moving_is_finished project old new t moving path in_project = by (part_at project moving.journal.targets path) refl
  where
    targets : List Target
    targets = moving.journal.targets

    by : (found : Option Placed) → part_at project moving.journal.targets path ≡ found → finished_file project t path (part_at project moving.journal.targets path) ≡ new path
    by None e =
        ap (finished_file project t path) e ∙ moving.elsewhere path in_project e
        ∙ sym (moving.result path in_project ∙ ap (job_file moving.puts (old path)) e)
    by (Some part) e = ap (finished_file project t path) e ∙ at_part (found_part project path moving.journal.targets part e) part.gone refl
      where
        at_part : FoundPart project moving.journal.targets path part 0 → (gone : Bool) → part.gone ≡ gone → finished_file project t path (Some part) ≡ new path
        at_part found true is =
            ap (λ g. cond g None (cond (is_some (map.get t (staged_path project part.number))) (file_at t (staged_path project part.number ++ part.below)) (file_at t path))) is
            ∙ sym (moving.result path in_project ∙ ap (job_file moving.puts (old path)) e ∙ ap (λ g. cond g None (moving.puts part.number part.below)) is)
        at_part found false is =
            let number : part.number ≡ found.index = found.number ∙ omega arith in
            let way : PartInFlight false project old new found.index found.target t =
            subst (λ g. PartInFlight g project old new found.index found.target t) (sym found.gone ∙ is) (moving.parts found.index found.target found.is_part) in
            ap (λ g. cond g None (cond (is_some (map.get t (staged_path project part.number))) (file_at t (staged_path project part.number ++ part.below)) (file_at t path))) is
            ∙ ap (λ n. cond (is_some (map.get t (staged_path project n))) (file_at t (staged_path project n ++ part.below)) (file_at t path)) number
            ∙ ap (λ p. cond (is_some (map.get t (staged_path project found.index))) (file_at t (staged_path project found.index ++ part.below)) (file_at t p)) found.path_is
            ∙ part_finished project old new found.index found.target part.below t (is_some (map.get t (staged_path project found.index))) refl way
            ∙ ap new (sym found.path_is)

-- ---- how it begins

-- A job that is staged whole, with its journal, is on the way from the project that stands to what the job makes of it.
pub staged_is_moving : (project : List (List ℕ)) (old : Files) (puts : ℕ → Files) (t : FileTree) (journal : Journal) → HasJournal project t journal
    → HasStagedParts project journal.targets puts t → HasFiles project t old → IsMoving project old (job_result project journal.targets puts old) t
unfolding job_result
staged_is_moving project old puts t journal stands job has = record {
  journal = journal;
  stands = stands;
  puts = puts;
  result = λ path in_project. refl;
  old_folder = job.old_folder;
  parents = job.parents;
  elsewhere = λ path in_project none. has.each path in_project;
  parts = λ number target part. each number target part target.gone refl (job.staged number target part);
}
  where
    is_target : (number : ℕ) (target : Target) → IsPart journal.targets number target → IsTargetPath target.path
    is_target number target part =
        subst (λ x. IsTargetPath x.path) (get_or_from_slice_get journal.targets number target target part)
        (stands.says.is_journal.job.each number target (slice_get_within journal.targets number target part)).place

    as_before : (number : ℕ) (target : Target) → IsPart journal.targets number target → HasFilesOf t (target_path project target) old (target_path project target)
    as_before number target part = record { each = λ below. has.each (target_path project target ++ below) (target_is_part project below target (is_target number target part)) }

    each : (number : ℕ) (target : Target) → IsPart journal.targets number target → (gone : Bool) → target.gone ≡ gone → IsStagedSource target.gone project puts number t
        → PartInFlight target.gone project old (job_result project journal.targets puts old) number target t
    each number target part true is source =
        subst (λ g. PartInFlight g project old (job_result project journal.targets puts old) number target t) (sym is) (record {
          unstaged = subst (λ g. IsStagedSource g project puts number t) is source;
          target_either = inl (as_before number target part);
        })
    each number target part false is source =
        let here = subst (λ g. IsStagedSource g project puts number t) is source in
        subst (λ g. PartInFlight g project old (job_result project journal.targets puts old) number target t) (sym is) (inl (record {
          target_as_before = as_before number target part;
          staged = record { there = here.0; files = record { each = λ below. here.1 below ∙ sym (puts_it below) } };
        }))
      where
        puts_it : (below : List (List ℕ)) → job_result project journal.targets puts old (target_path project target ++ below) ≡ puts number below
        puts_it below =
            ap (job_file puts (old (target_path project target ++ below))) (part_at_target number project below journal.targets target stands.says.is_journal.job.apart part)
            ∙ ap (λ g. cond g None (puts number below)) is

-- ---- where a source is lost

-- A part of which nothing is staged has its target as in the new project.
pub unstaged_is_done : (project : List (List ℕ)) (old new : Files) (number : ℕ) (target : Target) (t : FileTree) → PartInFlight false project old new number target t
    → map.get t (staged_path project number) ≡ None → HasFilesOf t (target_path project target) new (target_path project target)
unstaged_is_done project old new number target t (inl is) none = let some = is.staged.there in let gone = ap is_some none in absurd cc
unstaged_is_done project old new number target t (inr (inl is)) none = let some = is.staged.there in let gone = ap is_some none in absurd cc
unstaged_is_done project old new number target t (inr (inr is)) none = is.target_as_after
