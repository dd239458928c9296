-- What a job makes of a project.
use Rattle.std.proofs.Common.{◌≡◌, ℕ, zero, suc, List, [], ◌∷◌, ◌++◌, Option, Some, None, refl, sym, ap, ◌∙◌}
use Rattle.std.specs.List.{slice_get}
use Rattle.tree_dev.specs.Trees.{FileTree, behind}
use Rattle.tree_dev.specs.Projects.{bytes_of, file_at}
use Rattle.tree_dev.proofs.Behind.{behind_head, head_behind}
use Rattle.tree_dev.proofs.Carried.{comparable}
use Rattle.tree_dev.proofs.ProjectParts.{behind_same_head}
use Rattle.stage_job.specs.Jobs.{AreApart, AreParts, Files, IsTargetApart, job_result, part_entry, put_or}
use Rattle.stage_job.specs.Places.{staged_path}
use Rattle.stage_job.specs.Staged.{IsStagedJob}
use Rattle.stage_job.specs.declared.job.Part.{Part}
use Rattle.stage_job.specs.declared.job.Source.{Source}
use Rattle.stage_job.proofs.Below.{not_below}

pub targets_apart : (project a b : List (List ℕ)) → AreApart a b → AreApart (project ++ a) (project ++ b)
targets_apart project a b apart = (behind_same_head project a b ∙ apart.0, behind_same_head project b a ∙ apart.1)

commute_by : (t : FileTree) (one two : Source) (a b path : List (List ℕ)) (o p : Option (List (List ℕ))) (others : Option (List ℕ)) → behind a path ≡ o → behind b path ≡ p → AreApart a b
    → put_or t one o (put_or t two p others) ≡ put_or t two p (put_or t one o others)
commute_by t one two a b path None p others e h apart = refl
commute_by t one two a b path (Some r) None others e h apart = refl
commute_by t one two a b path (Some r) (Some s) others e h apart = absurd (comparable a b r s (sym (head_behind a path r e) ∙ head_behind b path s h) apart.0 apart.1)

pub commute : (project : List (List ℕ)) (t : FileTree) (first second : Part) (parts : List Part) (old : Files) (path : List (List ℕ)) → AreApart first.target second.target
    → job_result project t (first ∷ second ∷ parts) old path ≡ job_result project t (second ∷ first ∷ parts) old path
unfolding job_result
commute project t first second parts old path apart =
    commute_by t first.from second.from (project ++ first.target) (project ++ second.target) path _ _ (job_result project t parts old path) refl refl (targets_apart project first.target second.target apart)

apart_from : (target : List (List ℕ)) (parts : List Part) (j : ℕ) (part : Part) → IsTargetApart target parts → slice_get parts j ≡ Some part → AreApart target part.target
apart_from target [] j part all is = absurd cc
apart_from target (other ∷ parts) zero part all is = (let same : other ≡ part = cc in rw (sym same) all.0)
apart_from target (other ∷ parts) (suc j) part all is = apart_from target parts j part all.1 is

pub result_at : (project : List (List ℕ)) (t : FileTree) (parts : List Part) (number : ℕ) (part : Part) (old : Files) (below : List (List ℕ)) → AreParts project parts → slice_get parts number ≡ Some part
    → job_result project t parts old ((project ++ part.target) ++ below) ≡ bytes_of (part_entry t part.from below)
unfolding job_result
result_at project t [] number part old below all is = absurd cc
result_at project t (other ∷ parts) zero part old below all is =
    let same : other ≡ part = cc in
    ap (λ (p : Part). put_or t p.from (behind (project ++ p.target) ((project ++ part.target) ++ below)) (job_result project t parts old ((project ++ part.target) ++ below))) same
    ∙ ap (λ (o : Option (List (List ℕ))). put_or t part.from o (job_result project t parts old ((project ++ part.target) ++ below))) (behind_head (project ++ part.target) below)
result_at project t (other ∷ parts) (suc j) part old below all is =
    ap (λ (o : Option (List (List ℕ))). put_or t other.from o (job_result project t parts old ((project ++ part.target) ++ below)))
    (not_below (project ++ other.target) (project ++ part.target) below (targets_apart project other.target part.target (apart_from other.target parts j part all.2 is)))
    ∙ result_at project t parts j part old below all.3 is

pub staged_is_new : (project : List (List ℕ)) (t staged : FileTree) (parts : List Part) (number : ℕ) (part : Part) (old : Files) (below : List (List ℕ)) → AreParts project parts
    → IsStagedJob project parts t staged → slice_get parts number ≡ Some part
    → file_at staged (staged_path project number ++ below) ≡ job_result project t parts old ((project ++ part.target) ++ below)
staged_is_new project t staged parts number part old below all is at =
    ap bytes_of (is.staged number part at below) ∙ sym (result_at project t parts number part old below all at)
