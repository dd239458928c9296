use Rattle.std.proofs.Common.{◌≡◌, ◌∙◌, ◌++◌, List, Bool, Some, None, sym, ap}
use Rattle.std.specs.Prelude.{find}
use Rattle.std.specs.Option.{option_or}
use Rattle.std.proofs.lemmas.List.Folds.{find-append}
use Rattle.project_files.specs.ProjectLock.{has_name}
use Rattle.project_files.proofs.locks.locked_as.Goals as goal

in_first : {X : Type 0} (p : X → Bool) (xs ys : List X) (x : X) → Some x ≡ find p xs → Some x ≡ find p (xs ++ ys)
in_first p xs ys x e = ap (λ found. option_or found (find p ys)) e ∙ sym (find-append p xs ys)

in_second : {X : Type 0} (p : X → Bool) (xs ys : List X) → None ≡ find p xs → find p ys ≡ find p (xs ++ ys)
in_second p xs ys e = ap (λ found. option_or found (find p ys)) e ∙ sym (find-append p xs ys)

pub returns-in-Some : goal.returns-in-Some
returns-in-Some c = in_first (has_name c.args.name.now) c.args.lock.now.packages c.args.lock.now.packages_dev c.in-Some.locked.now (rw c.as_slice.ensures at c.in-Some.ensures)

pub returns-in-None : goal.returns-in-None
returns-in-None c =
    rw c.as_slice-in-None.ensures at c.first_named-in-None.ensures
    ∙ in_second (has_name c.args.name.now) c.args.lock.now.packages c.args.lock.now.packages_dev (rw c.as_slice.ensures at c.in-None.ensures)
