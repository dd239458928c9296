-- What follows of the answers on paths below others.
use Rattle.std.proofs.Common.{◌≡◌, ℕ, Bool, true, false, List, [], ◌++◌, Option, Some, None, IsTrue, sym, ap, ◌∙◌}
use Rattle.std.specs.Prelude.{MatchOption, ◌↔◌}
use Rattle.std.specs.Cmp.{tied_itself}
use Rattle.std.specs.Ordering.{is_eq}
use Rattle.path_name.specs.Orders.{path_cmp, path_cmp_total}
use Rattle.path_name.specs.Paths.{BeginsWith, IsMoved}
use Rattle.tree_dev.specs.Trees.{behind}
use Rattle.tree_dev.proofs.Behind.{behind_head, head_behind}
use Rattle.stage_job.specs.declared.job.Part.{Part}
use Rattle.stage_job.proofs.Below.{none_by}
use Rattle.package_moves.specs.Joined.{if_left, if_outside}

pub no_behind : (head path : List (List ℕ)) → (BeginsWith path head → ⊥) → behind head path ≡ None
no_behind head path never = none_by (behind head path) (λ rest is. never (rest, head_behind head path rest is))

pub moved_behind : (path from to : List (List ℕ)) (moved : Option (List (List ℕ))) → to ≡ [] → MatchOption moved (BeginsWith path from → ⊥) (λ p. IsMoved path from to p) → moved ≡ behind from path
moved_behind path from to None root is = sym (no_behind from path is)
moved_behind path from to (Some p) root is =
    ap (λ (x : List (List ℕ)). Some x) (is.2 ∙ ap (λ (x : List (List ℕ)). x ++ is.0) root) ∙ sym (ap (behind from) is.1 ∙ behind_head from is.0)

pub outside_by : (folder path : List (List ℕ)) (starts stands : Bool) (part : Part) → IsTrue starts ↔ BeginsWith path folder → starts ≡ false → if_outside (behind folder path) stands part ≡ if_left stands part
outside_by folder path starts stands part is e = ap (λ (o : Option (List (List ℕ))). if_outside o stands part) (no_behind folder path (λ begins. let t : starts ≡ true = is.1 begins in absurd cc))

pub inside_by : (folder path : List (List ℕ)) (starts stands : Bool) (part : Part) → IsTrue starts ↔ BeginsWith path folder → starts ≡ true → if_outside (behind folder path) stands part ≡ []
inside_by folder path starts stands part is e = let begins = is.0 e in
    ap (λ (o : Option (List (List ℕ))). if_outside o stands part) (ap (behind folder) begins.1 ∙ behind_head folder begins.0)

pub itself : (path : List (List ℕ)) → is_eq (path_cmp path path) ≡ true
itself path = ap is_eq (tied_itself path_cmp_total path)
