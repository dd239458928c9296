use Rattle.std.proofs.Common.{◌≡◌, ℕ, List, Bool, true, false, None}
use Rattle.std.specs.Prelude.{IsTrue, not}
use Rattle.path_name.specs.Paths.{BeginsWith}
use Rattle.tree_dev.specs.Trees.{behind}
use Rattle.tree_dev.proofs.Behind.{head_behind}
use Rattle.stage_job.proofs.Below.{none_by}
use Rattle.install_writes.proofs.tests.wanted.is_elsewhere.Goals as goal

elsewhere : (path head : List (List ℕ)) (starts : Bool) → (BeginsWith path head → IsTrue starts) → not starts ≡ true → behind head path ≡ None
elsewhere path head true begins e = absurd cc
elsewhere path head false begins e = none_by (behind head path) (λ rest is. absurd (let h = begins (rest, head_behind head path rest is) in cc))

pub returns : goal.returns
returns c = λ e. elsewhere c.args.path.now c.args.head.now c.starts_with.result c.starts_with.ensures.1 e
