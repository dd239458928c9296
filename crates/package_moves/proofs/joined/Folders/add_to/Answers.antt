use Rattle.std.proofs.Common.{◌≡◌, ℕ, List, Option, Some, sym, ap, ◌∙◌}
use Rattle.std.proofs.lemmas.Result.{on_ok_weaker}
use Rattle.std.specs.BTreeSet.{contains}
use Rattle.path_name.specs.Orders.{path_cmp}
use Rattle.package_moves.proofs.Gathering.{groups_more, groups_same}
use Rattle.package_moves.proofs.joined.Folders.add_to.Goals as goal

pub returns-then-contains : goal.returns-then-contains
returns-then-contains c = on_ok_weaker c.put.result (λ adds parts groups.
    groups_more (contains path_cmp c.args.blocked.now) parts c.args.part.now c.args.folder c.args.self.now c.put.new.self c.requires.parent adds groups) c.put.ensures

same_of : (a b : List (List ℕ)) → ◌≡◌ {A = Option (List (List ℕ))} (Some a) (Some b) → a ≡ b
same_of a b e = cc

pub returns-else-contains : goal.returns-else-contains
returns-else-contains c = λ parts groups.
    groups_same (contains path_cmp c.args.blocked.now) parts c.args.part.now c.args.self.now
    (λ other is. ap (contains path_cmp c.args.blocked.now) (same_of other c.args.folder (sym is ∙ c.requires.parent)) ∙ sym c.contains.ensures ∙ c.if-contains.false) groups
