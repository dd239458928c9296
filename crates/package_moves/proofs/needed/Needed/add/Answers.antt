use Rattle.std.proofs.Common.{◌||◌, List, ℕ, Option, sym, ap, ◌∙◌}
use Rattle.std.specs.BTreeSet.{contains}
use Rattle.std.specs.Ordering.{is_eq}
use Rattle.path_name.specs.Orders.{path_cmp}
use Rattle.package_moves.specs.Needed.{is_folder_at}
use Rattle.package_moves.proofs.LookedThrough.{cond_or}
use Rattle.package_moves.proofs.needed.Needed.add.Goals as goal

pub returns-in_ok-insert-2 : goal.returns-in_ok-insert-2
returns-in_ok-insert-2 c = record {
  targets = λ path.
      c.in_ok-insert.ensures.updates.0 path ∙ cond_or (is_eq (path_cmp c.in_ok-copy.field-0 path)) (contains path_cmp c.args.self.now.targets path)
      ∙ ap (λ (p : List (List ℕ)). is_eq (path_cmp p path) || contains path_cmp c.args.self.now.targets path) c.in_ok-copy.ensures;
  above = λ path.
      c.in_ok-insert-2.ensures.updates.0 path ∙ cond_or (is_eq (path_cmp c.in-Some.parent path)) (contains path_cmp c.args.self.now.above path)
      ∙ ap (λ (o : Option (List (List ℕ))). is_folder_at o path || contains path_cmp c.args.self.now.above path) (sym c.in-Some.is ∙ c.in_ok-parent.ensures);
}
