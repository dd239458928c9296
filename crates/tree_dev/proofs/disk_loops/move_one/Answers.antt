use Rattle.std.proofs.Common.{◌≡◌, List, ℕ, Option, None, ◌∙◌}
use Rattle.tree_dev.specs.Trees.{FileTree, behind}
use Rattle.tree_dev.specs.Changes.{changed}
use Rattle.tree_dev.specs.Steady.{HasAt}
use Rattle.tree_dev.specs.declared.change.Change.TheVariants.{Renamed}
use Rattle.tree_dev.specs.declared.entry.Entry.{Entry}
use Rattle.tree_dev.proofs.Changed.{get-changed}
use Rattle.tree_dev.proofs.Whole.{throughout, wholly}
use Rattle.tree_dev.proofs.disk_loops.move_one.Goals as goal

-- a rename of other entries
kept_by : (t : FileTree) (kept from to : List (List ℕ)) (entry : Option Entry) → behind from kept ≡ None → behind to kept ≡ None → HasAt kept entry t → HasAt kept entry (changed t (Renamed from to))
kept_by t kept from to entry left new has = get-changed t (Renamed from to) kept ∙ rw (new, left) has

pub returns-in_err-stat-clause-through : goal.returns-in_err-stat-clause-through
returns-in_err-stat-clause-through g c = λ entry each. search (throughout, c.stat.ensures.only_read, each)

pub returns-in-Absent-clause-through : goal.returns-in-Absent-clause-through
returns-in-Absent-clause-through g c = λ entry each. search (throughout, c.stat.ensures.only_read, each)

pub returns-in_err-rename-in_default : goal.returns-in_err-rename-in_default
returns-in_err-rename-in_default g c = record {
  whole = search (wholly, c.requires.whole, c.stat.ensures.only_read, c.rename.ensures.moments);
  through = λ entry each. search (throughout, wholly, kept_by, c.requires.whole, c.requires.from_apart, c.requires.to_apart, c.stat.ensures.only_read, c.rename.ensures.moments, each);
}

pub returns-in_ok-rename-in_default : goal.returns-in_ok-rename-in_default
returns-in_ok-rename-in_default g c = record {
  whole = search (wholly, c.requires.whole, c.stat.ensures.only_read, c.rename.ensures.moments);
  through = λ entry each. search (throughout, wholly, kept_by, c.requires.whole, c.requires.from_apart, c.requires.to_apart, c.stat.ensures.only_read, c.rename.ensures.moments, each);
}
