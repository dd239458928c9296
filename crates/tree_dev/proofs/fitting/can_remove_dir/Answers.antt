use Rattle.std.proofs.Common.{◌≡◌, ◌∙◌, sym, true, false}
use Rattle.tree_dev.specs.Changes.{has_place}
use Rattle.tree_dev.specs.declared.change.Change.TheVariants as changes
use Rattle.tree_dev.proofs.Given.{if_ok_at}
use Rattle.tree_dev.proofs.Places.{below_root, empty_folder, full_folder}
use Rattle.tree_dev.proofs.fitting.can_remove_dir.Goals as goal
use Rattle.tree_dev.proofs.fitting.can_remove_dir.Goals.{in-None, in-Some}

pub returns : goal.returns
returns c =
    elim c.match-branch-2.branch [
      | in-None w ↦
          let last = rw w.in-None.is at c.in_ok-next_name.ensures in
          if_ok_at c.match-branch-2.result true (λ can. can ≡ has_place c.args.files.now (changes.FolderRemoved c.args.at.now)) w.result-is
          (empty_folder c.args.files.now c.args.at.now c.requires (sym c.is_folder.ensures ∙ c.if-not-is_folder.false)
          (below_root c.args.at.now (λ root. let yes = c.is_root.ensures.1 root in let e : true ≡ false = sym yes ∙ c.if-is_root.false in absurd cc)) last)
      | in-Some w ↦
          let next = rw w.in-Some.is at c.in_ok-next_name.ensures in
          if_ok_at c.match-branch-2.result false (λ can. can ≡ has_place c.args.files.now (changes.FolderRemoved c.args.at.now)) w.result-is
          (full_folder c.args.files.now c.args.at.now _ next.has)
    ]
