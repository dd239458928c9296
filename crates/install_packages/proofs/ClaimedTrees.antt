-- The tree with a claim is one, where there is room for one more entry.
use Rattle.std.proofs.Common.{◌≡◌, ◌<◌, ◌^◌, ℕ, ◌+◌, Bool, true, false, cond, ◌&&◌, List, [], ◌∷◌, codes, Option, Some, None, is_some, refl, sym, ap, subst, ◌∙◌, arith}
use Rattle.std.specs.Prelude.{is_none}
use Rattle.std.specs.FinMap.{contains_key, get, len, len-insert}
use Rattle.path_name.specs.Orders.{path_cmp_total}
use Rattle.path_name.specs.Paths.{IsPath}
use Rattle.path_name.proofs.Joining.{IsPath-append}
use Rattle.tree_dev.specs.Changes.{has_place, with_folder}
use Rattle.tree_dev.specs.Projects.{work_path}
use Rattle.tree_dev.specs.Trees.{FileTree, IsTree, entry_at, has_folder, is_folder}
use Rattle.tree_dev.specs.declared.change.Change.TheVariants as changes
use Rattle.tree_dev.specs.declared.entry.Entry.{Entry}
use Rattle.tree_dev.specs.declared.entry.Entry.TheVariants as entries
use Rattle.tree_dev.proofs.Snoc.{without_last-snoc}
use Rattle.tree_dev.proofs.TreesAfter.{change_keeps}
use Rattle.package_moves.proofs.SameEntries.{entry_below}
use Rattle.stage_job.proofs.WholeSteps.{work_segment}
use Rattle.install_commands.specs.Claiming.{with_claim}

is_there : (e : Option Entry) → is_folder e ≡ true → is_some e ≡ true
is_there None is = absurd cc
is_there (Some entry) is = refl

-- a folder stands at a path
folder_path : (t : FileTree) (at : List (List ℕ)) → IsTree t → has_folder t (Some at) ≡ true → IsPath at
folder_path t [] tree folder = refl
folder_path t (name ∷ rest) tree folder = tree.paths (name ∷ rest) (is_there (get t (name ∷ rest)) folder)

few_more : (there : Bool) (count : ℕ) → count + 1 < 2 ^ 32 → cond there count (count + 1) < 2 ^ 32
few_more true count few = omega (arith, few)
few_more false count few = few

module _ (at : List (List ℕ)) (start : FileTree) where
  few_claimed : len start + 1 < 2 ^ 32 → len (with_claim at start) < 2 ^ 32
  unfolding with_folder
  few_claimed few = subst (λ (count : ℕ). count < 2 ^ 32) (sym (len-insert path_cmp_total start (work_path at) entries.Folder)) (few_more (contains_key start (work_path at)) (len start) few)

  placed : has_folder start (Some at) ≡ true → get start (work_path at) ≡ None → has_place start (changes.FolderMade (work_path at)) ≡ true
  unfolding has_place
  placed folder none =
      ap (λ (b : Bool). b && is_none (entry_at start (work_path at))) (ap (has_folder start) (without_last-snoc at (codes ".install")) ∙ folder)
      ∙ ap is_none (entry_below start at (codes ".install") [] ∙ none)

  pub claimed_tree : IsTree start → has_folder start (Some at) ≡ true → get start (work_path at) ≡ None → len start + 1 < 2 ^ 32 → IsTree (with_claim at start)
  claimed_tree tree folder none few =
      change_keeps start (changes.FolderMade (work_path at)) tree (IsPath-append at (codes ".install" ∷ []) (folder_path start at tree folder) (ap (λ (b : Bool). b && true) work_segment)) (placed folder none) (few_claimed few)
