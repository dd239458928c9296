-- Where the sources of a part stand beside the place where it is staged.
use Rattle.std.specs.Prelude.{◌≡◌, ℕ, List, [], ◌∷◌, ◌++◌, false, if◌then◌else◌, Some}
use Rattle.std.specs.FinMap as map
use Rattle.tree_dev.specs.Trees.{FileTree, behind}
use Rattle.tree_dev.specs.declared.entry.Entry.TheVariants as entries
use Rattle.stage_job.specs.Above.{front_of, is_front}
use Rattle.stage_job.specs.Jobs.{AreApart, IsInnerApart, inner_or, is_itself}
use Rattle.stage_job.specs.declared.job.Inner.{Inner}
use Rattle.stage_job.specs.declared.job.Leaf.{Leaf}
use Rattle.stage_job.specs.declared.job.Leaf.TheVariants as leaves
use Rattle.stage_job.specs.declared.job.Source.{Source}
use Rattle.stage_job.specs.declared.job.Source.TheVariants as sources

abbrev pub IsLeafApart : Leaf → List (List ℕ) → Type 0
IsLeafApart (leaves.Copy source) to = AreApart source to
IsLeafApart (leaves.Bytes bytes) to = Unit {0}

-- the parts of a folder that is made at a path
abbrev pub AreInnerFor : List Inner → List (List ℕ) → Type 0
AreInnerFor [] to = Unit {0}
AreInnerFor (part ∷ inner) to = IsLeafApart part.from to × (is_itself part.below ≡ false) × IsInnerApart part inner × AreInnerFor inner to

abbrev pub IsSourceApart : Source → List (List ℕ) → Type 0
IsSourceApart (sources.Copy source) to = AreApart source to
IsSourceApart (sources.Bytes bytes) to = Unit {0}
IsSourceApart (sources.Folder inner) to = AreInnerFor inner to
IsSourceApart sources.Gone to = Unit {0}

-- A part of a folder at its place, folders above it, and all else as it was.
pub record PutsInner (at : List (List ℕ)) (part : Inner) (t u : FileTree) : Type 0 where
  pub each : (path : List (List ℕ)) → map.get u path
      ≡ inner_or t part.from (behind (at ++ part.below) path) (if is_front at (front_of part.below) path then Some entries.Folder else map.get t path)
