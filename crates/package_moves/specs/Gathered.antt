-- Parts of folders gathered one by one.
use Rattle.std.specs.Prelude.{◌≡◌, ℕ, List, [], ◌∷◌, ◌++◌, false, Option, Some, None, Vec}
use Rattle.std.specs.BTreeMap.{get}
use Rattle.std.specs.Ordering.{is_eq}
use Rattle.std.specs.declared.alloc.Global.{Global}
use Rattle.path_name.specs.Orders.{path_cmp}
use Rattle.stage_job.specs.declared.job.Inner.{Inner}
use Rattle.stage_job.specs.declared.job.Part.{Part}
use Rattle.package_moves.specs.Joined.{inner_below}
use Rattle.package_moves.specs.declared.joined.Folders.{Folders}

abbrev pub inner_list : Option Inner → List Inner
inner_list None = []
inner_list (Some inner) = inner ∷ []

abbrev pub items_or_none : Option (Vec Inner Global) → List Inner
items_or_none None = []
items_or_none (Some group) = group.items

-- the parts of a folder, as far as they were gathered
abbrev pub group_at : Folders → List (List ℕ) → List Inner
group_at folders folder = items_or_none (get path_cmp folders.parts folder)

abbrev pub HasItems : Option (Vec Inner Global) → List Inner → Type 0
HasItems None items = ⊥
HasItems (Some group) items = group.items ≡ items

-- a folder has one part more, and all others are as they were
pub record AddsInner (folder : List (List ℕ)) (part : Part) (before after : Folders) : Type 0 where
  pub own : HasItems (get path_cmp after.parts folder) (group_at before folder ++ inner_list (inner_below folder part))
  pub others : (other : List (List ℕ)) → is_eq (path_cmp folder other) ≡ false → get path_cmp after.parts other ≡ get path_cmp before.parts other
