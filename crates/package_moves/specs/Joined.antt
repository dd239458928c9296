-- Parts joined where no folder stands above their targets: one part for the folder, with what is to stand in it.
use Rattle.std.specs.Prelude.{◌≡◌, ◌⊎◌, ℕ, List, [], ◌∷◌, ◌++◌, Bool, true, false, if◌then◌else◌, Option, Some, None, Vec, filter_map}
use Rattle.std.specs.BTreeMap.{get}
use Rattle.std.specs.List.{list_any}
use Rattle.std.specs.declared.alloc.Global.{Global}
use Rattle.path_name.specs.Orders.{path_cmp}
use Rattle.path_name.specs.Paths.{without_last}
use Rattle.tree_dev.specs.Trees.{behind}
use Rattle.stage_job.specs.declared.job.Inner.{Inner}
use Rattle.stage_job.specs.declared.job.Leaf.TheVariants as leaves
use Rattle.stage_job.specs.declared.job.Part.{Part}
use Rattle.stage_job.specs.declared.job.Source.{Source}
use Rattle.stage_job.specs.declared.job.Source.TheVariants as sources
use Rattle.package_moves.specs.Needed.{is_folder_at}
use Rattle.package_moves.specs.Wanted.{vendor_name}
use Rattle.package_moves.specs.declared.joined.Folders.{Folders}

-- ---- one part for a folder

abbrev pub inner_at : Source → Option (List (List ℕ)) → Option Inner
inner_at from None = None
inner_at (sources.Copy source) (Some below) = Some (record { below = below; from = leaves.Copy source })
inner_at (sources.Bytes bytes) (Some below) = Some (record { below = below; from = leaves.Bytes bytes })
inner_at (sources.Folder inner) (Some below) = None
inner_at sources.Gone (Some below) = None

-- a part at or below a path, as a part of the folder there
abbrev pub inner_below : List (List ℕ) → Part → Option Inner
inner_below folder part = inner_at part.from (behind folder part.target)

-- a part that stands in a folder itself, as a part of it
abbrev pub inner_in : List (List ℕ) → Part → Option Inner
inner_in folder part = if is_folder_at (without_last part.target) folder then inner_below folder part else None

abbrev pub folder_of : List (List ℕ) → List Inner → Part
folder_of folder inner = record { target = folder; from = sources.Folder inner }

-- the part that makes a folder with what is to stand in it itself
abbrev pub folder_part : List (List ℕ) → List Part → Part
folder_part folder wanted = folder_of folder (filter_map (inner_in folder) wanted)

-- the part that makes `vendor` with all that is to stand below it
abbrev pub vendor_part : List Part → Part
vendor_part wanted = folder_of vendor_name (filter_map (inner_below vendor_name) wanted)

-- ---- the parts that are left

-- some part is to stand in a folder itself
abbrev pub is_in : List (List ℕ) → List Part → Bool
is_in folder parts = list_any (λ part. is_folder_at (without_last part.target) folder) parts

abbrev pub if_blocked : (List (List ℕ) → Bool) → Option (List (List ℕ)) → Option (List (List ℕ))
if_blocked blocked None = None
if_blocked blocked (Some folder) = if blocked folder then Some folder else None

abbrev pub if_left : Bool → Part → List Part
if_left true part = []
if_left false part = part ∷ []

abbrev pub own_parts : List Part → List Part → Part → Bool → Option (List (List ℕ)) → List Part
own_parts wanted earlier part stands None = if_left stands part
own_parts wanted earlier part stands (Some folder) = if_left (is_in folder earlier) (folder_part folder wanted)

-- In order the parts that do not stand. Where something is in the way of the folder of parts, one part for that folder, in
-- place of the first of them.
abbrev pub left_after : (List (List ℕ) → Bool) → List Part → List Part → List Part → List Bool → List Part
left_after blocked wanted earlier [] flags = []
left_after blocked wanted earlier (part ∷ parts) [] = []
left_after blocked wanted earlier (part ∷ parts) (flag ∷ flags) =
    own_parts wanted earlier part flag (if_blocked blocked (without_last part.target)) ++ left_after blocked wanted (earlier ++ part ∷ []) parts flags

abbrev pub left_parts : (List (List ℕ) → Bool) → List Part → List Bool → List Part
left_parts blocked wanted flags = left_after blocked wanted [] wanted flags

abbrev pub if_outside : Option (List (List ℕ)) → Bool → Part → List Part
if_outside None stands part = if_left stands part
if_outside (Some below) stands part = []

-- the parts that don't lie in `vendor` and do not stand
abbrev pub left_outside : List Part → List Bool → List Part
left_outside [] flags = []
left_outside (part ∷ parts) [] = []
left_outside (part ∷ parts) (flag ∷ flags) = if_outside (behind vendor_name part.target) flag part ++ left_outside parts flags

-- ---- parts of folders, as they are gathered and taken

-- a folder's parts were gathered, where some part is to stand in it
abbrev pub HasGroup : Option (Vec Inner Global) → List (List ℕ) → List Part → Type 0
HasGroup None folder parts = (is_in folder parts ≡ false) × (filter_map (inner_in folder) parts ≡ [])
HasGroup (Some group) folder parts = (is_in folder parts ≡ true) × (group.items ≡ filter_map (inner_in folder) parts)

-- the parts of each folder that is in question were gathered
pub record HasGroups (blocked : List (List ℕ) → Bool) (parts : List Part) (folders : Folders) : Type 0 where
  pub each : (folder : List (List ℕ)) → blocked folder ≡ true → HasGroup (get path_cmp folders.parts folder) folder parts

-- a folder's parts are there, or were taken, since some earlier part is to stand in it
abbrev pub IsUntaken : Option (Vec Inner Global) → List (List ℕ) → List Part → List Part → Type 0
IsUntaken None folder wanted earlier = (is_in folder earlier ≡ true) ⊎ (is_in folder wanted ≡ false)
IsUntaken (Some group) folder wanted earlier = (is_in folder earlier ≡ false) × (group.items ≡ filter_map (inner_in folder) wanted)

pub record AreUntaken (blocked : List (List ℕ) → Bool) (wanted earlier : List Part) (folders : Folders) : Type 0 where
  pub each : (folder : List (List ℕ)) → blocked folder ≡ true → IsUntaken (get path_cmp folders.parts folder) folder wanted earlier
