-- Names as a grammar (Composer's documentation, "The composer.json schema", "name", and "Basic usage", "Platform
-- packages"): groups of small letters and digits, and what joins them.
use Rattle.std.specs.Prelude.{◌≡◌, ◌⊎◌, ℕ, Bool, false, true, List, [], ◌∷◌, ◌++◌, codes}
use Rattle.std.specs.List.{AllByRecursion, list_all}
use Rattle.manifest_read.specs.Names.{is_name_byte, is_joint}

-- a small letter or a digit, and any count of them behind it
pub record IsGroup (text : List ℕ) : Type 0 where
  pub first : ℕ
  pub rest : List ℕ
  pub letters : list_all is_name_byte (first ∷ rest) ≡ true
  pub is : text ≡ first ∷ rest

-- `_`, `.` or `-`, and `--` too where that is said
abbrev pub IsJoint : Bool → List ℕ → Type 0
IsJoint double text = ((byte : ℕ) × (is_joint byte ≡ true) × (text ≡ byte ∷ [])) ⊎ ((double ≡ true) × (text ≡ 45 ∷ 45 ∷ []))

-- a joint and the group behind it
pub record IsJoined (double : Bool) (pieces : List ℕ × List ℕ) : Type 0 where
  pub joint : IsJoint double pieces.0
  pub group : IsGroup pieces.1

abbrev pub joined : List (List ℕ × List ℕ) → List ℕ
joined [] = []
joined (pieces ∷ more) = pieces.0 ++ (pieces.1 ++ joined more)

-- a group, and any count of others that joints join to it
pub record IsPart (double : Bool) (text : List ℕ) : Type 0 where
  pub group : List ℕ
  pub more : List (List ℕ × List ℕ)
  pub is_group : IsGroup group
  pub are_joined : AllByRecursion (IsJoined double) more
  pub is : text ≡ group ++ joined more

-- vendor and project, with a `/` between them
pub record IsPackageName (name : List ℕ) : Type 0 where
  pub vendor : List ℕ
  pub project : List ℕ
  pub is_vendor : IsPart false vendor
  pub is_project : IsPart true project
  pub is : name ≡ vendor ++ 47 ∷ project

-- an extension of PHP, or a library that PHP was built with
pub record IsExtension (name : List ℕ) : Type 0 where
  pub part : List ℕ
  pub is_part : IsPart false part
  pub is : (name ≡ codes "ext-" ++ part) ⊎ (name ≡ codes "lib-" ++ part)
