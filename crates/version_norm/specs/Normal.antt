-- The versions that a text can have, so that their normal text is read back.
use Rattle.std.specs.Prelude.{◌≡◌, ◌<◌, ◌^◌, true, ◌⊎◌, Some, None, IfSome}
use Rattle.std.specs.List.{AllByRecursion}
use Rattle.version_norm.specs.declared.version.Numbered.{Numbered}
use Rattle.version_norm.specs.declared.version.Version.{Version}
use Rattle.version_norm.specs.declared.version.Version.TheVariants as versions
use Rattle.version_norm.specs.Versions.{branch_of}
use Rattle.version_norm.specs.VersionOrder.{four_numbers}

-- Every number has at most 18 digits. The first has at most five, but for a numbered branch.
pub record IsNormal (v : Numbered) : Type 0 where
  pub numbers : AllByRecursion (λ n. n < 10 ^ 18) (four_numbers v.numbers)
  pub following : IfSome v.modifier (λ modifier. AllByRecursion (λ n. n < 10 ^ 18) modifier.numbers)
  pub first : (v.numbers.major < 10 ^ 5) ⊎ ((v.modifier ≡ None) × (v.dev ≡ true))

-- and a branch is `dev-` and a name
abbrev pub IsNormalVersion : Version → Type 0
IsNormalVersion (versions.Branch name) = branch_of name ≡ Some name
IsNormalVersion (versions.Numbered v) = IsNormal v
