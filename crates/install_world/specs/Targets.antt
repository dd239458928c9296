-- The targets of a job: the places of a project, counted from its folder, where an install puts its parts or
-- takes what stood there away.
use Rattle.std.specs.Prelude.{◌≡◌, ◌⊎◌, ℕ, List, [], ◌∷◌, codes, All}
use Rattle.path_name.specs.Paths.{IsPath, BeginsWith}
use Rattle.install_world.specs.declared.target.Target.{Target}

-- composer.lock
abbrev pub lock_target : List (List ℕ)
lock_target = codes "composer.lock" ∷ []

-- vendor
abbrev pub vendor_target : List (List ℕ)
vendor_target = codes "vendor" ∷ []

-- composer.lock, vendor, or a path below vendor
pub record IsTargetPath (path : List (List ℕ)) : Type 0 where
  pub segments : IsPath path
  pub place : (path ≡ lock_target) ⊎ BeginsWith path vendor_target

-- The path of each target is one of these.
abbrev pub AreTargetPaths : List Target → Type 0
AreTargetPaths targets = All (λ target. IsTargetPath target.path) targets

-- Neither path is a prefix of the other, so what is done at one leaves the other alone.
pub record AreApart (first second : List (List ℕ)) : Type 0 where
  pub not_below : BeginsWith first second → ⊥
  pub not_above : BeginsWith second first → ⊥

-- the same of two targets
abbrev pub AreTargetsApart : Target → Target → Type 0
AreTargetsApart first second = AreApart first.path second.path

-- a target that stands apart from each of these
abbrev pub IsApartFrom : List Target → Target → Type 0
IsApartFrom targets target = All (λ other. AreTargetsApart other target) targets
