-- What stands is made of manifests as they are read.
use Rattle.std.proofs.Common.{ℕ, List, [], ◌∷◌, Option, Some, None}
use Rattle.std.specs.Prelude.{IfSome}
use Rattle.std.specs.List.{AllByRecursion}
use Rattle.composer_words.specs.declared.chosen.Ways.{Ways}
use Rattle.lock_file.specs.FormedLocks.{IsInstalled}
use Rattle.lock_file.specs.declared.types.Installed.{Installed}
use Rattle.manifest_read.specs.WellFormed.{IsManifest, IsMember, IsPackage}
use Rattle.manifest_read.specs.declared.types.Manifest.{Manifest}
use Rattle.manifest_read.specs.declared.types.Package.{Package}
use Rattle.manifest_read.specs.declared.types.Role.TheVariants.{Member, Root}
use Rattle.psr_routes.specs.declared.types.Placed.{Placed}
use Rattle.autoload_build.specs.Jobs.{HasReadManifests}
use Rattle.table_files.specs.Members.{members_in_place}
use Rattle.dump_command.specs.Standing.{project_of, standing_of}

members_read : (project : List (List ℕ)) (packages : List Package) → AllByRecursion IsMember packages
    → AllByRecursion (λ (one : Placed). IsPackage Member one.«package») (members_in_place project packages)
members_read project [] all = tt
members_read project (first ∷ rest) all = (all.0.parts, members_read project rest all.1)

pub formed_standing : (project : List (List ℕ)) (ways : Ways) (stands : Option ℕ) (root : Manifest) (installed : Option Installed) → IsManifest Root root → IfSome installed IsInstalled
    → HasReadManifests (project_of project (standing_of project ways stands root installed))
formed_standing project ways stands root None is all = record { root = is; members = tt }
formed_standing project ways stands root (Some installed) is all = record { root = is; members = members_read project installed.packages all.packages }
