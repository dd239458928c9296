-- The packages that are installed in a project, in their places.
use Rattle.std.specs.Prelude.{ℕ, List, map, false}
use Rattle.manifest_read.specs.declared.types.Package.{Package}
use Rattle.psr_routes.specs.declared.types.Placed.{Placed}
use Rattle.install_sources.specs.Folders.{package_place}

-- a package that stands at vendor/NAME, and is read there
abbrev pub in_place : List (List ℕ) → Package → Placed
in_place project party = record {
  «package» = party;
  at = package_place project party.name;
  shown = package_place project party.name;
  mirrored = false;
}

abbrev pub members_in_place : List (List ℕ) → List Package → List Placed
members_in_place project packages = map (in_place project) packages
