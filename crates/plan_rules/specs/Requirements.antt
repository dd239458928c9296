-- Which packages meet a requirement (Composer's documentation, "The composer.json schema", "Package links").
use Rattle.std.specs.Prelude.{ℕ, List, Bool, ◌&&◌, ◌||◌}
use Rattle.std.specs.List.{list_any}
use Rattle.path_name.specs.Orders.{bytes_are_equal}
use Rattle.constraint_set.specs.Satisfaction.{satisfies}
use Rattle.constraint_set.specs.Overlap.{overlaps}
use Rattle.path_name.specs.Paths.{is_slash}
use Rattle.manifest_read.specs.declared.types.Link.{Link}
use Rattle.manifest_read.specs.declared.types.Package.{Package}

-- the package's own name
abbrev pub owns : List ℕ → Package → Bool
owns name party = bytes_are_equal party.name name

abbrev pub names : List ℕ → Link → Bool
names name link = bytes_are_equal link.name name

-- one of its `replace` links has the name
abbrev pub replaces : List ℕ → Package → Bool
replaces name party = list_any (names name) party.replace

-- a name is taken by the package that owns it and by those that replace it
abbrev pub takes : List ℕ → Package → Bool
takes name party = owns name party || replaces name party

-- it owns the name, and its version satisfies the constraint
abbrev pub owns_as_wanted : Link → Package → Bool
owns_as_wanted link party = owns link.name party && satisfies link.wants party.version

-- a link of that name whose constraint meets the wanted one
abbrev pub stands_for : Link → Link → Bool
stands_for link other = names link.name other && overlaps link.wants other.wants

abbrev pub replaces_as_wanted : Link → Package → Bool
replaces_as_wanted link party = list_any (stands_for link) party.replace

abbrev pub provides_as_wanted : Link → Package → Bool
provides_as_wanted link party = list_any (stands_for link) party.provide

-- A package meets a requirement: it owns the name in a version that satisfies the constraint, or it replaces or
-- provides the name by a constraint that meets it.
unfoldable pub meets : Link → Package → Bool
meets link party = owns_as_wanted link party || replaces_as_wanted link party || provides_as_wanted link party

-- A requirement on a package, and none on the platform: the name of a package has a `/` between its vendor and its
-- project, and that of a platform package, as `php` or `ext-json`, has none.
abbrev pub is_on_package : Link → Bool
is_on_package link = list_any is_slash link.name
