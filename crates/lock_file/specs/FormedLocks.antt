-- What is known of what is read.
use Rattle.std.specs.Prelude.{◌++◌, map}
use Rattle.std.specs.List.{AllByRecursion, IsDistinct}
use Rattle.path_name.specs.Orders.{bytes_are_equal}
use Rattle.manifest_read.specs.WellFormed.{IsMember}
use Rattle.lock_file.specs.declared.types.Locked.{Locked}
use Rattle.lock_file.specs.declared.types.Lock.{Lock}
use Rattle.lock_file.specs.declared.types.Installed.{Installed}
use Rattle.lock_file.specs.Locks.{locked_name}
use Rattle.lock_file.specs.InstalledPackages.{package_name}

-- its package is a well-formed member
abbrev pub IsLocked : Locked → Type 0
IsLocked locked = IsMember locked.«package»

-- no two packages of both lists have one name
pub record IsLock (lock : Lock) : Type 0 where
  pub packages : AllByRecursion IsLocked lock.packages
  pub packages_dev : AllByRecursion IsLocked lock.packages_dev
  pub distinct : IsDistinct bytes_are_equal (map locked_name (lock.packages ++ lock.packages_dev))

pub record IsInstalled (installed : Installed) : Type 0 where
  pub packages : AllByRecursion IsMember installed.packages
  pub distinct : IsDistinct bytes_are_equal (map package_name installed.packages)
