-- The lock of a project over a tree, and the pool that it makes, or the first refusal (Composer's documentation, "Basic
-- usage", "Commit your composer.lock file to version control").
use Rattle.std.specs.Prelude.{ℕ, ◌+◌, List, [], ◌++◌, length, find, Bool, nat_lt, if◌then◌else◌, Option, Some, None, Result, Ok, Err}
use Rattle.std.specs.Option.{option_map_or}
use Rattle.path_name.specs.Given.{◌>>=◌}
use Rattle.path_name.specs.FolderRefs.{folder_text}
use Rattle.path_name.specs.Orders.{bytes_are_equal}
use Rattle.tree_dev.specs.Trees.{FileTree}
use Rattle.tree_dev.specs.Projects.{lock_path}
use Rattle.pkg_pool.specs.declared.limits.TheConstants.{PACKAGES}
use Rattle.tree_dev.specs.declared.limits.LimitKind.TheVariants.{Packages}
use Rattle.json_ordered.specs.JsonTree.{JsonTree}
use Rattle.manifest_read.specs.declared.types.Manifest.{Manifest}
use Rattle.pkg_pool.specs.declared.pool.Pool.{Pool}
use Rattle.lock_file.specs.Locks.{locked_name, lock_fields_of}
use Rattle.lock_file.specs.LockPools.{lock_pool_of}
use Rattle.lock_file.specs.declared.types.Lock.{Lock}
use Rattle.lock_file.specs.declared.types.Locked.{Locked}
use Rattle.lock_file.specs.declared.fault.LockPoolFault.{LockPoolFault}
use Rattle.lock_file.specs.declared.fault.LockPoolFault.TheVariants as pool_faults
use Rattle.run_answers.specs.declared.refusal.NamedFile.TheVariants as files
use Rattle.run_answers.specs.declared.refusal.Refusal.{Refusal}
use Rattle.run_answers.specs.declared.refusal.Refusal.TheVariants as refusals
use Rattle.project_files.specs.Texts.{text_in}
use Rattle.project_files.specs.Documents.{document_in, or_bad_fields}

abbrev pub or_no_lock : Option (List ℕ) → Result (List ℕ) Refusal
or_no_lock (Some text) = Ok text
or_no_lock None = Err refusals.NoLock

-- the text of composer.lock, which must be there
unfoldable pub lock_text_in : FileTree → List (List ℕ) → Result (List ℕ) Refusal
lock_text_in t project = text_in t (lock_path project) >>= or_no_lock

-- the fields of a document, or its first fault
unfoldable pub fields_in : JsonTree → Result Lock Refusal
fields_in document = or_bad_fields files.Lock (lock_fields_of document)

-- the packages of both lists are no more than are allowed
unfoldable pub few_packages : Lock → Result (Unit {0}) Refusal
few_packages lock = if nat_lt PACKAGES (length lock.packages + length lock.packages_dev) then Err (refusals.Limit Packages) else Ok tt

-- the lock that a text describes
unfoldable pub lock_of_text : List ℕ → Result Lock Refusal
lock_of_text text = do
  document ← document_in files.Lock text
  lock ← fields_in document
  passed ← few_packages lock
  Ok lock

unfoldable pub project_lock_in : FileTree → List (List ℕ) → Result Lock Refusal
project_lock_in t project = do
  text ← lock_text_in t project
  lock_of_text text

-- ---- the pool

abbrev pub has_name : List ℕ → Locked → Bool
has_name name locked = bytes_are_equal (locked_name locked) name

abbrev pub packages_of : Lock → List Locked
packages_of lock = lock.packages ++ lock.packages_dev

-- the url of the package of a name, as it is seen from the project
abbrev pub url_text_of : Lock → List ℕ → List ℕ
url_text_of lock name = option_map_or (λ locked. folder_text locked.url) (find (has_name name) (packages_of lock)) []

-- a url that leads above the root of the tree
abbrev pub refusal_of_pool : Lock → LockPoolFault → Refusal
refusal_of_pool lock (pool_faults.AboveRoot name) = refusals.MissingPath (url_text_of lock name)
refusal_of_pool lock pool_faults.OutOfMemory = refusals.OutOfMemory

abbrev pub or_no_pool : Lock → Result Pool LockPoolFault → Result Pool Refusal
or_no_pool lock (Ok pool) = Ok pool
or_no_pool lock (Err fault) = Err (refusal_of_pool lock fault)

-- the packages of the lock as a pool
unfoldable pub pool_in : Manifest → Lock → List (List ℕ) → Result Pool Refusal
pool_in root lock project = or_no_pool lock (lock_pool_of root lock project)
