-- What a package is written as in a lock, in the order of keys that Composer writes.
use Rattle.std.specs.Prelude.{ℕ, Bool, true, false, List, [], ◌∷◌, ◌++◌, map, codes}
use Rattle.path_name.specs.FolderRefs.{folder_text}
use Rattle.path_name.specs.declared.folder_ref.FolderRef.{FolderRef}
use Rattle.json_ordered.specs.JsonTree.{JsonTree, String, array_of, object_of}
use Rattle.manifest_read.specs.declared.key.Key.{Key}
use Rattle.manifest_read.specs.declared.key.Key.TheVariants as keys
use Rattle.manifest_read.specs.declared.types.Link.{Link}
use Rattle.manifest_read.specs.declared.types.PathText.{PathText}
use Rattle.manifest_read.specs.declared.types.PrefixDirs.{PrefixDirs}
use Rattle.manifest_read.specs.declared.types.Autoload.{Autoload}
use Rattle.manifest_read.specs.declared.types.Package.{Package}
use Rattle.manifest_read.specs.Keys.{Pairs, key_text}
use Rattle.lock_file.specs.declared.types.Locked.{Locked}

-- a key with its value
abbrev pub keyed : Key → JsonTree → List ℕ × JsonTree
keyed key tree = (key_text key, tree)

-- a key with what a list is written as; an empty list is left out
abbrev pub filled : {X : Type 0} → Key → (List X → JsonTree) → List X → Pairs
filled key tree [] = []
filled key tree (x ∷ xs) = keyed key (tree (x ∷ xs)) ∷ []

-- ---- links: an object from names to constraints, both as written

abbrev pub link_pair : Link → List ℕ × JsonTree
link_pair link = (link.name, String link.text)

abbrev pub links_tree : List Link → JsonTree
links_tree links = object_of (map link_pair links)

-- ---- autoload rules

abbrev pub path_tree : PathText → JsonTree
path_tree path = String path.written

abbrev pub paths_tree : List PathText → JsonTree
paths_tree paths = array_of (map path_tree paths)

abbrev pub texts_tree : List (List ℕ) → JsonTree
texts_tree texts = array_of (map String texts)

-- a single folder is a text
abbrev pub folders_tree : Bool → List PathText → JsonTree
folders_tree true [] = paths_tree []
folders_tree true (folder ∷ folders) = path_tree folder
folders_tree false folders = paths_tree folders

abbrev pub prefix_pair : PrefixDirs → List ℕ × JsonTree
prefix_pair row = (row.written, folders_tree row.single row.folders)

abbrev pub prefixes_tree : List PrefixDirs → JsonTree
prefixes_tree rows = object_of (map prefix_pair rows)

-- the rules that are there
unfoldable pub autoload_pairs : Autoload → Pairs
autoload_pairs rules =
    filled keys.Psr4 prefixes_tree rules.psr4
    ++ (filled keys.Psr0 prefixes_tree rules.psr0
    ++ (filled keys.Classmap paths_tree rules.classmap
    ++ (filled keys.Files paths_tree rules.files
    ++ filled keys.Exclusions texts_tree rules.exclude)))

-- ---- a package

-- the folder that it is installed from
unfoldable pub dist_tree : FolderRef → List ℕ → JsonTree
dist_tree url reference = object_of (keyed keys.Type (String (codes "path")) ∷ keyed keys.Url (String (folder_text url)) ∷ keyed keys.Reference (String reference) ∷ [])

unfoldable pub link_pairs : Package → Pairs
link_pairs entry =
    filled keys.Require links_tree entry.require
    ++ (filled keys.Conflict links_tree entry.conflict
    ++ (filled keys.Replace links_tree entry.replace
    ++ filled keys.Provide links_tree entry.provide))

unfoldable pub locked_pairs : Locked → Pairs
locked_pairs locked =
    keyed keys.Name (String locked.«package».name) ∷ keyed keys.Version (String locked.«package».version_text) ∷ keyed keys.Dist (dist_tree locked.url locked.reference)
    ∷ (link_pairs locked.«package» ++ keyed keys.Type (String locked.«package».kind) ∷ filled keys.Autoload object_of (autoload_pairs locked.«package».autoload))

unfoldable pub locked_tree : Locked → JsonTree
locked_tree locked = object_of (locked_pairs locked)
