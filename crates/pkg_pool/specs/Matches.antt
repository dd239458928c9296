-- Which folders a url matches, in words of their names (Composer's documentation, "Repositories", "Path"; PHP manual, glob).
use Rattle.std.specs.Prelude.{ℕ, List, [], ◌∷◌, filter, filter_map, Bool, true, false, not, ◌&&◌, if◌then◌else◌}
use Rattle.std.specs.FinMap.{keys}
use Rattle.path_name.specs.Orders.{bytes_are_equal}
use Rattle.tree_dev.specs.Trees.{FileTree, behind, kind_at}
use Rattle.tree_dev.specs.Kinds.{names_entry}
use Rattle.pkg_pool.specs.declared.origin.Origin.{Origin}
use Rattle.pkg_pool.specs.Patterns.{is_wild, is_hidden, is_barred, seen_from}
use Rattle.pkg_pool.specs.Manifests.{manifest_path}

-- a name fits a segment of a url: a `*` any name that doesn't begin with `.`
abbrev pub fits : List ℕ → List ℕ → Bool
fits segment name = if is_wild segment then not (is_hidden name) else bytes_are_equal segment name

-- the names of a folder fit the segments of a url, one by one
abbrev pub fit_all : List (List ℕ) → List (List ℕ) → Bool
fit_all [] [] = true
fit_all [] (name ∷ names) = false
fit_all (segment ∷ segments) [] = false
fit_all (segment ∷ segments) (name ∷ names) = fits segment name && fit_all segments names

-- a package may be in it, and a composer.json stands in it
unfoldable pub holds_manifest : FileTree → Origin → List (List ℕ) → Bool
holds_manifest t origin folder = not (is_barred origin.project (seen_from origin folder)) && names_entry (kind_at t (manifest_path (seen_from origin folder)))

-- all folders of packages in a tree that a url matches, seen from where it begins, in path order
unfoldable pub matches : FileTree → Origin → List (List ℕ) → List (List (List ℕ))
matches t origin segments = filter (λ folder. fit_all segments folder && holds_manifest t origin folder) (filter_map (behind origin.start) (keys t))
