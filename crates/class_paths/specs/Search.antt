-- Which file a class opens: what an autoloader that is set up from rows and listed classes gives it (Composer's
-- documentation, "autoload"; PSR-4; PSR-0).
use Rattle.std.specs.Prelude.{ℕ, Bool, List, find, Option}
use Rattle.std.specs.Option.{option_map, option_or}
use Rattle.path_name.specs.Orders.{bytes_are_equal}
use Rattle.class_paths.specs.declared.types.Route.{Route}
use Rattle.class_paths.specs.Candidates.{candidates_of}

-- a class and the file that declares it
abbrev pub Listed : Type 0
Listed = List ℕ × List (List ℕ)

-- the file of the first listed class of this name, whether it is there or not
abbrev pub listed_file : List Listed → List ℕ → Option (List (List ℕ))
listed_file listed name = option_map (λ entry. entry.1) (find (λ entry. bytes_are_equal entry.0 name) listed)

-- the first candidate of the name at which there is a file
abbrev pub found_file : (List (List ℕ) → Bool) → List Route → List ℕ → Option (List (List ℕ))
found_file is_file rows name = find is_file (candidates_of rows name)

-- the file that a name opens: that of a listed class, or else that of a row
unfoldable pub search_file : (List (List ℕ) → Bool) → List Route → List Listed → List ℕ → Option (List (List ℕ))
search_file is_file rows listed name = option_or (listed_file listed name) (found_file is_file rows name)
