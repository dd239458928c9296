-- How the names of an object are hashed.
use Rattle.std.specs.Prelude.{ℕ, List}
use Rattle.std.specs.List.{concat}
use Rattle.std.specs.Hash.DefaultHasher.{initial, write}
use Rattle.std.specs.declared.hash.DefaultHasher.{DefaultHasher}
use Rattle.std.specs.Hash.FoldHasher as fold
use Rattle.sha2.specs.Sha256.{sha256}
use Rattle.json_ordered.specs.JsonTree.{JsonTree}
use Rattle.json_ordered.specs.JsonNames.{names_of}

-- SipHash-1-3 after the SHA-256 of all names, in a row
abbrev pub seed_of : List (List ℕ × JsonTree) → DefaultHasher
seed_of ms = write initial (sha256 (concat (names_of ms)))

-- the number of a name alone
abbrev pub number_of : List ℕ → ℕ
number_of name = fold.finish (fold.write fold.initial name)
