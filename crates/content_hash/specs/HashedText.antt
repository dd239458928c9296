-- The text whose hash a lock keeps, so that a change of what composer.json asks for is seen: the rule of
-- Composer's `Locker::getContentHash`.
use Rattle.std.specs.Prelude.{ℕ, List, [], ◌∷◌, ◌++◌, codes, Option, Some, None, option_map}
use Rattle.std.specs.Option.{option_to_list}
use Rattle.std.specs.List.{filter_map}
use Rattle.json_ordered.specs.JsonTree.{JsonTree, Null, object_of}
use Rattle.json_ordered.specs.JsonParts.{value_at}
use Rattle.json_ordered.specs.JsonTexts.{compact_text}

-- the keys whose values are hashed whole, in byte order
abbrev pub hashed_names : List (List ℕ)
hashed_names = codes "conflict" ∷ codes "extra" ∷ codes "minimum-stability" ∷ codes "name" ∷ codes "prefer-stable" ∷ codes "provide"
    ∷ codes "replace" ∷ codes "repositories" ∷ codes "require" ∷ codes "require-dev" ∷ codes "version" ∷ []

-- a key with its value, where a manifest has it
abbrev pub pair_at : JsonTree → List ℕ → Option (List ℕ × JsonTree)
pair_at manifest name = option_map (λ value. (name, value)) (value_at manifest name)

abbrev pub unless_null : Option JsonTree → Option JsonTree
unless_null (Some Null) = None
unless_null value = value

-- the platform of a `config`, unless it is null
abbrev pub platform_of : Option JsonTree → Option JsonTree
platform_of (Some config) = unless_null (value_at config (codes "platform"))
platform_of None = None

-- of `config` the platform alone, where it has one
abbrev pub config_pair : JsonTree → Option (List ℕ × JsonTree)
config_pair manifest = option_map (λ platform. (codes "config", object_of ((codes "platform", platform) ∷ []))) (platform_of (value_at manifest (codes "config")))

-- what is hashed, in byte order of the keys; `config` is the first of all
abbrev pub hashed_pairs : JsonTree → List (List ℕ × JsonTree)
hashed_pairs manifest = option_to_list (config_pair manifest) ++ filter_map (pair_at manifest) hashed_names

abbrev pub hashed_text_of : JsonTree → List ℕ
hashed_text_of manifest = compact_text (object_of (hashed_pairs manifest))
