-- What a sink means, and what it takes.
use Rattle.std.specs.Prelude.{◌≡◌, ℕ, ◌≤◌, List, ◌++◌, Option}
use Rattle.std.specs.Option.{option_map}

-- The bytes taken so far, if they are told, and how often the sink has failed.
pub record Taken : Type 0 where
  pub bytes : Option (List ℕ)
  pub faults : ℕ

-- It took these bytes.
pub record Takes (before now : Taken) (piece : List ℕ) : Type 0 where
  pub bytes : now.bytes ≡ option_map (λ taken. taken ++ piece) before.bytes
  pub faults : before.faults ≤ now.faults

-- It took a prefix of these bytes.
pub record TakesPart (before now : Taken) (piece : List ℕ) : Type 0 where
  pub part : List ℕ
  pub rest : List ℕ
  pub parts : piece ≡ part ++ rest
  pub takes : Takes before now part
