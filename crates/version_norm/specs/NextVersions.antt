-- The version that is next above another in the order: each numbered version has one.
use Rattle.std.specs.Prelude.{[], ◌∷◌, ◌++◌, Bool, true, false, Option, Some, None}
use Rattle.version_norm.specs.declared.version.Stage.TheVariants as stages
use Rattle.version_norm.specs.declared.version.Modifier.{Modifier}
use Rattle.version_norm.specs.declared.version.Numbered.{Numbered}

-- behind a dev mark alone comes alpha with it, and behind a version without either patch with it; behind a modifier with
-- the dev mark the same without it, and behind one without it the same with one number more, 0, and the dev mark
abbrev pub next_modifier : Option Modifier → Bool → Option Modifier
next_modifier None true = Some (record { stage = stages.Alpha; numbers = [] })
next_modifier None false = Some (record { stage = stages.Patch; numbers = [] })
next_modifier (Some modifier) true = Some modifier
next_modifier (Some modifier) false = Some (record { stage = modifier.stage; numbers = modifier.numbers ++ 0 ∷ [] })

abbrev pub next_mark : Option Modifier → Bool → Bool
next_mark None dev = true
next_mark (Some modifier) true = false
next_mark (Some modifier) false = true

abbrev pub next_version : Numbered → Numbered
next_version v = record { numbers = v.numbers; modifier = next_modifier v.modifier v.dev; dev = next_mark v.modifier v.dev }
