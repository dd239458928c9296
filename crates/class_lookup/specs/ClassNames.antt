-- Which class a text names.
use Rattle.std.specs.Prelude.{ℕ, List, [], ◌∷◌, ◌==◌, if◌then◌else◌, Result, Ok, Err}
use Rattle.class_paths.specs.ClassNames.{is_class_name}
use Rattle.class_lookup.specs.declared.fault.LookupFault.{LookupFault}
use Rattle.class_lookup.specs.declared.fault.LookupFault.TheVariants.{BadName}

-- one leading `\` is cut
abbrev pub without_lead : List ℕ → List ℕ
without_lead [] = []
without_lead (byte ∷ rest) = if byte == 92 then rest else byte ∷ rest

-- the class that a text names
unfoldable pub class_name_of : List ℕ → Result (List ℕ) LookupFault
class_name_of text = if is_class_name (without_lead text) then Ok (without_lead text) else Err BadName
