-- Flags from lists of requirements, and in a map.
use Rattle.std.proofs.Common.{◌≡◌, ℕ, Bool, true, false, cond, List, [], ◌∷◌, ◌++◌, Option, Some, refl, sym, ap, ◌∙◌}
use Rattle.std.specs.BTreeMap.{is_at}
use Rattle.path_name.specs.Orders.{byte_cmp, bytes_are_equal, byte_ties}
use Rattle.tree_dev.proofs.Behind.{same_bytes}
use Rattle.version_norm.specs.declared.version.Grade.{Grade}
use Rattle.constraint_set.specs.declared.constraint.Flag.{Flag}
use Rattle.manifest_read.specs.declared.types.Link.{Link}
use Rattle.pkg_pool.specs.Stability.{counting, less_stable, flag_step, flag_from}

pub from_both : (minimum : Grade) (name : List ℕ) (found : Option Grade) (first second : List Link) → flag_from minimum name found (first ++ second) ≡ flag_from minimum name (flag_from minimum name found first) second
from_both minimum name found [] second = refl
from_both minimum name found (link ∷ first) second = from_both minimum name (flag_step minimum name found link) first second

put_case : (minimum : Grade) (flag : Option Flag) (grade put : Grade) (k name : List ℕ) (b : Bool) → bytes_are_equal k name ≡ b → (before : List ℕ → Option Grade) (now : Option Grade)
    → now ≡ cond b (Some put) (before name) → counting minimum flag ≡ Some grade → less_stable (before k) (Some grade) ≡ Some put → now ≡ cond b (less_stable (before name) (counting minimum flag)) (before name)
put_case minimum flag grade put k name true same before now is counts less =
    is ∙ sym less ∙ ap (λ n. less_stable (before n) (Some grade)) (same_bytes k name same) ∙ ap (less_stable (before name)) (sym counts)
put_case minimum flag grade put k name false apart before now is counts less = is

-- the flag of a requirement that is put where its name's was
pub put_there : (minimum : Grade) (flag : Option Flag) (grade put : Grade) (k name : List ℕ) (before : List ℕ → Option Grade) (now : Option Grade)
    → now ≡ cond (is_at (byte_cmp k) name) (Some put) (before name) → counting minimum flag ≡ Some grade → less_stable (before k) (Some grade) ≡ Some put
    → now ≡ cond (bytes_are_equal k name) (less_stable (before name) (counting minimum flag)) (before name)
put_there minimum flag grade put k name before now is counts less =
    put_case minimum flag grade put k name (bytes_are_equal k name) refl before now (is ∙ ap (λ b. cond b (Some put) (before name)) (sym (byte_ties k name))) counts less
