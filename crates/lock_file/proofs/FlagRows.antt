-- The rows of a map of flags.
use Rattle.std.proofs.Common.{◌≡◌, ℕ, Bool, true, false, cond, List, [], ◌∷◌, map, find, Option, Some, refl, sym, ap, subst, ◌∙◌}
use Rattle.std.specs.Prelude.{option_map}
use Rattle.std.specs.List.Sorted.{IsStrictlySortedBy}
use Rattle.std.specs.Map.{keys_of, lookup}
use Rattle.std.specs.BTreeMap.{is_at}
use Rattle.path_name.specs.Orders.{byte_cmp, bytes_are_equal}
use Rattle.version_norm.specs.Stability.{rank_of}
use Rattle.version_norm.specs.declared.version.Grade.{Grade}
use Rattle.manifest_read.specs.declared.types.Manifest.{Manifest}
use Rattle.pkg_pool.specs.Stability.{root_flag}
use Rattle.lock_file.specs.declared.types.FlagRow.{FlagRow}
use Rattle.lock_file.specs.PlanLocks.{row_of, rank_in, AreFlagRows}
use Rattle.lock_file.proofs.Behind.{at_key}

names_are : (entries : List (List ℕ × Grade)) → map (λ (row : FlagRow). row.name) (map row_of entries) ≡ keys_of entries
names_are [] = refl
names_are (entry ∷ entries) = ap (λ names. entry.0 ∷ names) (names_are entries)

rank_step : (t : Bool) (entry : List ℕ × Grade) (rows : List FlagRow) (name : List ℕ) (rest : Option Grade) → rank_in rows name ≡ option_map rank_of rest
    → option_map (λ (row : FlagRow). row.rank) (cond t (Some (row_of entry)) (find (λ (row : FlagRow). bytes_are_equal row.name name) rows)) ≡ option_map rank_of (cond t (Some entry.1) rest)
rank_step true entry rows name rest e = refl
rank_step false entry rows name rest e = e

rank_found : (entries : List (List ℕ × Grade)) (name : List ℕ) → rank_in (map row_of entries) name ≡ option_map rank_of (lookup (is_at (byte_cmp name)) entries)
rank_found [] name = refl
rank_found (entry ∷ entries) name =
    rank_step (bytes_are_equal entry.0 name) entry (map row_of entries) name (lookup (is_at (byte_cmp name)) entries) (rank_found entries name)
    ∙ ap (λ t. option_map rank_of (cond t (Some entry.1) (lookup (is_at (byte_cmp name)) entries))) (sym (at_key name entry.0))

pub are_rows : (root : Manifest) (entries : List (List ℕ × Grade)) (rows : List FlagRow) → rows ≡ map row_of entries → IsStrictlySortedBy byte_cmp (keys_of entries)
    → ((name : List ℕ) → lookup (is_at (byte_cmp name)) entries ≡ root_flag root name) → AreFlagRows root rows
are_rows root entries rows is sorted each = subst (AreFlagRows root) (sym is) (record {
  ascending = subst (IsStrictlySortedBy byte_cmp) (sym (names_are entries)) sorted;
  each = λ name. rank_found entries name ∙ ap (option_map rank_of) (each name);
})
