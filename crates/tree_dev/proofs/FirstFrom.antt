-- The first entry of a range of a `BTreeMap` of paths.
use Rattle.std.proofs.Common.{◌≡◌, List, ◌∷◌, ℕ, Option, Some, None, false, is_some, refl, sym, ap, ◌∙◌}
use Rattle.std.specs.Option.{option_map, IsSome}
use Rattle.std.specs.Ordering.{is_gt}
use Rattle.std.specs.FinMap.{get}
use Rattle.path_name.specs.Orders.{path_cmp}
use Rattle.tree_dev.specs.Listing.{IsFirstFrom}
use Rattle.tree_dev.specs.Trees.{FileTree}
use Rattle.tree_dev.specs.Stored.{entry_of, tree_of}
use Rattle.tree_dev.specs.declared.stored.Stored.{Stored}
use Rattle.tree_dev.proofs.FiniteTrees.{found, get_path}

some_mapped : (o : Option Stored) → is_some (option_map entry_of o) ≡ is_some o
some_mapped None = refl
some_mapped (Some x) = refl

pub none_there : (entries : List (List (List ℕ) × Stored)) (t : FileTree) (path : List (List ℕ)) → tree_of entries ≡ t → found entries path ≡ None → get t path ≡ None
none_there entries t path seen none = ap (λ m. get m path) (sym seen) ∙ get_path entries path ∙ ap (option_map entry_of) none

pub first_there : (entries r rest : List (List (List ℕ) × Stored)) (t : FileTree) (from first : List (List ℕ)) (x : Stored) → tree_of entries ≡ t → r ≡ (first, x) ∷ rest
    → is_gt (path_cmp from first) ≡ false → found entries first ≡ Some x
    → ((q : List (List ℕ)) → is_gt (path_cmp from q) ≡ false → IsSome (found entries q) → is_gt (path_cmp first q) ≡ false)
    → IsFirstFrom t from first
first_there entries r rest t from first x seen is after has least = record {
  after = after;
  has = ap (λ m. is_some (get m first)) (sym seen) ∙ ap is_some (get_path entries first) ∙ some_mapped (found entries first) ∙ ap is_some has;
  least = λ q le there. least q le (sym (some_mapped (found entries q)) ∙ ap is_some (sym (get_path entries q)) ∙ ap (λ m. is_some (get m q)) seen ∙ there);
}
