-- One row more in a list by name, and what is found among rows of a name.
use Rattle.std.proofs.Common.{◌≡◌, ℕ, Bool, true, false, cond, List, [], ◌∷◌, ◌++◌, filter, find, Option, Some, None, refl, sym, ap, ◌∙◌}
use Rattle.std.specs.Prelude.{◌&&◌, ◌||◌, option_map}
use Rattle.std.specs.List.{list_any}
use Rattle.std.specs.Option.{unwrap_or}
use Rattle.std.specs.BTreeMap.{is_at}
use Rattle.std.specs.Cmp.Lexicographic.{same_text}
use Rattle.std.proofs.lemmas.List.{append-nil}
use Rattle.path_name.specs.Orders.{byte_cmp, bytes_are_equal, byte_ties}

module _ {T V : Type 0} (items : V → List T) where
  abbrev pub all_of : Option V → List T
  all_of rows = unwrap_or (option_map items rows) []

  put_step : (t : Bool) (name other : List ℕ) (row : T) (rows : V) (here there removed now : Option V) → bytes_are_equal name other ≡ t → (name ≡ other → here ≡ there) → items rows ≡ all_of here ++ row ∷ []
      → removed ≡ cond t None there → now ≡ cond t (Some rows) removed → all_of now ≡ all_of there ++ cond t (row ∷ []) []
  put_step true name other row rows here there removed now e same rows_are gone put = ap all_of put ∙ rows_are ∙ ap (λ o. all_of o ++ row ∷ []) (same (same_text name other (sym e)))
  put_step false name other row rows here there removed now e same rows_are gone put = ap all_of (put ∙ gone) ∙ sym (append-nil (all_of there))

  pub put_rows : (name key other : List ℕ) (row : T) (rows : V) (here there removed now : Option V) → key ≡ name → (name ≡ other → here ≡ there) → items rows ≡ all_of here ++ row ∷ []
      → removed ≡ cond (is_at (byte_cmp name) other) None there → now ≡ cond (is_at (byte_cmp key) other) (Some rows) removed → all_of now ≡ all_of there ++ cond (bytes_are_equal name other) (row ∷ []) []
  put_rows name key other row rows here there removed now same_key same rows_are gone put =
      put_step (bytes_are_equal name other) name other row rows here there removed now refl same rows_are
      (gone ∙ ap (λ t. cond t None there) (sym (byte_ties name other)))
      (put ∙ ap (λ k. cond (is_at (byte_cmp k) other) (Some rows) removed) same_key ∙ ap (λ t. cond t (Some rows) removed) (sym (byte_ties name other)))

module _ {X : Type 0} (p q : X → Bool) where
  any_step : (t : Bool) (x : X) (xs : List X) → list_any (λ y. p y && q y) xs ≡ list_any q (filter p xs) → ((t && q x) || list_any (λ y. p y && q y) xs) ≡ list_any q (cond t (x ∷ filter p xs) (filter p xs))
  any_step true x xs rest = ap (λ t. q x || t) rest
  any_step false x xs rest = rest

  pub any_filter : (xs : List X) → list_any (λ x. p x && q x) xs ≡ list_any q (filter p xs)
  any_filter [] = refl
  any_filter (x ∷ xs) = any_step (p x) x xs (any_filter xs)

  find_step : (t : Bool) (x : X) (xs : List X) → find (λ y. p y && q y) xs ≡ find q (filter p xs) → cond (t && q x) (Some x) (find (λ y. p y && q y) xs) ≡ find q (cond t (x ∷ filter p xs) (filter p xs))
  find_step true x xs rest = ap (λ o. cond (q x) (Some x) o) rest
  find_step false x xs rest = rest

  pub find_filter : (xs : List X) → find (λ x. p x && q x) xs ≡ find q (filter p xs)
  find_filter [] = refl
  find_filter (x ∷ xs) = find_step (p x) x xs (find_filter xs)
