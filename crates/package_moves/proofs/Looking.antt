-- The entries of `vendor` looked at, name by name.
use Rattle.std.proofs.Common.{◌≡◌, ℕ, ◌+◌, ◌<◌, ◌≤◌, Bool, true, false, ◌||◌, ◌&&◌, List, [], ◌∷◌, ◌++◌, length, take, get_or, refl, sym, ap, subst, ◌∙◌, append_assoc, append-nil, arith}
use Rattle.std.proofs.lemmas.List.{take_all, take_more}
use Rattle.std.proofs.lemmas.List.Folds.{list_any-append}
use Rattle.std.specs.BTreeSet.{contains}
use Rattle.std.specs.List.{list_any}
use Rattle.std.specs.Ordering.{is_eq}
use Rattle.path_name.specs.Orders.{path_cmp}
use Rattle.path_name.specs.Paths.{without_last}
use Rattle.tree_dev.specs.Trees.{FileTree}
use Rattle.stage_job.specs.declared.job.Part.{Part}
use Rattle.package_moves.specs.Beside.{AreCounted}
use Rattle.package_moves.specs.Found.{AddsName, AddsNames}
use Rattle.package_moves.specs.Needed.{AreSameNeeds, Needs, above_count, above_counts, if_other, is_blocked, is_blocked_of, is_folder_at, needs_of, needs_with, others_in, unneeded_at, unneeded_of}
use Rattle.package_moves.specs.declared.counts.Counts.{Counts}
use Rattle.package_moves.specs.declared.unneeded.Found.{Found}
use Rattle.package_moves.proofs.Counting.{counted_on}

or_assoc : (a b c : Bool) → (a || (b || c)) ≡ ((a || b) || c)
or_assoc true b c = refl
or_assoc false b c = refl

or_turn : (a b : Bool) → (a || b) ≡ (b || a)
or_turn true true = refl
or_turn true false = refl
or_turn false true = refl
or_turn false false = refl

or_nothing : (a : Bool) → (a || false) ≡ a
or_nothing true = refl
or_nothing false = refl

next_take : {X : Type 0} (xs : List X) (i : ℕ) (x : X) → i < length xs → x ≡ get_or xs i x → take (i + 1) xs ≡ take i xs ++ x ∷ []
next_take xs i x lt is = take_more xs i x lt ∙ ap (λ y. take i xs ++ y ∷ []) (sym is)

-- ---- needs

any_more : (test : Part → Bool) (parts : List Part) (part : Part) → list_any test (parts ++ part ∷ []) ≡ (test part || list_any test parts)
any_more test parts part = list_any-append test parts (part ∷ []) ∙ ap (λ (b : Bool). list_any test parts || b) (or_nothing (test part)) ∙ or_turn (list_any test parts) (test part)

pub needs_more : (wanted : List Part) (i : ℕ) (x : Part) (before after : Needs) → i < length wanted → x ≡ get_or wanted i x
    → AreSameNeeds before (needs_of (take i wanted)) → AreSameNeeds after (needs_with x.target before) → AreSameNeeds after (needs_of (take (i + 1) wanted))
needs_more wanted i x before after lt is so_far adds = record {
  targets = λ path.
      adds.targets path ∙ ap (λ (b : Bool). is_eq (path_cmp x.target path) || b) (so_far.targets path)
      ∙ sym (any_more (λ part. is_eq (path_cmp part.target path)) (take i wanted) x)
      ∙ ap (λ (ps : List Part). list_any (λ part. is_eq (path_cmp part.target path)) ps) (sym (next_take wanted i x lt is));
  above = λ path.
      adds.above path ∙ ap (λ (b : Bool). is_folder_at (without_last x.target) path || b) (so_far.above path)
      ∙ sym (any_more (λ part. is_folder_at (without_last part.target) path) (take i wanted) x)
      ∙ ap (λ (ps : List Part). list_any (λ part. is_folder_at (without_last part.target) path) ps) (sym (next_take wanted i x lt is));
}

pub needs_all : (wanted : List Part) (i : ℕ) (needs : Needs) → length wanted ≤ i → AreSameNeeds needs (needs_of (take i wanted)) → AreSameNeeds needs (needs_of wanted)
needs_all wanted i needs le same = subst (λ (ps : List Part). AreSameNeeds needs (needs_of ps)) (take_all i wanted le) same

-- ---- one name more

module _ (needs : Needs) (folder : List (List ℕ)) where
  others_snoc : (names : List (List ℕ)) (x : List ℕ) → others_in needs folder (names ++ x ∷ []) ≡ others_in needs folder names ++ if_other (needs.is_target (folder ++ x ∷ [])) (folder ++ x ∷ [])
  others_snoc [] x = append-nil (if_other (needs.is_target (folder ++ x ∷ [])) (folder ++ x ∷ []))
  others_snoc (y ∷ ys) x =
      ap (λ (more : List (List (List ℕ))). if_other (needs.is_target (folder ++ y ∷ [])) (folder ++ y ∷ []) ++ more) (others_snoc ys x)
      ∙ sym (append_assoc (if_other (needs.is_target (folder ++ y ∷ [])) (folder ++ y ∷ [])) (others_in needs folder ys) (if_other (needs.is_target (folder ++ x ∷ [])) (folder ++ x ∷ [])))

  pub others_more : (names : List (List ℕ)) (i : ℕ) (x : List ℕ) (start before after : List (List (List ℕ))) → i < length names → x ≡ get_or names i x
      → before ≡ start ++ others_in needs folder (take i names) → after ≡ before ++ if_other (needs.is_target (folder ++ x ∷ [])) (folder ++ x ∷ [])
      → after ≡ start ++ others_in needs folder (take (i + 1) names)
  others_more names i x start before after lt is so_far adds =
      let one = if_other (needs.is_target (folder ++ x ∷ [])) (folder ++ x ∷ []) in
      adds ∙ ap (λ (xs : List (List (List ℕ))). xs ++ one) so_far ∙ append_assoc start (others_in needs folder (take i names)) one
      ∙ ap (λ (xs : List (List (List ℕ))). start ++ xs) (sym (others_snoc (take i names) x))
      ∙ ap (λ (ns : List (List ℕ)). start ++ others_in needs folder ns) (sym (next_take names i x lt is))

  pub others_all : (names : List (List ℕ)) (i : ℕ) (start after : List (List (List ℕ))) → length names ≤ i → after ≡ start ++ others_in needs folder (take i names) → after ≡ start ++ others_in needs folder names
  others_all names i start after le is = is ∙ ap (λ (ns : List (List ℕ)). start ++ others_in needs folder ns) (take_all i names le)

module _ (needs : Needs) (project : List (List ℕ)) (t : FileTree) (folder : List (List ℕ)) where
  unneeded_snoc : (names : List (List ℕ)) (x : List ℕ) → unneeded_of needs project t folder (names ++ x ∷ []) ≡ unneeded_of needs project t folder names ++ unneeded_at needs project t (folder ++ x ∷ [])
  unneeded_snoc [] x = append-nil (unneeded_at needs project t (folder ++ x ∷ []))
  unneeded_snoc (y ∷ ys) x =
      ap (λ (more : List (List (List ℕ))). unneeded_at needs project t (folder ++ y ∷ []) ++ more) (unneeded_snoc ys x)
      ∙ sym (append_assoc (unneeded_at needs project t (folder ++ y ∷ [])) (unneeded_of needs project t folder ys) (unneeded_at needs project t (folder ++ x ∷ [])))

  count_snoc : (names : List (List ℕ)) (x : List ℕ) → above_counts needs project t folder (names ++ x ∷ []) ≡ above_counts needs project t folder names + above_count needs project t (folder ++ x ∷ [])
  count_snoc [] x = omega arith
  count_snoc (y ∷ ys) x = let more = count_snoc ys x in omega (arith, more)

  -- whether a path is that of a name, and something is in the way there
  abbrev is_one : List ℕ → List (List ℕ) → Bool
  is_one x path = is_eq (path_cmp (folder ++ x ∷ []) path) && is_blocked needs project t (folder ++ x ∷ [])

  blocked_snoc : (names : List (List ℕ)) (x : List ℕ) (path : List (List ℕ)) → is_blocked_of needs project t folder (names ++ x ∷ []) path ≡ (is_blocked_of needs project t folder names path || is_one x path)
  blocked_snoc [] x path = or_nothing (is_one x path)
  blocked_snoc (y ∷ ys) x path =
      ap (λ (b : Bool). is_one y path || b) (blocked_snoc ys x path) ∙ or_assoc (is_one y path) (is_blocked_of needs project t folder ys path) (is_one x path)

  pub counts_more : (names : List (List ℕ)) (i : ℕ) (x : List ℕ) (a b d : Counts) → i < length names → x ≡ get_or names i x
      → AreCounted (above_counts needs project t folder (take i names)) a b → AreCounted (above_count needs project t (folder ++ x ∷ [])) b d
      → AreCounted (above_counts needs project t folder (take (i + 1) names)) a d
  counts_more names i x a b d lt is first second =
      subst (λ (k : ℕ). AreCounted k a d)
      (sym (count_snoc (take i names) x) ∙ ap (above_counts needs project t folder) (sym (next_take names i x lt is)))
      (counted_on (above_counts needs project t folder (take i names)) (above_count needs project t (folder ++ x ∷ [])) a b d first second)

  pub counts_all : (names : List (List ℕ)) (i : ℕ) (a b : Counts) → length names ≤ i → AreCounted (above_counts needs project t folder (take i names)) a b → AreCounted (above_counts needs project t folder names) a b
  counts_all names i a b le counted = subst (λ (ns : List (List ℕ)). AreCounted (above_counts needs project t folder ns) a b) (take_all i names le) counted

  turn : (one so_far start : Bool) → (one || (so_far || start)) ≡ ((so_far || one) || start)
  turn true true start = refl
  turn true false start = refl
  turn false true start = refl
  turn false false start = refl

  pub adds_more : (names : List (List ℕ)) (i : ℕ) (x : List ℕ) (start before after : Found) → i < length names → x ≡ get_or names i x
      → AddsNames needs project t folder (take i names) start before → AddsName needs project t (folder ++ x ∷ []) before after
      → AddsNames needs project t folder (take (i + 1) names) start after
  adds_more names i x start before after lt is so_far adds =
      let one = unneeded_at needs project t (folder ++ x ∷ []) in
      let next = sym (next_take names i x lt is) in
      record {
        gone =
            adds.gone ∙ ap (λ (xs : List (List (List ℕ))). xs ++ one) so_far.gone ∙ append_assoc start.unneeded.items (unneeded_of needs project t folder (take i names)) one
            ∙ ap (λ (xs : List (List (List ℕ))). start.unneeded.items ++ xs) (sym (unneeded_snoc (take i names) x))
            ∙ ap (λ (ns : List (List ℕ)). start.unneeded.items ++ unneeded_of needs project t folder ns) next;
        in_way = λ path.
            adds.in_way path ∙ ap (λ (b : Bool). is_one x path || b) (so_far.in_way path)
            ∙ turn (is_one x path) (is_blocked_of needs project t folder (take i names) path) (contains path_cmp start.blocked path)
            ∙ ap (λ (b : Bool). b || contains path_cmp start.blocked path) (sym (blocked_snoc (take i names) x path))
            ∙ ap (λ (ns : List (List ℕ)). is_blocked_of needs project t folder ns path || contains path_cmp start.blocked path) next;
      }

  pub adds_none : (found : Found) → AddsNames needs project t folder [] found found
  adds_none found = record { gone = sym (append-nil found.unneeded.items); in_way = λ path. refl }

  pub adds_all : (names : List (List ℕ)) (i : ℕ) (start after : Found) → length names ≤ i → AddsNames needs project t folder (take i names) start after → AddsNames needs project t folder names start after
  adds_all names i start after le adds = subst (λ (ns : List (List ℕ)). AddsNames needs project t folder ns start after) (take_all i names le) adds
