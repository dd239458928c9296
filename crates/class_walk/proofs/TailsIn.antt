-- What lies below a folder of a tree is its entries, each with what lies below it.
use Rattle.std.proofs.Common.{◌≡◌, ℕ, Bool, true, false, cond, T, List, [], ◌∷◌, ◌++◌, map, Option, Some, None, refl, sym, ap, subst, ◌∙◌, inl, inr, append_assoc}
use Rattle.std.specs.Prelude.{◌⊎◌, ◌||◌, is_some}
use Rattle.std.specs.List.{filter_map, cons_option, flat_map, list_any, AllByRecursion}
use Rattle.std.specs.List.Sorted.{IsStrictlySortedBy}
use Rattle.std.specs.Ordering.{is_lt}
use Rattle.std.specs.FinMap.{get, contains_key, contains_key-keys, entries, entries_sorted, keys, is_sorted}
use Rattle.std.specs.FinMap.Entries.{below_all}
use Rattle.std.specs.declared.cmp.Ordering.{Ordering}
use Rattle.std.specs.declared.cmp.Ordering.TheVariants.{Less, Equal, Greater}
use Rattle.path_name.specs.Orders.{path_cmp, bytes_are_equal}
use Rattle.path_name.specs.Paths.{without_last}
use Rattle.tree_dev.specs.Told.{both}
use Rattle.tree_dev.specs.Changes.{is_root}
use Rattle.tree_dev.specs.Trees.{FileTree, IsTree, behind, one_segment, names_in, entry_at, has_folder, is_folder}
use Rattle.tree_dev.specs.declared.entry.Entry.{Entry}
use Rattle.tree_dev.specs.declared.entry.Entry.TheVariants as kinds
use Rattle.tree_dev.proofs.Behind.{behind_head, head_behind}
use Rattle.tree_dev.proofs.Carried.{free_below}
use Rattle.tree_dev.proofs.NameOrder.{same_head}
use Rattle.tree_dev.proofs.Snoc.{without_last-snoc}
use Rattle.tree_dev.proofs.SamePaths.{is_same, same_path, is_same_path}
use Rattle.class_walk.specs.Reached.{filled, tail_below, tails_in}
use Rattle.class_walk.proofs.Blocks.{Path, Member, Held, names, tails_of, block, flat_same, in_blocks}

-- ---- one path

tail_by : (p q a : Path) (o : Option Path) → behind p q ≡ o → filled o ≡ Some a → q ≡ p ++ a
tail_by p q a None e h = absurd cc
tail_by p q a (Some []) e h = absurd cc
tail_by p q a (Some (x ∷ rest)) e h = head_behind p q (x ∷ rest) e ∙ (let same : x ∷ rest ≡ a = cc in ap (λ tail. p ++ tail) same)

tail_is : (p q a : Path) → tail_below p q ≡ Some a → q ≡ p ++ a
tail_is p q a e = tail_by p q a (behind p q) refl e

full_by : (o : Option Path) → filled o ≡ Some [] → ⊥
full_by None h = cc
full_by (Some []) h = cc
full_by (Some (x ∷ rest)) h = let w : x ∷ rest ≡ [] = cc in cc

tail_of : (p : Path) (x : List ℕ) (rest : Path) → tail_below p (p ++ x ∷ rest) ≡ Some (x ∷ rest)
tail_of p x rest = ap filled (behind_head p (x ∷ rest))

abbrev pub then_behind : Path → Option Path → Option Path
then_behind more None = None
then_behind more (Some rest) = behind more rest

behind_on : (p more q : Path) → behind (p ++ more) q ≡ then_behind more (behind p q)
behind_on [] more q = refl
behind_on (first ∷ p) more [] = refl
behind_on (first ∷ p) more (segment ∷ q) = step (bytes_are_equal first segment) (behind_on p more q)
  where
    step : (same : Bool) → behind (p ++ more) q ≡ then_behind more (behind p q) → cond same (behind (p ++ more) q) None ≡ then_behind more (cond same (behind p q) None)
    step true e = e
    step false e = refl

-- ---- sorted

lt_less : (o : Ordering) → is_lt o ≡ true → o ≡ Less
lt_less Less e = refl
lt_less Equal e = absurd cc
lt_less Greater e = absurd cc

t_true : (b : Bool) → T b → b ≡ true
t_true true p = refl
t_true false p = absurd p

abbrev pub paths_of : List (Path × Entry) → List Path
paths_of es = map (λ e. e.0) es

tails_order : (p q r a b : Path) → tail_below p q ≡ Some a → tail_below p r ≡ Some b → path_cmp q r ≡ Less → path_cmp a b ≡ Less
tails_order p q r a b one other less =
    sym (same_head p a b) ∙ ap (λ s. path_cmp s (p ++ b)) (sym (tail_is p q a one)) ∙ ap (path_cmp q) (sym (tail_is p r b other)) ∙ less

later_tails : (p q a : Path) (es : List (Path × Entry)) → tail_below p q ≡ Some a → below_all path_cmp q es ≡ true → AllByRecursion (λ b. path_cmp a b ≡ Less) (filter_map (tail_below p) (paths_of es))
later_tails p q a [] is below = tt
later_tails p q a (e ∷ es) is below = step (tail_below p e.0) refl (later_tails p q a es is parts.1)
  where
    parts : (is_lt (path_cmp q e.0) ≡ true) × (below_all path_cmp q es ≡ true)
    parts = both (is_lt (path_cmp q e.0)) (below_all path_cmp q es) below

    step : (tail : Option Path) → tail_below p e.0 ≡ tail → AllByRecursion (λ b. path_cmp a b ≡ Less) (filter_map (tail_below p) (paths_of es))
        → AllByRecursion (λ b. path_cmp a b ≡ Less) (cons_option tail (filter_map (tail_below p) (paths_of es)))
    step None h more = more
    step (Some b) h more = (tails_order p q e.0 a b is h (lt_less (path_cmp q e.0) parts.0), more)

sorted_tails : (p : Path) (es : List (Path × Entry)) → is_sorted path_cmp es ≡ true → IsStrictlySortedBy path_cmp (filter_map (tail_below p) (paths_of es))
unfolding IsStrictlySortedBy
sorted_tails p [] sorted = tt
sorted_tails p (e ∷ es) sorted = step (tail_below p e.0) refl (sorted_tails p es parts.1)
  where
    parts : (below_all path_cmp e.0 es ≡ true) × (is_sorted path_cmp es ≡ true)
    parts = both (below_all path_cmp e.0 es) (is_sorted path_cmp es) sorted

    step : (tail : Option Path) → tail_below p e.0 ≡ tail → IsStrictlySortedBy path_cmp (filter_map (tail_below p) (paths_of es))
        → IsStrictlySortedBy path_cmp (cons_option tail (filter_map (tail_below p) (paths_of es)))
    step None h more = more
    step (Some a) h more = (later_tails p e.0 a es h parts.0, more)

tails_sorted : (t : FileTree) (p : Path) → IsStrictlySortedBy path_cmp (tails_in t p)
unfolding tails_in
tails_sorted t p = sorted_tails p (entries t) (t_true (is_sorted path_cmp (entries t)) (entries_sorted t))

-- ---- members

or_true : (a b : Bool) → (a ≡ true) ⊎ (b ≡ true) → (a || b) ≡ true
or_true a b (inl e) = rw e refl
or_true true b (inr e) = refl
or_true false b (inr e) = e

member_any : (q : Path) (ks : List Path) → Member q ks → list_any (is_same q) ks ≡ true
member_any q [] there = absurd there
member_any q (k ∷ ks) (inl same) = or_true (is_same q k) (list_any (is_same q) ks) (inl (is_same_path q k (sym same)))
member_any q (k ∷ ks) (inr there) = or_true (is_same q k) (list_any (is_same q) ks) (inr (member_any q ks there))

any_member : (q : Path) (ks : List Path) → list_any (is_same q) ks ≡ true → Member q ks
any_member q [] e = absurd cc
any_member q (k ∷ ks) e = step (is_same q k) refl e (any_member q ks)
  where
    step : (t : Bool) → is_same q k ≡ t → (t || list_any (is_same q) ks) ≡ true → (list_any (is_same q) ks ≡ true → Member q ks) → Member q (k ∷ ks)
    step true h f more = inl (sym (same_path q k h))
    step false h f more = inr (more f)

tail_key : (p a : Path) (ks : List Path) → Member a (filter_map (tail_below p) ks) → Member (p ++ a) ks
tail_key p a [] there = absurd there
tail_key p a (k ∷ ks) there = step (tail_below p k) refl there (tail_key p a ks)
  where
    step : (o : Option Path) → tail_below p k ≡ o → Member a (cons_option o (filter_map (tail_below p) ks)) → (Member a (filter_map (tail_below p) ks) → Member (p ++ a) ks) → Member (p ++ a) (k ∷ ks)
    step None h among more = inr (more among)
    step (Some b) h (inl same) more = inl (tail_is p k b h ∙ ap (λ tail. p ++ tail) same)
    step (Some b) h (inr among) more = inr (more among)

kept_by : (o : Option Path) (a : Path) (tails : List Path) → Member a tails → Member a (cons_option o tails)
kept_by None a tails there = there
kept_by (Some b) a tails there = inr there

key_tail : (p : Path) (x : List ℕ) (rest : Path) (ks : List Path) → Member (p ++ x ∷ rest) ks → Member (x ∷ rest) (filter_map (tail_below p) ks)
key_tail p x rest [] there = absurd there
key_tail p x rest (k ∷ ks) (inl same) =
    subst (λ o. Member (x ∷ rest) (cons_option o (filter_map (tail_below p) ks))) (sym (ap (tail_below p) same ∙ tail_of p x rest)) (inl refl)
key_tail p x rest (k ∷ ks) (inr there) = kept_by (tail_below p k) (x ∷ rest) (filter_map (tail_below p) ks) (key_tail p x rest ks there)

no_empty : (p : Path) (ks : List Path) → Member [] (filter_map (tail_below p) ks) → ⊥
no_empty p [] there = there
no_empty p (k ∷ ks) there = step (tail_below p k) refl there (no_empty p ks)
  where
    step : (o : Option Path) → tail_below p k ≡ o → Member [] (cons_option o (filter_map (tail_below p) ks)) → (Member [] (filter_map (tail_below p) ks) → ⊥) → ⊥
    step None h among more = more among
    step (Some b) h (inl same) more = full_by (behind p k) (h ∙ ap Some same)
    step (Some b) h (inr among) more = more among

tail_there : (t : FileTree) (p a : Path) → Member a (tails_in t p) → contains_key t (p ++ a) ≡ true
unfolding tails_in
tail_there t p a there = contains_key-keys t (p ++ a) ∙ member_any (p ++ a) (keys t) (tail_key p a (keys t) there)

there_tail : (t : FileTree) (p : Path) (x : List ℕ) (rest : Path) → contains_key t (p ++ x ∷ rest) ≡ true → Member (x ∷ rest) (tails_in t p)
unfolding tails_in
there_tail t p x rest has = key_tail p x rest (keys t) (any_member (p ++ x ∷ rest) (keys t) (sym (contains_key-keys t (p ++ x ∷ rest)) ∙ has))

none_empty : (t : FileTree) (p : Path) → Member [] (tails_in t p) → ⊥
unfolding tails_in
none_empty t p there = no_empty p (keys t) there

-- ---- in a tree

not_root : (p : Path) (x : List ℕ) → is_root (p ++ x ∷ []) ≡ false
not_root [] x = refl
not_root (first ∷ p) x = refl

some_or_none : (o : Option Entry) → (is_some o ≡ true) ⊎ (o ≡ None)
some_or_none None = inr refl
some_or_none (Some e) = inl refl

below_there : (t : FileTree) (p : Path) (x : List ℕ) (rest : Path) → IsTree t → contains_key t (p ++ x ∷ rest) ≡ true → contains_key t (p ++ x ∷ []) ≡ true
below_there t p x rest tree has = elim (some_or_none (get t (p ++ x ∷ []))) [
  | inl there ↦ there
  | inr none ↦ absurd (
      let nothing : get t ((p ++ x ∷ []) ++ rest) ≡ None = free_below t (p ++ x ∷ []) tree (not_root p x) none rest in
      let same : get t (p ++ x ∷ rest) ≡ None = ap (get t) (sym (append_assoc p (x ∷ []) rest)) ∙ nothing in
      let wrong : false ≡ true = sym (ap is_some same) ∙ has in
      absurd cc)
]

tails_held : (t : FileTree) (p : Path) → IsTree t → Held (tails_in t p)
tails_held t p tree x y rest there = there_tail t p x [] (below_there t p x (y ∷ rest) tree (tail_there t p (x ∷ y ∷ rest) there))

-- ---- names, and what lies below them

names_of_tails : (p : Path) (ks : List Path) → names (filter_map (tail_below p) ks) ≡ filter_map (λ q. one_segment (behind p q)) ks
names_of_tails p [] = refl
names_of_tails p (k ∷ ks) = step (behind p k) (names_of_tails p ks)
  where
    step : (o : Option Path) → names (filter_map (tail_below p) ks) ≡ filter_map (λ q. one_segment (behind p q)) ks
        → names (cons_option (filled o) (filter_map (tail_below p) ks)) ≡ cons_option (one_segment o) (filter_map (λ q. one_segment (behind p q)) ks)
    step None e = e
    step (Some []) e = e
    step (Some (x ∷ [])) e = ap (λ more. x ∷ more) e
    step (Some (x ∷ y ∷ rest)) e = e

pub names_are : (t : FileTree) (p : Path) → names (tails_in t p) ≡ names_in t p
unfolding tails_in names_in
names_are t p = names_of_tails p (keys t)

tails_of_tails : (p : Path) (name : List ℕ) (ks : List Path) → tails_of name (filter_map (tail_below p) ks) ≡ filter_map (tail_below (p ++ name ∷ [])) ks
tails_of_tails p name [] = refl
tails_of_tails p name (k ∷ ks) = step (behind p k) (tails_of_tails p name ks) ∙ ap (λ o. cons_option (filled o) (filter_map (tail_below (p ++ name ∷ [])) ks)) (sym (behind_on p (name ∷ []) k))
  where
    step : (o : Option Path) → tails_of name (filter_map (tail_below p) ks) ≡ filter_map (tail_below (p ++ name ∷ [])) ks
        → tails_of name (cons_option (filled o) (filter_map (tail_below p) ks)) ≡ cons_option (filled (then_behind (name ∷ []) o)) (filter_map (tail_below (p ++ name ∷ [])) ks)
    step None e = e
    step (Some []) e = e
    step (Some (x ∷ rest)) e = ap (cons_option (filled (behind (name ∷ []) (x ∷ rest)))) e

tails_below_are : (t : FileTree) (p : Path) (name : List ℕ) → tails_of name (tails_in t p) ≡ tails_in t (p ++ name ∷ [])
unfolding tails_in
tails_below_are t p name = tails_of_tails p name (keys t)

-- an entry of a folder, and what lies below it, seen from the folder
abbrev pub entry_block : FileTree → Path → List ℕ → List Path
entry_block t p name = (name ∷ []) ∷ map (λ rest. name ∷ rest) (tails_in t (p ++ name ∷ []))

pub tails_by_names : (t : FileTree) (p : Path) → IsTree t → tails_in t p ≡ flat_map (entry_block t p) (names_in t p)
tails_by_names t p tree =
    in_blocks (tails_in t p) (tails_sorted t p) (tails_held t p tree) (none_empty t p)
    ∙ flat_same (block (tails_in t p)) (entry_block t p) (names (tails_in t p)) (λ name there. ap (λ below. (name ∷ []) ∷ map (λ rest. name ∷ rest) below) (tails_below_are t p name))
    ∙ ap (flat_map (entry_block t p)) (names_are t p)

-- ---- below a file

no_members : (tails : List Path) → ((tail : Path) → Member tail tails → ⊥) → tails ≡ []
no_members [] none = refl
no_members (tail ∷ tails) none = absurd (none tail (inl refl))

file_at : (t : FileTree) (p : Path) (bytes : List ℕ) → entry_at t p ≡ Some (kinds.File bytes) → is_folder (entry_at t p) ≡ false
file_at t p bytes file = ap is_folder file

pub below_file : (t : FileTree) (p : Path) (bytes : List ℕ) → IsTree t → entry_at t p ≡ Some (kinds.File bytes) → tails_in t p ≡ []
below_file t p bytes tree file = no_members (tails_in t p) (λ tail there. no_tail tail there)
  where
    no_tail : (tail : Path) → Member tail (tails_in t p) → ⊥
    no_tail [] there = none_empty t p there
    no_tail (x ∷ rest) there =
        let has = below_there t p x rest tree (tail_there t p (x ∷ rest) there) in
        let above : has_folder t (without_last (p ++ x ∷ [])) ≡ true = tree.below_folders (p ++ x ∷ []) has in
        let here : is_folder (entry_at t p) ≡ true = ap (has_folder t) (sym (without_last-snoc p x)) ∙ above in
        let no_folder = file_at t p bytes file in
        absurd cc
