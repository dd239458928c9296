-- What is walked below a folder is what is walked of its entries.
use Rattle.std.proofs.Common.{◌≡◌, ℕ, Bool, true, false, cond, not, List, [], ◌∷◌, ◌++◌, map, filter, Option, Some, None, refl, sym, ap, ◌∙◌, append_assoc, append-nil}
use Rattle.std.specs.Prelude.{◌&&◌, ◌||◌, is_some}
use Rattle.std.specs.List.{flat_map, list_all}
use Rattle.std.proofs.lemmas.List.Folds.{list_all-append}
use Rattle.tree_dev.specs.Projects.{is_within}
use Rattle.tree_dev.specs.Trees.{FileTree, IsTree, behind, names_in, entry_at}
use Rattle.tree_dev.specs.declared.entry.Entry.TheVariants as kinds
use Rattle.tree_dev.proofs.Behind.{behind_head, head_behind}
use Rattle.class_walk.specs.Reached.{tails_in}
use Rattle.class_walk.specs.Walks.{is_hidden, is_skipped, is_reached, reached}
use Rattle.class_walk.specs.Searches.{reached_below, child_reached, names_reached}
use Rattle.class_walk.specs.declared.job.WalkJob.{WalkJob}
use Rattle.class_walk.proofs.Blocks.{Path}
use Rattle.class_walk.proofs.TailsIn.{entry_block, tails_by_names, below_file}

-- ---- filters

module _ {X Y : Type 0} (f : Y → Bool) (h : X → List Y) where
  filter_append : (a b : List Y) → filter f (a ++ b) ≡ filter f a ++ filter f b
  filter_append [] b = refl
  filter_append (y ∷ a) b = step (f y) (filter_append a b)
    where
      step : (t : Bool) → filter f (a ++ b) ≡ filter f a ++ filter f b → cond t (y ∷ filter f (a ++ b)) (filter f (a ++ b)) ≡ cond t (y ∷ filter f a) (filter f a) ++ filter f b
      step true e = ap (λ more. y ∷ more) e
      step false e = e

  filter_flat : (xs : List X) → filter f (flat_map h xs) ≡ flat_map (λ x. filter f (h x)) xs
  filter_flat [] = refl
  filter_flat (x ∷ xs) = filter_append (h x) (flat_map h xs) ∙ ap (λ back. filter f (h x) ++ back) (filter_flat xs)

map_append : {X Y : Type 0} (g : X → Y) (a b : List X) → map g (a ++ b) ≡ map g a ++ map g b
map_append g [] b = refl
map_append g (x ∷ a) b = ap (λ more. g x ∷ more) (map_append g a b)

map_flat : {X Y Z : Type 0} (g : Y → Z) (h : X → List Y) (xs : List X) → map g (flat_map h xs) ≡ flat_map (λ x. map g (h x)) xs
map_flat g h [] = refl
map_flat g h (x ∷ xs) = map_append g (h x) (flat_map h xs) ∙ ap (λ back. map g (h x) ++ back) (map_flat g h xs)

flat_each : {X Y : Type 0} (f g : X → List Y) (xs : List X) → ((x : X) → f x ≡ g x) → flat_map f xs ≡ flat_map g xs
flat_each f g [] each = refl
flat_each f g (x ∷ xs) each = ap (λ front. front ++ flat_map f xs) (each x) ∙ ap (λ back. g x ++ back) (flat_each f g xs each)

map_map : {X Y Z : Type 0} (g : Y → Z) (h : X → Y) (k : X → Z) (xs : List X) → ((x : X) → g (h x) ≡ k x) → map g (map h xs) ≡ map k xs
map_map g h k [] same = refl
map_map g h k (x ∷ xs) same = ap (λ first. first ∷ map g (map h xs)) (same x) ∙ ap (λ more. k x ∷ more) (map_map g h k xs same)

-- ---- below what is not walked, nothing is

within_longer : (head q rest : Path) (o : Option Path) → behind head q ≡ o → is_some o ≡ true → is_within head (q ++ rest) ≡ true
within_longer head q rest None e some = absurd cc
within_longer head q rest (Some more) e some =
    let whole : q ++ rest ≡ head ++ (more ++ rest) = ap (λ front. front ++ rest) (head_behind head q more e) ∙ append_assoc head more rest in
    ap (λ path. is_within head path) whole ∙ ap is_some (behind_head head (more ++ rest))

skipped_longer : (skip : List Path) (q rest : Path) → is_skipped skip q ≡ true → is_skipped skip (q ++ rest) ≡ true
skipped_longer [] q rest e = absurd cc
skipped_longer (head ∷ skip) q rest e = step (is_within head q) refl e (skipped_longer skip q rest)
  where
    or_true : (a b : Bool) → b ≡ true → (a || b) ≡ true
    or_true true b e = refl
    or_true false b e = e

    step : (t : Bool) → is_within head q ≡ t → (t || is_skipped skip q) ≡ true → (is_skipped skip q ≡ true → is_skipped skip (q ++ rest) ≡ true) → (is_within head (q ++ rest) || is_skipped skip (q ++ rest)) ≡ true
    step true h f more = rw (within_longer head q rest (behind head q) refl h) refl
    step false h f more = or_true (is_within head (q ++ rest)) (is_skipped skip (q ++ rest)) (more f)

abbrev pub is_seen : Path → Bool
is_seen tail = list_all (λ name. not (is_hidden name)) tail

lost : (seen more skipped longer : Bool) → (skipped ≡ true → longer ≡ true) → (seen && not skipped) ≡ false → ((seen && more) && not longer) ≡ false
lost false more skipped longer on e = refl
lost true false skipped longer on e = refl
lost true true true longer on e = rw (on refl) refl
lost true true false longer on e = absurd cc

unreached : (job : WalkJob) (tail rest : Path) → is_reached job tail ≡ false → is_reached job (tail ++ rest) ≡ false
unfolding is_reached
unreached job tail rest e =
    let seen : is_seen (tail ++ rest) ≡ (is_seen tail && is_seen rest) = list_all-append (λ name. not (is_hidden name)) tail rest in
    let longer : job.at ++ (tail ++ rest) ≡ (job.at ++ tail) ++ rest = sym (append_assoc job.at tail rest) in
    rw (seen, longer) (lost (is_seen tail) (is_seen rest) (is_skipped job.skip (job.at ++ tail)) (is_skipped job.skip ((job.at ++ tail) ++ rest)) (skipped_longer job.skip (job.at ++ tail) rest) e)

none_reached : (job : WalkJob) (tail : Path) (tails : List Path) → is_reached job tail ≡ false → filter (is_reached job) (map (λ rest. tail ++ rest) tails) ≡ []
none_reached job tail [] e = refl
none_reached job tail (rest ∷ tails) e = rw (unreached job tail rest e) (none_reached job tail tails e)

-- ---- one entry of a folder

-- what is walked below it
child_below : (t : FileTree) (job : WalkJob) (tail : Path) (name : List ℕ)
    → filter (is_reached job) (map (λ rest. tail ++ rest) (map (λ rest. name ∷ rest) (tails_in t ((job.at ++ tail) ++ name ∷ [])))) ≡ reached_below t job (tail ++ name ∷ [])
unfolding reached_below
child_below t job tail name =
    let place : (job.at ++ tail) ++ name ∷ [] ≡ job.at ++ (tail ++ name ∷ []) = append_assoc job.at tail (name ∷ []) in
    ap (filter (is_reached job)) (map_map (λ rest. tail ++ rest) (λ rest. name ∷ rest) (λ rest. (tail ++ name ∷ []) ++ rest) (tails_in t ((job.at ++ tail) ++ name ∷ [])) (λ rest. sym (append_assoc tail (name ∷ []) rest)))
    ∙ ap (λ at. filter (is_reached job) (map (λ rest. (tail ++ name ∷ []) ++ rest) (tails_in t at))) place

child_by : (t : FileTree) (job : WalkJob) (tail : Path) (name : List ℕ) (b : Bool) → is_reached job (tail ++ name ∷ []) ≡ b
    → cond b ((tail ++ name ∷ []) ∷ reached_below t job (tail ++ name ∷ [])) (reached_below t job (tail ++ name ∷ [])) ≡ cond b ((tail ++ name ∷ []) ∷ reached_below t job (tail ++ name ∷ [])) []
unfolding reached_below
child_by t job tail name true e = refl
child_by t job tail name false e = none_reached job (tail ++ name ∷ []) (tails_in t (job.at ++ (tail ++ name ∷ []))) e

child_is : (t : FileTree) (job : WalkJob) (tail : Path) (name : List ℕ)
    → filter (is_reached job) (map (λ rest. tail ++ rest) (entry_block t (job.at ++ tail) name)) ≡ child_reached t job tail name
unfolding child_reached
child_is t job tail name =
    ap (λ below. cond (is_reached job (tail ++ name ∷ [])) ((tail ++ name ∷ []) ∷ below) below) (child_below t job tail name)
    ∙ child_by t job tail name (is_reached job (tail ++ name ∷ [])) refl

-- ---- a folder

pub reached_by_names : (t : FileTree) (job : WalkJob) (tail : Path) → IsTree t → reached_below t job tail ≡ names_reached t job tail (names_in t (job.at ++ tail))
unfolding reached_below
reached_by_names t job tail tree =
    let at = job.at ++ tail in
    let block = entry_block t at in
    ap (λ tails. filter (is_reached job) (map (λ rest. tail ++ rest) tails)) (tails_by_names t at tree)
    ∙ ap (filter (is_reached job)) (map_flat (λ rest. tail ++ rest) block (names_in t at))
    ∙ filter_flat (is_reached job) (λ name. map (λ rest. tail ++ rest) (block name)) (names_in t at)
    ∙ flat_each (λ name. filter (is_reached job) (map (λ rest. tail ++ rest) (block name))) (child_reached t job tail) (names_in t at) (child_is t job tail)

pub none_below_file : (t : FileTree) (job : WalkJob) (tail : Path) (bytes : List ℕ) → IsTree t → entry_at t (job.at ++ tail) ≡ Some (kinds.File bytes) → reached_below t job tail ≡ []
unfolding reached_below
none_below_file t job tail bytes tree file = ap (λ tails. filter (is_reached job) (map (λ rest. tail ++ rest) tails)) (below_file t (job.at ++ tail) bytes tree file)

-- from the walk's own folder
map_itself : (tails : List Path) → map (λ rest. [] ++ rest) tails ≡ tails
map_itself [] = refl
map_itself (tail ∷ tails) = ap (λ more. tail ∷ more) (map_itself tails)

pub reached_at_start : (t : FileTree) (job : WalkJob) → reached_below t job [] ≡ reached t job
unfolding reached_below reached
reached_at_start t job =
    ap (filter (is_reached job)) (map_itself (tails_in t (job.at ++ [])))
    ∙ ap (λ at. filter (is_reached job) (tails_in t at)) (append-nil job.at)
