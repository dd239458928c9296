-- Entries copied into an empty folder, name by name.
use Rattle.std.proofs.Common.{◌≡◌, ℕ, Bool, true, false, ◌||◌, cond, List, [], ◌∷◌, ◌++◌, Option, Some, None, is_some, refl, sym, ap, ◌∙◌, append-nil}
use Rattle.std.proofs.lemmas.List.Folds.{list_any-append}
use Rattle.std.specs.FinMap as map
use Rattle.std.specs.Ordering.{eq_by_cmp}
use Rattle.path_name.specs.Orders.{byte_cmp}
use Rattle.tree_dev.specs.Trees.{FileTree, IsTree, entry_at, names_in}
use Rattle.tree_dev.specs.Changes.{is_root}
use Rattle.tree_dev.specs.declared.entry.Entry.{Entry}
use Rattle.tree_dev.specs.declared.entry.Entry.TheVariants as entries
use Rattle.tree_dev.proofs.Carried.{free_below}
use Rattle.tree_dev.proofs.NamesIn.{names_exactly}
use Rattle.tree_dev.proofs.Snoc.{not_root-append}
use Rattle.stage_job.specs.Copied.{AreThere, IsEmptyFolder, folder_alone, is_among, names_entry}
use Rattle.stage_job.specs.Jobs.{AreApart}
use Rattle.stage_job.specs.Staged.{IsFree, Puts}
use Rattle.stage_job.proofs.Below.{child_path, entry_at_child, entry_below_root, folder_above_child, not_below, not_child_itself, not_longer, other_child, same_name}
use Rattle.stage_job.proofs.Alike.{IsAlike}
use Rattle.std.proofs.Math.Bool.{or-true, or-false}

none_from : (o : Option Entry) → is_some o ≡ false → o ≡ None
none_from None e = refl
none_from (Some x) e = absurd cc

-- ---- what was put elsewhere leaves a source alone

pub source_kept : (from to : List (List ℕ)) (t m : FileTree) (what : List (List ℕ) → Option Entry) → AreApart from to → Puts to what t m → IsAlike from t m
source_kept from to t m what apart puts = record { each = λ below. puts.elsewhere (from ++ below) (not_below to from below (apart.1, apart.0)) }

-- an empty folder that was made
pub empty_folder : (at : List (List ℕ)) (t m : FileTree) → Puts at folder_alone t m → IsEmptyFolder at m
empty_folder at t m puts = record {
  folder = ap (map.get m) (sym (append-nil at)) ∙ puts.put [];
  none = λ name rest. puts.put (name ∷ rest);
}

-- ---- one name more

among_more : (n x : List ℕ) (done : List (List ℕ)) → is_among n (done ++ x ∷ []) ≡ (is_among n done || (eq_by_cmp byte_cmp n x || false))
among_more n x done = list_any-append (eq_by_cmp byte_cmp n) done (x ∷ [])

module _ (from to : List (List ℕ)) (done : List (List ℕ)) (x : List ℕ) (t m : FileTree) (so_far : Puts to (names_entry t from done) t m) (fresh : is_among x done ≡ false) where
  pub child_free : IsFree (to ++ x ∷ []) m
  child_free = record {
    above = folder_above_child m to x (ap (map.get m) (sym (append-nil to)) ∙ so_far.put []);
    none = λ below. ap (map.get m) (child_path to x below) ∙ so_far.put (x ∷ below) ∙ rw fresh refl;
  }

  pub child_put : AreApart from to → (u : FileTree) → Puts (to ++ x ∷ []) (λ below. map.get m ((from ++ x ∷ []) ++ below)) m u → Puts to (names_entry t from (done ++ x ∷ [])) t u
  child_put apart u puts = record {
    put = λ below. by below;
    elsewhere = λ path out. puts.elsewhere path (not_longer to (x ∷ []) path out) ∙ so_far.elsewhere path out;
  }
    where
      named : (n : List ℕ) (rest : List (List ℕ)) (same : Bool) → eq_by_cmp byte_cmp n x ≡ same → map.get u (to ++ n ∷ rest) ≡ cond (is_among n (done ++ x ∷ [])) (map.get t (from ++ n ∷ rest)) None
      named n rest true e =
          let is = same_name n x e in
          ap (λ (s : List ℕ). map.get u (to ++ s ∷ rest)) is ∙ ap (map.get u) (sym (child_path to x rest)) ∙ puts.put rest
          ∙ ap (map.get m) (child_path from x rest) ∙ so_far.elsewhere (from ++ x ∷ rest) (not_below to from (x ∷ rest) (apart.1, apart.0))
          ∙ ap (λ (s : List ℕ). map.get t (from ++ s ∷ rest)) (sym is)
          ∙ sym (ap (λ (b : Bool). cond b (map.get t (from ++ n ∷ rest)) None) (among_more n x done ∙ ap (λ (b : Bool). is_among n done || (b || false)) e ∙ or-true (is_among n done)))
      named n rest false e =
          puts.elsewhere (to ++ n ∷ rest) (other_child to n x rest e) ∙ so_far.put (n ∷ rest)
          ∙ sym (ap (λ (b : Bool). cond b (map.get t (from ++ n ∷ rest)) None) (among_more n x done ∙ ap (λ (b : Bool). is_among n done || (b || false)) e ∙ or-false (is_among n done)))

      by : (below : List (List ℕ)) → map.get u (to ++ below) ≡ names_entry t from (done ++ x ∷ []) below
      by [] = puts.elsewhere (to ++ []) (not_child_itself to x) ∙ so_far.put []
      by (n ∷ rest) = named n rest (eq_by_cmp byte_cmp n x) refl

pub none_put : (from to : List (List ℕ)) (t : FileTree) → IsEmptyFolder to t → Puts to (names_entry t from []) t t
none_put from to t empty = record { put = λ below. by below; elsewhere = λ path out. refl }
  where
    by : (below : List (List ℕ)) → map.get t (to ++ below) ≡ names_entry t from [] below
    by [] = ap (map.get t) (append-nil to) ∙ empty.folder
    by (n ∷ rest) = empty.none n rest

-- ---- all names

-- of a name that is not listed nothing stands there, and nothing below
pub unlisted : (t : FileTree) (from : List (List ℕ)) (n : List ℕ) (rest : List (List ℕ)) → IsTree t → is_root from ≡ false → is_among n (names_in t from) ≡ false → map.get t (from ++ n ∷ rest) ≡ None
unlisted t from n rest tree below none =
    ap (map.get t) (sym (child_path from n rest))
    ∙ free_below t (from ++ n ∷ []) tree (not_root-append from (n ∷ []) below) (none_from (map.get t (from ++ n ∷ [])) (sym (names_exactly t from n) ∙ none)) rest

listed_entry : (t : FileTree) (from : List (List ℕ)) (n : List ℕ) (rest : List (List ℕ)) (b : Bool) → is_among n (names_in t from) ≡ b → IsTree t → is_root from ≡ false
    → cond b (map.get t (from ++ n ∷ rest)) None ≡ map.get t (from ++ n ∷ rest)
listed_entry t from n rest true e tree below = refl
listed_entry t from n rest false e tree below = sym (unlisted t from n rest tree below e)

pub all_names : (t : FileTree) (from : List (List ℕ)) → IsTree t → is_root from ≡ false → entry_at t from ≡ Some entries.Folder → (below : List (List ℕ))
    → names_entry t from (names_in t from) below ≡ map.get t (from ++ below)
all_names t from tree below folder [] = sym (ap (map.get t) (append-nil from) ∙ sym (entry_below_root t from below) ∙ folder)
all_names t from tree below folder (n ∷ rest) = listed_entry t from n rest (is_among n (names_in t from)) refl tree below

-- the names that are listed are there
pub listed_there : (t : FileTree) (from : List (List ℕ)) → AreThere t from (names_in t from)
listed_there t from n among = ap is_some (entry_at_child t from n) ∙ sym (names_exactly t from n) ∙ among

pub there_alike : (t m : FileTree) (from names : List (List ℕ)) → IsAlike from t m → AreThere t from names → AreThere m from names
there_alike t m from names alike there n among =
    ap is_some (entry_at_child m from n) ∙ ap is_some (alike.each (n ∷ [])) ∙ sym (ap is_some (entry_at_child t from n)) ∙ there n among
