-- What is read is a path.
use Rattle.std.proofs.Common.{◌≡◌, ℕ, ◌+◌, Bool, true, false, cond, eqb, List, [], ◌∷◌, ◌++◌, length, Option, Some, None, Result, Ok, Err, refl, ◌∙◌, subst}
use Rattle.std.specs.List.{list_all, onto_first}
use Rattle.std.specs.Option.{ok_or}
use Rattle.path_name.specs.declared.fault.PathFault.{PathFault}
use Rattle.path_name.specs.declared.fault.PathFault.TheVariants.{BadSegment, AboveRoot}
use Rattle.path_name.specs.declared.folder_ref.FolderRef.{FolderRef}
use Rattle.path_name.specs.Given.{◌>>=◌}
use Rattle.path_name.specs.Paths.{has_no_slash, is_clean, is_here, is_above, is_segment, IsPath, without_last, entered, placed, path_step, read_parts, path_of, followed}
use Rattle.path_name.specs.FolderRefs.{folder_entered, folder_step, folder_of}
use Rattle.path_name.proofs.Joining.{split, HasFirst, split_has_first, both_true, segment_made, front_is_path, IsPath-append}

-- no part has a `/`
cut_kept : (t : Bool) (x : ℕ) (parts : List (List ℕ)) → eqb x 47 ≡ t → list_all has_no_slash parts ≡ true → HasFirst parts → list_all has_no_slash (cond t ([] ∷ parts) (onto_first x parts)) ≡ true
cut_kept true x parts e whole first = whole
cut_kept false x [] e whole first = absurd first
cut_kept false x (part ∷ parts) e whole first = rw e whole

all_cut : (text : List ℕ) → list_all has_no_slash (split text) ≡ true
all_cut [] = refl
all_cut (x ∷ xs) = cut_kept (eqb x 47) x (split xs) refl (all_cut xs) (split_has_first xs)

-- what each part keeps, a reading keeps
module _ {S : Type 0} (step : S → ℕ × List ℕ → Result S PathFault) (Holds : S → Type 0) where
  reads_keep : ((before after : S) (at : ℕ) (part : List ℕ) → Holds before → has_no_slash part ≡ true → step before (at, part) ≡ Ok after → Holds after)
      → (before : S) (at : ℕ) (parts : List (List ℕ)) → Holds before → list_all has_no_slash parts ≡ true → (read : S) → read_parts step before (placed at parts) ≡ Ok read → Holds read
  reads_keep keep before at [] h whole read e =
      let same : before ≡ read = cc in
      subst Holds same h
  reads_keep keep before at (part ∷ parts) h whole read e =
      let w = both_true (has_no_slash part) (list_all has_no_slash parts) whole in
      by_step w.0 (λ after holds. reads_keep keep after (at + length part + 1) parts holds w.1 read) (step before (at, part)) refl e
    where
      by_step : has_no_slash part ≡ true → ((after : S) → Holds after → read_parts step after (placed (at + length part + 1) parts) ≡ Ok read → Holds read)
          → (r : Result S PathFault) → step before (at, part) ≡ r → (r >>= λ after. read_parts step after (placed (at + length part + 1) parts)) ≡ Ok read → Holds read
      by_step one again (Ok after) is e = again after (keep before after at part h one is) e
      by_step one again (Err fault) is e = absurd cc

-- a part that is entered
segment_added : (before : List (List ℕ)) (part : List ℕ) → IsPath before → is_clean part ≡ true → has_no_slash part ≡ true → is_here part ≡ false → is_above part ≡ false → IsPath (before ++ part ∷ [])
segment_added before part path clean whole here above =
    let segment : is_segment part ≡ true = segment_made part (record { clean = clean; whole = whole; here = here; above = above }) in
    IsPath-append before (part ∷ []) path (rw segment refl)

enters : (before after : List (List ℕ)) (part : List ℕ) → IsPath before → is_clean part ≡ true → has_no_slash part ≡ true → entered before part ≡ Some after → IsPath after
enters before after part path clean whole = by_kind (is_here part) (is_above part) refl refl
  where
    by_kind : (here above : Bool) → is_here part ≡ here → is_above part ≡ above → cond here (Some before) (cond above (without_last before) (Some (before ++ part ∷ []))) ≡ Some after → IsPath after
    by_kind true above h a e =
        let same : before ≡ after = cc in
        subst IsPath same path
    by_kind false true h a e = front_is_path before after path e
    by_kind false false h a e =
        let same : before ++ part ∷ [] ≡ after = cc in
        subst IsPath same (segment_added before part path clean whole h a)

path_kept : (before after : List (List ℕ)) (at : ℕ) (part : List ℕ) → IsPath before → has_no_slash part ≡ true → path_step before (at, part) ≡ Ok after → IsPath after
path_kept before after at part path whole = by_clean (is_clean part) refl (entered before part) refl
  where
    by_clean : (clean : Bool) → is_clean part ≡ clean → (next : Option (List (List ℕ))) → entered before part ≡ next → cond clean (ok_or next (AboveRoot at)) (Err (BadSegment at)) ≡ Ok after → IsPath after
    by_clean true c (Some next) is e =
        let same : next ≡ after = cc in
        subst IsPath same (enters before next part path c whole is)
    by_clean true c None is e = absurd cc
    by_clean false c next is e = absurd cc

folder_kept : (before after : FolderRef) (at : ℕ) (part : List ℕ) → IsPath before.path → has_no_slash part ≡ true → folder_step before (at, part) ≡ Ok after → IsPath after.path
folder_kept before after at part path whole = by_clean (is_clean part) refl (entered before.path part) refl
  where
    by_clean : (clean : Bool) → is_clean part ≡ clean → (next : Option (List (List ℕ))) → entered before.path part ≡ next → cond clean (Ok (folder_entered before next)) (Err (BadSegment at)) ≡ Ok after → IsPath after.path
    by_clean true c (Some next) is e =
        let same : folder_entered before (Some next) ≡ after = cc in
        subst (λ folder. IsPath folder.path) same (enters before.path next part path c whole is)
    by_clean true c None is e =
        let same : folder_entered before None ≡ after = cc in
        subst (λ folder. IsPath folder.path) same path
    by_clean false c next is e = absurd cc

pub followed_is_path : (start path : List (List ℕ)) (text : List ℕ) → followed start text ≡ Ok path → IsPath start → IsPath path
unfolding followed
followed_is_path start path text e h = reads_keep path_step IsPath path_kept start 0 (split text) h (all_cut text) path e

pub followed-root : (text : List ℕ) → followed [] text ≡ path_of text
unfolding followed path_of
followed-root text = refl

pub path_of_is_path : (text : List ℕ) (path : List (List ℕ)) → path_of text ≡ Ok path → IsPath path
path_of_is_path text path e = followed_is_path [] path text (followed-root text ∙ e) refl

pub folder_of_is_path : (text : List ℕ) (folder : FolderRef) → folder_of text ≡ Ok folder → IsPath folder.path
unfolding folder_of
folder_of_is_path text folder e = reads_keep folder_step (λ f. IsPath f.path) folder_kept (record { up = 0; path = [] }) 0 (split text) refl (all_cut text) folder e
