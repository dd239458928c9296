-- Changes at paths apart.
use Rattle.std.proofs.Common.{◌≡◌, ℕ, Bool, true, false, ◌||◌, ◌&&◌, cond, List, [], ◌∷◌, ◌++◌, Option, Some, None, is_none, is_some, refl, sym, ap, ◌∙◌, inl, inr, append-nil}
use Rattle.std.specs.List.{list_all, list_any}
use Rattle.std.specs.FinMap.{get, same_map}
use Rattle.path_name.specs.Orders.{path_cmp_total, path_cmp_exact}
use Rattle.tree_dev.specs.Told.{both, one_of}
use Rattle.tree_dev.specs.Trees.{FileTree, behind}
use Rattle.tree_dev.specs.Changes.{AreApart, changed, entry_after, entry_after_rename, is_touched, named_paths}
use Rattle.tree_dev.specs.declared.change.Change.{Change}
use Rattle.tree_dev.specs.declared.change.Change.TheVariants as changes
use Rattle.tree_dev.specs.declared.entry.Entry.{Entry}
use Rattle.tree_dev.specs.declared.entry.Entry.TheVariants as entries
use Rattle.tree_dev.proofs.Behind.{behind_head, head_behind}
use Rattle.tree_dev.proofs.Carried.{comparable}
use Rattle.tree_dev.proofs.Changed.{get-changed}
use Rattle.tree_dev.proofs.SamePaths.{is_same, apart}

not_some : (o : Option (List (List ℕ))) → is_some o ≡ false → o ≡ None
not_some None e = refl
not_some (Some x) e = absurd cc

neither : (a b : Bool) → (a || b) ≡ false → (a ≡ false) × (b ≡ false)
neither true b e = absurd cc
neither false b e = (refl, e)

behind_itself : (p : List (List ℕ)) → behind p p ≡ Some []
behind_itself p = ap (behind p) (sym (append-nil p)) ∙ behind_head p []

-- what is not behind a path is not that path
other_path : (at q : List (List ℕ)) → behind at q ≡ None → is_same q at ≡ false
other_path at q none = apart q at (λ same. let h : behind at q ≡ Some [] = ap (behind at) same ∙ behind_itself at in absurd cc)

one_touched : (at q : List (List ℕ)) → (is_some (behind at q) || false) ≡ false → behind at q ≡ None
one_touched at q e = not_some (behind at q) (neither (is_some (behind at q)) false e).0

pub untouched : (t : FileTree) (change : Change) (q : List (List ℕ)) → is_touched change q ≡ false → entry_after t change q ≡ get t q
unfolding is_touched
untouched t (changes.Written at bytes) q e = rw (other_path at q (one_touched at q e)) refl
untouched t (changes.FolderMade at) q e = rw (other_path at q (one_touched at q e)) refl
untouched t (changes.Renamed from to) q e =
    let parts = neither (is_some (behind from q)) (is_some (behind to q) || false) e in
    rw (one_touched to q parts.1, not_some (behind from q) parts.0) refl
untouched t (changes.FileRemoved at) q e = rw (other_path at q (one_touched at q e)) refl
untouched t (changes.FolderRemoved at) q e = rw (other_path at q (one_touched at q e)) refl

pub others_stay : (t : FileTree) (change : Change) (q : List (List ℕ)) → is_touched change q ≡ false → get (changed t change) q ≡ get t q
others_stay t change q e = get-changed t change q ∙ untouched t change q e

-- trees that agree where a change reaches
abbrev Agree : FileTree → FileTree → Change → Type 0
Agree t u change = (q : List (List ℕ)) → is_touched change q ≡ true → get u q ≡ get t q

some_of : (b : Bool) (x : Option Entry) (y z : Option Entry) → y ≡ z → cond b x y ≡ cond b x z
some_of true x y z e = refl
some_of false x y z e = e

touched_first : (from to q rest : List (List ℕ)) → behind from q ≡ Some rest → is_touched (changes.Renamed from to) q ≡ true
unfolding is_touched
touched_first from to q rest e = rw e refl

renamed_agrees : (t u : FileTree) (from to q : List (List ℕ)) (b c : Option (List (List ℕ))) → behind to q ≡ b → behind from q ≡ c → Agree t u (changes.Renamed from to)
    → is_touched (changes.Renamed from to) q ≡ true → entry_after_rename u from b c q ≡ entry_after_rename t from b c q
renamed_agrees t u from to q (Some rest) c e h agree touched = agree (from ++ rest) (touched_first from to (from ++ rest) rest (behind_head from rest))
renamed_agrees t u from to q None (Some rest) e h agree touched = refl
renamed_agrees t u from to q None None e h agree touched = agree q touched

pub agrees : (t u : FileTree) (change : Change) (q : List (List ℕ)) → Agree t u change → is_touched change q ≡ true → entry_after u change q ≡ entry_after t change q
agrees t u (changes.Written at bytes) q agree touched = some_of (is_same q at) (Some (entries.File bytes)) (get u q) (get t q) (agree q touched)
agrees t u (changes.FolderMade at) q agree touched = some_of (is_same q at) (Some entries.Folder) (get u q) (get t q) (agree q touched)
agrees t u (changes.Renamed from to) q agree touched = renamed_agrees t u from to q (behind to q) (behind from q) refl refl agree touched
agrees t u (changes.FileRemoved at) q agree touched = some_of (is_same q at) None (get u q) (get t q) (agree q touched)
agrees t u (changes.FolderRemoved at) q agree touched = some_of (is_same q at) None (get u q) (get t q) (agree q touched)

-- paths of which none is at or below another have nothing below both
abbrev apart_all : List (List (List ℕ)) → List (List (List ℕ)) → Bool
apart_all firsts seconds = list_all (λ p. list_all (λ q. is_none (behind p q) && is_none (behind q p)) seconds) firsts

abbrev reached : List (List (List ℕ)) → List (List ℕ) → Bool
reached named q = list_any (λ p. is_some (behind p q)) named

none_is : (o : Option (List (List ℕ))) → is_none o ≡ true → o ≡ None
none_is None e = refl
none_is (Some x) e = absurd cc

two_heads : (p r q : List (List ℕ)) (b c : Option (List (List ℕ))) → behind p q ≡ b → behind r q ≡ c → is_some b ≡ true → is_some c ≡ true → behind p r ≡ None → behind r p ≡ None → ⊥
two_heads p r q None c e h x y a d = absurd cc
two_heads p r q (Some one) None e h x y a d = absurd cc
two_heads p r q (Some one) (Some two) e h x y a d = comparable p r one two (sym (head_behind p q one e) ∙ head_behind r q two h) a d

one_apart : (p q : List (List ℕ)) (seconds : List (List (List ℕ))) → list_all (λ r. is_none (behind p r) && is_none (behind r p)) seconds ≡ true → is_some (behind p q) ≡ true → reached seconds q ≡ false
one_apart p q [] all e = refl
one_apart p q (r ∷ seconds) all e =
    let parts = both (is_none (behind p r) && is_none (behind r p)) (list_all (λ r. is_none (behind p r) && is_none (behind r p)) seconds) all in
    let pair = both (is_none (behind p r)) (is_none (behind r p)) parts.0 in
    step (is_some (behind r q)) refl pair (one_apart p q seconds parts.1 e)
  where
    step : (b : Bool) → is_some (behind r q) ≡ b → (is_none (behind p r) ≡ true) × (is_none (behind r p) ≡ true) → reached seconds q ≡ false → (b || reached seconds q) ≡ false
    step true h pair more = absurd (two_heads p r q (behind p q) (behind r q) refl refl e h (none_is (behind p r) pair.0) (none_is (behind r p) pair.1))
    step false h pair more = more

all_apart : (firsts seconds : List (List (List ℕ))) (q : List (List ℕ)) → apart_all firsts seconds ≡ true → reached firsts q ≡ true → reached seconds q ≡ false
all_apart [] seconds q all e = absurd cc
all_apart (p ∷ firsts) seconds q all e =
    let parts = both (list_all (λ r. is_none (behind p r) && is_none (behind r p)) seconds) (apart_all firsts seconds) all in
    elim (one_of (is_some (behind p q)) (reached firsts q) e) [ inl here ↦ one_apart p q seconds parts.0 here | inr rest ↦ all_apart firsts seconds q parts.1 rest ]

other_untouched : (first second : Change) (q : List (List ℕ)) → AreApart first second → is_touched first q ≡ true → is_touched second q ≡ false
unfolding AreApart is_touched
other_untouched first second q apart e = all_apart (named_paths first) (named_paths second) q apart e

second_untouched : (first second : Change) (q : List (List ℕ)) (b : Bool) → is_touched first q ≡ b → AreApart first second → is_touched second q ≡ true → b ≡ false
second_untouched first second q true e apart h = let f = other_untouched first second q apart e in absurd cc
second_untouched first second q false e apart h = refl

commute_at : (t : FileTree) (first second : Change) (q : List (List ℕ)) (a b : Bool) → is_touched first q ≡ a → is_touched second q ≡ b → AreApart first second
    → entry_after (changed t first) second q ≡ entry_after (changed t second) first q
commute_at t first second q a true e h apart =
    let free = second_untouched first second q (is_touched first q) refl apart h in
    agrees t (changed t first) second q (λ p touched. others_stay t first p (second_untouched first second p (is_touched first p) refl apart touched)) h
    ∙ sym (get-changed t second q) ∙ sym (untouched (changed t second) first q free)
commute_at t first second q true false e h apart =
    untouched (changed t first) second q h ∙ get-changed t first q
    ∙ sym (agrees t (changed t second) first q (λ p touched. others_stay t second p (other_untouched first second p apart touched)) e)
commute_at t first second q false false e h apart =
    untouched (changed t first) second q h ∙ others_stay t first q e ∙ sym (others_stay t second q h) ∙ sym (untouched (changed t second) first q e)

pub commute : (t : FileTree) (first second : Change) → AreApart first second → changed (changed t first) second ≡ changed (changed t second) first
commute t first second apart = same_map path_cmp_total path_cmp_exact _ _ (λ q.
    get-changed (changed t first) second q ∙ commute_at t first second q (is_touched first q) (is_touched second q) refl refl apart ∙ sym (get-changed (changed t second) first q))
