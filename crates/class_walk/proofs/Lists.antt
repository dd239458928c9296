-- What listing a folder answers.
use Rattle.std.proofs.Common.{◌≡◌, ℕ, ◌-◌, ◌<◌, ◌≤◌, Bool, true, false, cond, List, length, Option, Some, None, refl, ap, ◌∙◌, arith, nat_lt}
use Rattle.std.proofs.lemmas.Bool.Decides.{nat_tests}
use Rattle.tree_dev.specs.Trees.{FileTree, entry_at, list_at, list_of, names_in}
use Rattle.tree_dev.specs.Changes.{is_leaf}
use Rattle.tree_dev.specs.declared.entry.Entry.{Entry}
use Rattle.tree_dev.specs.declared.entry.Entry.TheVariants as entries
use Rattle.tree_dev.specs.declared.entry.ListAnswer.TheVariants as listings
use Rattle.class_walk.specs.Searches.{IsListed, IsTooLarge}

le_from_test : (m n : ℕ) → nat_lt n m ≡ false → m ≤ n
le_from_test m n e = grind (arith, nat_tests)

-- the names of a folder, which are few enough
pub record HasNames (t : FileTree) (at names : List (List ℕ)) (most : ℕ) (e : Option Entry) : Type 0 where
  pub folder : e ≡ Some entries.Folder
  pub names_are : names ≡ names_in t at
  pub few : nat_lt most (length (names_in t at)) ≡ false

names_by : (t : FileTree) (at names : List (List ℕ)) (most : ℕ) (many : Bool) → nat_lt most (length (names_in t at)) ≡ many
    → listings.Names names ≡ cond many listings.TooMany (listings.Names (names_in t at)) → HasNames t at names most (Some entries.Folder)
names_by t at names most true e is = absurd cc
names_by t at names most false e is =
    let same : names ≡ names_in t at = cc in
    record { folder = refl; names_are = same; few = e }

names_of : (t : FileTree) (at names : List (List ℕ)) (most : ℕ) (e : Option Entry) → listings.Names names ≡ list_of t at most e → HasNames t at names most e
names_of t at names most None is = absurd cc
names_of t at names most (Some (entries.File bytes)) is = absurd cc
names_of t at names most (Some entries.Folder) is = names_by t at names most (nat_lt most (length (names_in t at))) refl is
names_of t at names most (Some entries.Other) is = absurd cc

pub has_names : (t : FileTree) (at names : List (List ℕ)) (most : ℕ) → listings.Names names ≡ list_at t at most → HasNames t at names most (entry_at t at)
unfolding list_at
has_names t at names most is = names_of t at names most (entry_at t at) is

many_by : (t : FileTree) (at : List (List ℕ)) (most : ℕ) (many : Bool) → nat_lt most (length (names_in t at)) ≡ many
    → listings.TooMany ≡ cond many listings.TooMany (listings.Names (names_in t at)) → nat_lt most (length (names_in t at)) ≡ true
many_by t at most true e is = e
many_by t at most false e is = absurd cc

-- a folder of too many names
pub record HasMany (t : FileTree) (at : List (List ℕ)) (most : ℕ) (e : Option Entry) : Type 0 where
  pub folder : e ≡ Some entries.Folder
  pub many : nat_lt most (length (names_in t at)) ≡ true

many_of : (t : FileTree) (at : List (List ℕ)) (most : ℕ) (e : Option Entry) → listings.TooMany ≡ list_of t at most e → HasMany t at most e
many_of t at most None is = absurd cc
many_of t at most (Some (entries.File bytes)) is = absurd cc
many_of t at most (Some entries.Folder) is = record { folder = refl; many = many_by t at most (nat_lt most (length (names_in t at))) refl is }
many_of t at most (Some entries.Other) is = absurd cc

pub too_many : (t : FileTree) (at : List (List ℕ)) (most : ℕ) → listings.TooMany ≡ list_at t at most → IsTooLarge t at most
unfolding list_at
too_many t at most is = let h = many_of t at most (entry_at t at) is in record { folder = h.folder; many = h.many }

absent_by : (t : FileTree) (at : List (List ℕ)) (most : ℕ) (many : Bool) → listings.Absent ≡ cond many listings.TooMany (listings.Names (names_in t at)) → ⊥
absent_by t at most true is = cc
absent_by t at most false is = cc

absent_of : (t : FileTree) (at : List (List ℕ)) (most : ℕ) (e : Option Entry) → listings.Absent ≡ list_of t at most e → e ≡ None
absent_of t at most None is = refl
absent_of t at most (Some (entries.File bytes)) is = absurd cc
absent_of t at most (Some entries.Folder) is = absurd (absent_by t at most (nat_lt most (length (names_in t at))) is)
absent_of t at most (Some entries.Other) is = absurd cc

pub absent : (t : FileTree) (at : List (List ℕ)) (most : ℕ) → listings.Absent ≡ list_at t at most → entry_at t at ≡ None
unfolding list_at
absent t at most is = absent_of t at most (entry_at t at) is

leaf_by : (t : FileTree) (at : List (List ℕ)) (most : ℕ) (many : Bool) → listings.NotFolder ≡ cond many listings.TooMany (listings.Names (names_in t at)) → ⊥
leaf_by t at most true is = cc
leaf_by t at most false is = cc

leaf_of : (t : FileTree) (at : List (List ℕ)) (most : ℕ) (e : Option Entry) → listings.NotFolder ≡ list_of t at most e → is_leaf e ≡ true
leaf_of t at most None is = absurd cc
leaf_of t at most (Some (entries.File bytes)) is = refl
leaf_of t at most (Some entries.Folder) is = absurd (leaf_by t at most (nat_lt most (length (names_in t at))) is)
leaf_of t at most (Some entries.Other) is = refl

pub leaf : (t : FileTree) (at : List (List ℕ)) (most : ℕ) → listings.NotFolder ≡ list_at t at most → is_leaf (entry_at t at) ≡ true
unfolding list_at
leaf t at most is = leaf_of t at most (entry_at t at) is

-- the names counted
taken_by : (before after n : ℕ) (fits : Bool) → after ≡ cond fits (before - n) before → fits ≡ true → after ≡ before - n
taken_by before after n true is e = is
taken_by before after n false is e = absurd cc

pub counted : (t : FileTree) (at names slice : List (List ℕ)) (before after : ℕ) (fits : Bool) → listings.Names names ≡ list_at t at before → slice ≡ names
    → after ≡ cond fits (before - length slice) before → fits ≡ true → IsListed t at names before after
counted t at names slice before after fits answer same taken e =
    let h = has_names t at names before answer in
    record {
      folder = h.folder;
      names_are = h.names_are;
      few = h.few;
      counted = taken_by before after (length slice) fits taken e ∙ ap (λ (xs : List (List ℕ)). before - length xs) (same ∙ h.names_are);
    }

pub not_few : (t : FileTree) (at names slice : List (List ℕ)) (before : ℕ) → listings.Names names ≡ list_at t at before → slice ≡ names → before < length slice → ⊥
not_few t at names slice before answer same more =
    let h = has_names t at names before answer in
    let few : length (names_in t at) ≤ before = le_from_test (length (names_in t at)) before h.few in
    let len : length slice ≡ length (names_in t at) = ap length (same ∙ h.names_are) in
    omega arith
