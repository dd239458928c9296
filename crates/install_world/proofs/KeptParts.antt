-- What a part takes where it is kept.
use Rattle.std.proofs.Common.{◌≡◌, ◌≢◌, Bool, true, false, List, ℕ, Option, Some, None, is_some, refl, sym, ap, ◌∙◌, subst}
use Rattle.std.proofs.lemmas.Bool.{false≢true}
use Rattle.tree_dev.specs.Trees.{FileTree, entry_at, kind_at, kind_of}
use Rattle.tree_dev.specs.Changes.{is_file, is_root}
use Rattle.tree_dev.specs.declared.entry.Entry.{Entry}
use Rattle.tree_dev.specs.declared.entry.Entry.TheVariants as entries
use Rattle.tree_dev.specs.declared.entry.Kind.{Kind}
use Rattle.tree_dev.specs.declared.entry.Kind.TheVariants as kinds
use Rattle.install_world.specs.InFlight.{IsThere}
use Rattle.install_world.specs.Moving.{is_kept, is_no_file, is_replaced, is_something}
use Rattle.install_world.proofs.WayMoves.{entry_is}

something : (kind : Kind) → kind ≢ kinds.Absent → is_something kind ≡ true
something kinds.Absent other = absurd (other refl)
something kinds.File other = refl
something kinds.Folder other = refl
something kinds.Other other = refl

no_file : (kind : Kind) → kind ≢ kinds.Absent → kind ≢ kinds.File → is_no_file kind ≡ true
no_file kinds.Absent there other = absurd (there refl)
no_file kinds.File there other = absurd (other refl)
no_file kinds.Folder there other = refl
no_file kinds.Other there other = refl

pub gone_is_kept : (gone : Bool) (target staged : Kind) → gone ≡ true → target ≢ kinds.Absent → is_kept gone target staged ≡ true
gone_is_kept true target staged goes there = something target there
gone_is_kept false target staged goes there = absurd (false≢true goes)

replaced : (target staged : Kind) → target ≢ kinds.Absent → staged ≢ kinds.Absent → (target ≡ kinds.File → staged ≢ kinds.File) → is_replaced target staged ≡ true
replaced kinds.Absent staged there some other = absurd (there refl)
replaced kinds.File staged there some other = no_file staged some (other refl)
replaced kinds.Folder staged there some other = something staged some
replaced kinds.Other staged there some other = something staged some

pub kind_there : (t : FileTree) (at : List (List ℕ)) → is_root at ≡ false → IsThere t at → kind_at t at ≢ kinds.Absent
unfolding kind_at
kind_there t at under there absent = by (entry_at t at) (ap is_some (entry_is t at under) ∙ there) absent
  where
    by : (entry : Option Entry) → is_some entry ≡ true → kind_of entry ≡ kinds.Absent → ⊥
    by None some e = false≢true some
    by (Some (entries.File bytes)) some e = cc
    by (Some entries.Folder) some e = cc
    by (Some entries.Other) some e = cc

pub kind_no_file : (t : FileTree) (at : List (List ℕ)) → is_file (entry_at t at) ≡ false → kind_at t at ≢ kinds.File
unfolding kind_at
kind_no_file t at leaf file = by (entry_at t at) leaf file
  where
    by : (entry : Option Entry) → is_file entry ≡ false → kind_of entry ≡ kinds.File → ⊥
    by None other e = cc
    by (Some (entries.File bytes)) other e = false≢true (sym other)
    by (Some entries.Folder) other e = cc
    by (Some entries.Other) other e = cc

pub replaced_is_kept : (gone : Bool) (t : FileTree) (target staged : List (List ℕ)) → gone ≡ false → (kind : Kind) (staged_is_file : Bool) → kind ≡ kind_at t target
    → kind ≢ kinds.Absent → (kind ≡ kinds.File → staged_is_file ≡ false) → is_root staged ≡ false → IsThere t staged → staged_is_file ≡ is_file (entry_at t staged)
    → is_kept gone (kind_at t target) (kind_at t staged) ≡ true
replaced_is_kept true t target staged goes kind staged_is_file is some other under there leaf = absurd (false≢true (sym goes))
replaced_is_kept false t target staged goes kind staged_is_file is some other under there leaf =
    replaced (kind_at t target) (kind_at t staged) (λ absent. some (is ∙ absent)) (kind_there t staged under there)
    (λ file. kind_no_file t staged (sym leaf ∙ other (is ∙ file)))

-- the same entries are kept alike
pub kept_alike : (gone : Bool) (t u : FileTree) (target staged : List (List ℕ)) → entry_at u target ≡ entry_at t target → entry_at u staged ≡ entry_at t staged
    → is_kept gone (kind_at u target) (kind_at u staged) ≡ true → is_kept gone (kind_at t target) (kind_at t staged) ≡ true
unfolding kind_at
kept_alike gone t u target staged first second kept =
    subst (λ kind. is_kept gone kind (kind_of (entry_at t staged)) ≡ true) (ap kind_of first)
    (subst (λ kind. is_kept gone (kind_of (entry_at u target)) kind ≡ true) (ap kind_of second) kept)
