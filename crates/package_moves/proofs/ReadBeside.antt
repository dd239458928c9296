-- What reading and listing a path of a target say.
use Rattle.std.proofs.Common.{◌≡◌, ℕ, ◌-◌, Bool, true, false, cond, List, length, Option, Some, None, refl, sym, ap, ◌∙◌, inr, arith, nat_lt}
use Rattle.std.proofs.lemmas.Bool.Decides.{nat_tests}
use Rattle.std.specs.Bool.{Decides}
use Rattle.tree_dev.specs.Trees.{FileTree, entry_at, is_folder, list_at, names_in, read_at, read_of}
use Rattle.tree_dev.specs.Changes.{is_leaf}
use Rattle.tree_dev.specs.declared.entry.Entry.{Entry}
use Rattle.tree_dev.specs.declared.entry.Entry.TheVariants as entries
use Rattle.tree_dev.specs.declared.entry.ListAnswer.TheVariants as answers
use Rattle.tree_dev.specs.declared.entry.ReadAnswer.TheVariants as reads
use Rattle.stage_job.proofs.Lists.{absent, has_names, leaf, too_many}
use Rattle.package_moves.specs.Beside.{AreCounted, IsListedBeside}
use Rattle.package_moves.specs.Counted.{names_count}
use Rattle.package_moves.specs.declared.counts.Counts.{Counts}
use Rattle.package_moves.specs.declared.listing.Listed.TheVariants as listings
use Rattle.package_moves.proofs.Counting.{counted_none, counted_same}

-- ---- read

not_long : (n : ℕ) → nat_lt n n ≡ false
not_long n = grind (arith, nat_tests)

-- a file of these bytes is read with as many
fits : (t : FileTree) (at : List (List ℕ)) (bytes : List ℕ) → entry_at t at ≡ Some (entries.File bytes) → read_at t at (length bytes) ≡ reads.Bytes bytes
unfolding read_at
fits t at bytes file = ap (read_of (length bytes)) file ∙ ap (λ (b : Bool). cond b reads.TooLong (reads.Bytes bytes)) (not_long (length bytes))

found_by : (most : ℕ) (b bytes : List ℕ) (long : Bool) → reads.Bytes bytes ≡ cond long reads.TooLong (reads.Bytes b) → bytes ≡ b
found_by most b bytes true is = absurd cc
found_by most b bytes false is = cc

found_of : (most : ℕ) (e : Option Entry) (bytes : List ℕ) → reads.Bytes bytes ≡ read_of most e → e ≡ Some (entries.File bytes)
found_of most None bytes is = absurd cc
found_of most (Some (entries.File b)) bytes is = ap (λ (x : List ℕ). Some (entries.File x)) (sym (found_by most b bytes (nat_lt most (length b)) is))
found_of most (Some entries.Folder) bytes is = absurd cc
found_of most (Some entries.Other) bytes is = absurd cc

found : (t : FileTree) (at : List (List ℕ)) (most : ℕ) (bytes : List ℕ) → reads.Bytes bytes ≡ read_at t at most → entry_at t at ≡ Some (entries.File bytes)
unfolding read_at
found t at most bytes is = found_of most (entry_at t at) bytes is

module _ (t : FileTree) (at : List (List ℕ)) (bytes : List ℕ) where
  pub read_decides : (other : List ℕ) (does : Bool) → reads.Bytes other ≡ read_at t at (length bytes) → Decides does (other ≡ bytes) → Decides does (entry_at t at ≡ Some (entries.File bytes))
  read_decides other does is decides = (
    (λ e. found t at (length bytes) other is ∙ ap (λ (x : List ℕ). Some (entries.File x)) (decides.0 e)),
    (λ file. let same : reads.Bytes other ≡ reads.Bytes bytes = is ∙ fits t at bytes file in decides.1 cc),
  )

  pub absent_decides : reads.Absent ≡ read_at t at (length bytes) → Decides false (entry_at t at ≡ Some (entries.File bytes))
  absent_decides is = ((λ e. absurd cc), (λ file. let same : reads.Absent ≡ reads.Bytes bytes = is ∙ fits t at bytes file in absurd cc))

  pub no_file_decides : reads.NotFile ≡ read_at t at (length bytes) → Decides false (entry_at t at ≡ Some (entries.File bytes))
  no_file_decides is = ((λ e. absurd cc), (λ file. let same : reads.NotFile ≡ reads.Bytes bytes = is ∙ fits t at bytes file in absurd cc))

  pub long_decides : reads.TooLong ≡ read_at t at (length bytes) → Decides false (entry_at t at ≡ Some (entries.File bytes))
  long_decides is = ((λ e. absurd cc), (λ file. let same : reads.TooLong ≡ reads.Bytes bytes = is ∙ fits t at bytes file in absurd cc))

-- ---- listed

folder_count : (t : FileTree) (at : List (List ℕ)) → entry_at t at ≡ Some entries.Folder → names_count t at ≡ length (names_in t at)
folder_count t at e = ap (λ (o : Option Entry). cond (is_folder o) (length (names_in t at)) 0) e

none_count : (t : FileTree) (at : List (List ℕ)) → entry_at t at ≡ None → names_count t at ≡ 0
none_count t at e = ap (λ (o : Option Entry). cond (is_folder o) (length (names_in t at)) 0) e

leaf_by : (o : Option Entry) (n : ℕ) → is_leaf o ≡ true → cond (is_folder o) n 0 ≡ 0
leaf_by None n e = refl
leaf_by (Some (entries.File bytes)) n e = refl
leaf_by (Some entries.Folder) n e = absurd cc
leaf_by (Some entries.Other) n e = refl

leaf_count : (t : FileTree) (at : List (List ℕ)) → is_leaf (entry_at t at) ≡ true → names_count t at ≡ 0
leaf_count t at e = leaf_by (entry_at t at) (length (names_in t at)) e

module _ (t : FileTree) (at : List (List ℕ)) (before : Counts) where
  pub listed_names : (names slice : List (List ℕ)) (most : ℕ) (after : Counts) → answers.Names names ≡ list_at t at most → slice ≡ names → AreCounted (length slice) before after
      → IsListedBeside t at before after (listings.Names names)
  listed_names names slice most after is same counted =
      let h = has_names t at names most is in
      record {
        counted = counted_same (length slice) (names_count t at) before after (ap length (same ∙ h.names_are) ∙ sym (folder_count t at h.folder)) counted;
        is_found = (h.folder, h.names_are);
      }

  pub listed_over : (names slice : List (List ℕ)) (most : ℕ) (after : Counts) → answers.Names names ≡ list_at t at most → slice ≡ names → AreCounted (length slice) before after → after.passed ≡ true
      → IsListedBeside t at before after listings.Nothing
  listed_over names slice most after is same counted passed =
      let h = has_names t at names most is in
      record {
        counted = counted_same (length slice) (names_count t at) before after (ap length (same ∙ h.names_are) ∙ sym (folder_count t at h.folder)) counted;
        is_found = λ none. absurd cc;
      }

  pub listed_many : (most : ℕ) (after : Counts) → answers.TooMany ≡ list_at t at most → most ≡ before.left.left - before.targets → after.passed ≡ true → after.left.left ≡ before.left.left
      → IsListedBeside t at before after listings.Nothing
  listed_many most after is room passed kept =
      let large = too_many t at most is in
      let many = large.many in
      let count = folder_count t at large.folder in
      record {
        counted = record {
          exact = λ none. absurd cc;
          many = λ e. inr (omega (arith, many, count, room, kept));
          stays = λ e. passed;
          falls = omega (arith, kept);
        };
        is_found = λ none. absurd cc;
      }

  pub listed_nothing : (most : ℕ) → answers.Absent ≡ list_at t at most → IsListedBeside t at before before listings.Nothing
  listed_nothing most is =
      let none = absent t at most is in
      record {
        counted = counted_same 0 (names_count t at) before before (sym (none_count t at none)) (counted_none before);
        is_found = λ kept. none;
      }

  pub listed_other : (most : ℕ) → answers.NotFolder ≡ list_at t at most → IsListedBeside t at before before listings.Other
  listed_other most is =
      let other = leaf t at most is in
      record {
        counted = counted_same 0 (names_count t at) before before (sym (leaf_count t at other)) (counted_none before);
        is_found = other;
      }
