-- What was found at a path of `vendor`, by what listing it answered.
use Rattle.std.proofs.Common.{◌≡◌, ◌⊎◌, ℕ, ◌+◌, ◌<◌, Bool, true, false, ◌||◌, ◌&&◌, cond, List, [], ◌++◌, Option, Some, None, refl, sym, ap, subst, ◌∙◌, inl, inr, append-nil, arith}
use Rattle.std.specs.BTreeSet.{contains}
use Rattle.std.specs.Ordering.{is_eq}
use Rattle.path_name.specs.Orders.{path_cmp}
use Rattle.tree_dev.specs.Trees.{FileTree, entry_at, is_folder, names_in}
use Rattle.tree_dev.specs.Changes.{is_leaf}
use Rattle.tree_dev.specs.Projects.{vendor_path}
use Rattle.tree_dev.specs.declared.entry.Entry.{Entry}
use Rattle.tree_dev.specs.declared.entry.Entry.TheVariants as entries
use Rattle.package_moves.specs.Beside.{AreCounted}
use Rattle.package_moves.specs.Counted.{names_count}
use Rattle.package_moves.specs.Found.{AddsName, AddsNames, IsFoundIn}
use Rattle.package_moves.specs.Needed.{Needs, above_count, above_counts, if_other, is_blocked, is_blocked_of, names_of, others_in, unneeded, unneeded_at, unneeded_of, vendor_count}
use Rattle.package_moves.specs.Wanted.{vendor_name}
use Rattle.package_moves.specs.declared.counts.Counts.{Counts}
use Rattle.package_moves.specs.declared.unneeded.Found.{Found}
use Rattle.package_moves.proofs.Counting.{counted_on, counted_same}

pub cond_or : (a b : Bool) → cond a true b ≡ (a || b)
cond_or true b = refl
cond_or false b = refl

and_false : (a b : Bool) → ((a && false) || b) ≡ b
and_false true b = refl
and_false false b = refl

and_true : (a : Bool) → (a && true) ≡ a
and_true true = refl
and_true false = refl

-- ---- one path

names_by : (names : List (List ℕ)) (e : Option Entry) → e ≡ Some entries.Folder → cond (is_folder e) names [] ≡ names
names_by names e is = ap (λ (o : Option Entry). cond (is_folder o) names []) is

no_names : (names : List (List ℕ)) (e : Option Entry) → is_leaf e ≡ true → cond (is_folder e) names [] ≡ []
no_names names None is = refl
no_names names (Some (entries.File bytes)) is = refl
no_names names (Some entries.Folder) is = absurd cc
no_names names (Some entries.Other) is = refl

none_names : (names : List (List ℕ)) (e : Option Entry) → e ≡ None → cond (is_folder e) names [] ≡ []
none_names names e is = ap (λ (o : Option Entry). cond (is_folder o) names []) is

module _ (needs : Needs) (project : List (List ℕ)) (t : FileTree) (path at : List (List ℕ)) (above : needs.is_above path ≡ true) (at_is : at ≡ project ++ path) where
  pub above_counted : (a b : Counts) → AreCounted (names_count t at) a b → AreCounted (above_count needs project t path) a b
  above_counted a b counted =
      counted_same (names_count t at) (above_count needs project t path) a b
      (ap (names_count t) at_is ∙ sym (ap (λ (b : Bool). cond b (names_count t (project ++ path)) 0) above)) counted

  gone_by : (names : List (List ℕ)) → names_of t at ≡ names → unneeded_at needs project t path ≡ others_in needs path names
  gone_by names is =
      ap (λ (b : Bool). cond b (others_in needs path (names_of t (project ++ path))) (if_other (needs.is_target path) path)) above
      ∙ ap (λ (p : List (List ℕ)). others_in needs path (names_of t p)) (sym at_is) ∙ ap (others_in needs path) is

  blocked_by : (e : Bool) → is_leaf (entry_at t at) ≡ e → is_blocked needs project t path ≡ e
  blocked_by e is = ap (λ (b : Bool). b && is_leaf (entry_at t (project ++ path))) above ∙ ap (λ (p : List (List ℕ)). is_leaf (entry_at t p)) (sym at_is) ∙ is

  not_in_way : (other : List (List ℕ)) (before : Bool) → is_leaf (entry_at t at) ≡ false → before ≡ ((is_eq (path_cmp path other) && is_blocked needs project t path) || before)
  not_in_way other before is = sym (ap (λ (b : Bool). (is_eq (path_cmp path other) && b) || before) (blocked_by false is) ∙ and_false (is_eq (path_cmp path other)) before)

  pub adds_names : (names slice : List (List ℕ)) (before after : Found) → (entry_at t at ≡ Some entries.Folder) × (names ≡ names_in t at) → slice ≡ names
      → after.unneeded.items ≡ before.unneeded.items ++ others_in needs path slice → after.blocked ≡ before.blocked → AddsName needs project t path before after
  adds_names names slice before after found same adds kept = record {
    gone =
        adds ∙ ap (λ (ns : List (List ℕ)). before.unneeded.items ++ others_in needs path ns) (same ∙ found.1)
        ∙ ap (λ (xs : List (List (List ℕ))). before.unneeded.items ++ xs) (sym (gone_by (names_in t at) (names_by (names_in t at) (entry_at t at) found.0)));
    in_way = λ other. ap (λ s. contains path_cmp s other) kept ∙ not_in_way other (contains path_cmp before.blocked other) (ap is_leaf found.0);
  }

  pub adds_nothing : (found : Found) → entry_at t at ≡ None → AddsName needs project t path found found
  adds_nothing found none = record {
    gone =
        sym (append-nil found.unneeded.items)
        ∙ ap (λ (xs : List (List (List ℕ))). found.unneeded.items ++ xs) (sym (gone_by [] (none_names (names_in t at) (entry_at t at) none)));
    in_way = λ other. not_in_way other (contains path_cmp found.blocked other) (ap is_leaf none);
  }

  pub adds_blocked : (before after : Found) → is_leaf (entry_at t at) ≡ true → after.unneeded.items ≡ before.unneeded.items
      → ((other : List (List ℕ)) → contains path_cmp after.blocked other ≡ cond (is_eq (path_cmp path other)) true (contains path_cmp before.blocked other)) → AddsName needs project t path before after
  adds_blocked before after leaf kept adds = record {
    gone =
        kept ∙ sym (append-nil before.unneeded.items)
        ∙ ap (λ (xs : List (List (List ℕ))). before.unneeded.items ++ xs) (sym (gone_by [] (no_names (names_in t at) (entry_at t at) leaf)));
    in_way = λ other.
        adds other ∙ cond_or (is_eq (path_cmp path other)) (contains path_cmp before.blocked other)
        ∙ ap (λ (b : Bool). b || contains path_cmp before.blocked other) (sym (and_true (is_eq (path_cmp path other))))
        ∙ ap (λ (b : Bool). (is_eq (path_cmp path other) && b) || contains path_cmp before.blocked other) (sym (blocked_by true leaf));
  }

module _ (needs : Needs) (project : List (List ℕ)) (t : FileTree) (path : List (List ℕ)) (below : needs.is_above path ≡ false) where
  pub none_counted : above_count needs project t path ≡ 0
  none_counted = ap (λ (b : Bool). cond b (names_count t (project ++ path)) 0) below

  pub adds_other : (before after : Found) → after.unneeded.items ≡ before.unneeded.items ++ if_other (needs.is_target path) path → after.blocked ≡ before.blocked → AddsName needs project t path before after
  adds_other before after adds kept = record {
    gone =
        adds
        ∙ ap (λ (xs : List (List (List ℕ))). before.unneeded.items ++ xs)
        (sym (ap (λ (b : Bool). cond b (others_in needs path (names_of t (project ++ path))) (if_other (needs.is_target path) path)) below));
    in_way = λ other.
        ap (λ s. contains path_cmp s other) kept
        ∙ sym (ap (λ (b : Bool). (is_eq (path_cmp path other) && (b && is_leaf (entry_at t (project ++ path)))) || contains path_cmp before.blocked other) below
        ∙ and_false (is_eq (path_cmp path other)) (contains path_cmp before.blocked other));
  }

-- ---- all of `vendor`

-- what is left to list counts nothing, unless the limit was passed
counted_rest : (m n : ℕ) (a b : Counts) → AreCounted m a b → (b.passed ≡ false → n ≡ 0) → AreCounted (m + n) a b
counted_rest m n a b counted rest = record {
  exact = λ none. let is = counted.exact none in let nothing = rest none in omega (arith, is, nothing);
  many = λ e. by (counted.many e);
  stays = counted.stays;
  falls = counted.falls;
}
  where
    by : (a.passed ≡ true) ⊎ (b.left.left < a.targets + m) → (a.passed ≡ true) ⊎ (b.left.left < a.targets + (m + n))
    by (inl e) = inl e
    by (inr lt) = inr (omega (arith, lt))

module _ (needs : Needs) (project : List (List ℕ)) (t : FileTree) (at : List (List ℕ)) (at_is : at ≡ vendor_path project) where
  names_are : (names : List (List ℕ)) → names_of t at ≡ names → names_of t (vendor_path project) ≡ names
  names_are names is = ap (names_of t) (sym at_is) ∙ is

  pub vendor_names : (names slice : List (List ℕ)) (a b d : Counts) → (entry_at t at ≡ Some entries.Folder) × (names ≡ names_in t at) → slice ≡ names → AreCounted (names_count t at) a b
      → AreCounted (above_counts needs project t vendor_name slice) b d → AreCounted (vendor_count needs project t) a d
  unfolding vendor_count
  vendor_names names slice a b d found same first second =
      let is = names_are (names_in t at) (names_by (names_in t at) (entry_at t at) found.0) in
      counted_same (names_count t at + above_counts needs project t vendor_name slice) (vendor_count needs project t) a d
      (ap (λ (p : List (List ℕ)). names_count t p + above_counts needs project t vendor_name slice) at_is
      ∙ ap (λ (ns : List (List ℕ)). names_count t (vendor_path project) + above_counts needs project t vendor_name ns) (same ∙ found.1 ∙ sym is))
      (counted_on (names_count t at) (above_counts needs project t vendor_name slice) a b d first second)

  pub vendor_found : (names slice : List (List ℕ)) (start found : Found) → (entry_at t at ≡ Some entries.Folder) × (names ≡ names_in t at) → slice ≡ names
      → start.unneeded.items ≡ [] → start.blocked.keys ≡ [] → found.no_folder ≡ false → AddsNames needs project t vendor_name slice start found → IsFoundIn needs project t found
  unfolding unneeded
  vendor_found names slice start found listed same none empty folder adds =
      let is : slice ≡ names_of t (vendor_path project) = same ∙ listed.1 ∙ sym (names_are (names_in t at) (names_by (names_in t at) (entry_at t at) listed.0)) in
      record {
        vendor = folder ∙ sym (ap (λ (p : List (List ℕ)). is_leaf (entry_at t p)) (sym at_is) ∙ ap is_leaf listed.0);
        gone =
            adds.gone ∙ ap (λ (xs : List (List (List ℕ))). xs ++ unneeded_of needs project t vendor_name slice) none
            ∙ ap (unneeded_of needs project t vendor_name) is;
        in_way = λ path.
            adds.in_way path ∙ ap (λ (b : Bool). is_blocked_of needs project t vendor_name slice path || b) (no_paths path)
            ∙ or_nothing (is_blocked_of needs project t vendor_name slice path) ∙ ap (λ (ns : List (List ℕ)). is_blocked_of needs project t vendor_name ns path) is;
      }
    where
      no_paths : (path : List (List ℕ)) → contains path_cmp start.blocked path ≡ false
      no_paths path = rw empty refl

      or_nothing : (a : Bool) → (a || false) ≡ a
      or_nothing true = refl
      or_nothing false = refl

  pub none_found : (start : Found) → names_of t at ≡ [] → start.unneeded.items ≡ [] → start.blocked.keys ≡ [] → start.no_folder ≡ is_leaf (entry_at t at) → IsFoundIn needs project t start
  unfolding unneeded
  none_found start is none empty folder = record {
    vendor = folder ∙ ap (λ (p : List (List ℕ)). is_leaf (entry_at t p)) at_is;
    gone = none ∙ ap (unneeded_of needs project t vendor_name) (sym (names_are [] is));
    in_way = λ path. let no_paths : contains path_cmp start.blocked path ≡ false = rw empty refl in
        no_paths ∙ ap (λ (ns : List (List ℕ)). is_blocked_of needs project t vendor_name ns path) (sym (names_are [] is));
  }

  pub nothing_counted : (a b : Counts) → (b.passed ≡ false → entry_at t at ≡ None) → AreCounted (names_count t at) a b → AreCounted (vendor_count needs project t) a b
  unfolding vendor_count
  nothing_counted a b nothing counted =
      subst (λ (k : ℕ). AreCounted k a b) (ap (λ (p : List (List ℕ)). names_count t p + above_counts needs project t vendor_name (names_of t (vendor_path project))) at_is)
      (counted_rest (names_count t at) (above_counts needs project t vendor_name (names_of t (vendor_path project))) a b counted
      (λ none. ap (above_counts needs project t vendor_name) (names_are [] (none_names (names_in t at) (entry_at t at) (nothing none)))))

  pub nothing_found : (start : Found) → entry_at t at ≡ None → start.unneeded.items ≡ [] → start.blocked.keys ≡ [] → start.no_folder ≡ false → IsFoundIn needs project t start
  nothing_found start nothing none empty folder =
      none_found start (none_names (names_in t at) (entry_at t at) nothing) none empty (folder ∙ sym (ap is_leaf nothing))

  pub other_counted : (a b : Counts) → is_leaf (entry_at t at) ≡ true → AreCounted (names_count t at) a b → AreCounted (vendor_count needs project t) a b
  unfolding vendor_count
  other_counted a b leaf counted =
      subst (λ (k : ℕ). AreCounted k a b) (ap (λ (p : List (List ℕ)). names_count t p + above_counts needs project t vendor_name (names_of t (vendor_path project))) at_is)
      (counted_rest (names_count t at) (above_counts needs project t vendor_name (names_of t (vendor_path project))) a b counted
      (λ none. ap (above_counts needs project t vendor_name) (names_are [] (no_names (names_in t at) (entry_at t at) leaf))))

  pub other_found : (start : Found) → is_leaf (entry_at t at) ≡ true → start.unneeded.items ≡ [] → start.blocked.keys ≡ [] → start.no_folder ≡ true → IsFoundIn needs project t start
  other_found start leaf none empty folder = none_found start (no_names (names_in t at) (entry_at t at) leaf) none empty (folder ∙ sym leaf)
