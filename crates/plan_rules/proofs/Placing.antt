-- Candidates by name and place: an entry that is put into a map of them stands where its name has it.
use Rattle.std.proofs.Common.{◌≡◌, ℕ, ◌+◌, ◌<◌, cond, List, [], ◌∷◌, map, refl, ap, ◌∙◌, arith, Bor}
use Rattle.std.specs.Prelude.{⊤}
use Rattle.std.specs.Map.{values_of}
use Rattle.std.specs.Ordering.{nat_cmp, ordering_then, is_lt, match_ordering}
use Rattle.std.specs.declared.cmp.Ordering.{Ordering}
use Rattle.std.specs.declared.cmp.Ordering.TheVariants.{Less, Equal, Greater}
use Rattle.std.specs.BTreeMap.{insert_entry}
use Rattle.path_name.specs.Orders.{byte_cmp}
use Rattle.pkg_pool.specs.declared.pool.Candidate.{Candidate}
use Rattle.plan_rules.specs.Validity.{put}

abbrev pub Entry : Type 0
Entry = (List ℕ × ℕ) × Bor Candidate

abbrev pub place_cmp : List ℕ × ℕ → List ℕ × ℕ → Ordering
place_cmp one other = ordering_then (byte_cmp one.0 other.0) (nat_cmp one.1 other.1)

-- each has its candidate's name, and a place before this one
abbrev pub ArePlaced : ℕ → List Entry → Type 0
ArePlaced place [] = ⊤
ArePlaced place (entry ∷ entries) = (entry.0.0 ≡ entry.1.now.«package».name) × (entry.0.1 < place) × ArePlaced place entries

abbrev pub shown_all : List Entry → List Candidate
shown_all entries = map (λ member. member.now) (values_of entries)

later_greater : (place other : ℕ) → other < place → nat_cmp place other ≡ Greater
later_greater place other lt = grind (arith, lt)

module _ (one : Bor Candidate) (place : ℕ) where
  abbrev name : List ℕ
  name = one.now.«package».name

  abbrev inserted : List Entry → List Entry
  inserted entries = insert_entry place_cmp entries (name, place) one

  by_order : (o : Ordering) (entry : Entry) (entries : List Entry) → entry.0.1 < place → shown_all (inserted entries) ≡ put one.now (shown_all entries)
      → shown_all (match_ordering (ordering_then o (nat_cmp place entry.0.1)) (((name, place), one) ∷ entry ∷ entries) ((entry.0, one) ∷ entries) (entry ∷ inserted entries))
      ≡ cond (is_lt o) (one.now ∷ entry.1.now ∷ shown_all entries) (entry.1.now ∷ put one.now (shown_all entries))
  by_order Less entry entries before rest = refl
  by_order Equal entry entries before rest = rw (later_greater place entry.0.1 before) (ap (λ others. entry.1.now ∷ others) rest)
  by_order Greater entry entries before rest = ap (λ others. entry.1.now ∷ others) rest

  pub put_entry : (entries : List Entry) → ArePlaced place entries → shown_all (inserted entries) ≡ put one.now (shown_all entries)
  put_entry [] placed = refl
  put_entry (entry ∷ entries) placed =
      by_order (byte_cmp name entry.0.0) entry entries placed.1 (put_entry entries placed.2)
      ∙ ap (λ other. cond (is_lt (byte_cmp name other)) (one.now ∷ entry.1.now ∷ shown_all entries) (entry.1.now ∷ put one.now (shown_all entries))) placed.0

  pub later : (entries : List Entry) → ArePlaced place entries → ArePlaced (place + 1) entries
  later [] placed = tt
  later (entry ∷ entries) placed = (placed.0, omega (arith, placed.1), later entries placed.2)

  still_placed : (o : Ordering) (entry : Entry) (entries : List Entry) → entry.0.1 < place → (entry.0.0 ≡ entry.1.now.«package».name) → ArePlaced place entries → ArePlaced (place + 1) (inserted entries)
      → ArePlaced (place + 1) (match_ordering (ordering_then o (nat_cmp place entry.0.1)) (((name, place), one) ∷ entry ∷ entries) ((entry.0, one) ∷ entries) (entry ∷ inserted entries))
  still_placed Less entry entries before named behind rest = (refl, omega arith, (named, omega (arith, before), later entries behind))
  still_placed Equal entry entries before named behind rest = rw (later_greater place entry.0.1 before) (named, omega (arith, before), rest)
  still_placed Greater entry entries before named behind rest = (named, omega (arith, before), rest)

  pub placed_entry : (entries : List Entry) → ArePlaced place entries → ArePlaced (place + 1) (inserted entries)
  placed_entry [] placed = (refl, omega arith, tt)
  placed_entry (entry ∷ entries) placed = still_placed (byte_cmp name entry.0.0) entry entries placed.1 placed.0 placed.2 (placed_entry entries placed.2)
