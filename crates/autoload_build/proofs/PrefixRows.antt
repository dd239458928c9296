-- The rows of prefixes, one run after another.
use Rattle.std.proofs.Common.{◌≡◌, ℕ, zero, suc, ◌+◌, Bool, true, false, cond, List, [], ◌∷◌, ◌++◌, ◌<◌, length, get_or, take, drop, map, Bor, refl, sym, ap, ◌∙◌, append_assoc, append-nil, add-one, arith}
use Rattle.std.specs.Prelude.{filter}
use Rattle.std.specs.List.{prefix_len}
use Rattle.class_paths.specs.Candidates.{is_same_kind, is_of, of_kind}
use Rattle.class_paths.specs.declared.types.RouteKind.{RouteKind}
use Rattle.class_paths.specs.declared.types.Route.{Route}
use Rattle.path_name.specs.Orders.{byte_equality, bytes_are_equal, paths_are_equal}
use Rattle.table_scan.specs.declared.types.PrefixRow.{PrefixRow}
use Rattle.autoload_build.specs.Jobs.{falls, falling, by_falling_key}
use Rattle.autoload_build.specs.BuiltTables.{first_of_each, folders_of, prefix_table}
use Rattle.autoload_build.specs.Steps.{PutsRun, has_prefix, lent, lent_prefix, row_of, rows_of_prefixes}
use Rattle.autoload_build.proofs.KeyGroups.{Ascends, in_groups, kept_twice, each_ascends}
use Rattle.autoload_build.proofs.GroupRuns.{AreKeys, Run, are_keys, first_run, nothing_left}
use Rattle.autoload_build.proofs.FallingKeys.{falls_total, tied}

-- the groups that remain, and the rows of those that went before
pub record IsBuilt (before rest : List (Bor Route)) (table : List PrefixRow) : Type 0 where
  pub prefixes : List (List ℕ)
  pub is : rest ≡ in_groups falls falls_total tied lent_prefix prefixes before
  pub ascends : Ascends falls falls_total tied prefixes
  pub keys : AreKeys falls falls_total tied lent_prefix prefixes before
  pub rows : table ++ rows_of_prefixes before prefixes ≡ rows_of_prefixes before (falling (map lent_prefix before))

pub starts : (before rest : List (Bor Route)) (table : List PrefixRow) → rest ≡ by_falling_key lent_prefix before → table ≡ [] → IsBuilt before rest table
unfolding falling
starts before rest table is none = record {
  prefixes = falling (map lent_prefix before);
  is = is;
  ascends = each_ascends falls falls_total tied (map lent_prefix before);
  keys = are_keys falls falls_total tied lent_prefix before;
  rows = ap (λ list. list ++ rows_of_prefixes before (falling (map lent_prefix before))) none;
}

pub ends : (before rest : List (Bor Route)) (table : List PrefixRow) → IsBuilt before rest table → rest ≡ [] → table ≡ rows_of_prefixes before (falling (map lent_prefix before))
ends before rest table built none =
    let last : built.prefixes ≡ [] = nothing_left falls falls_total tied lent_prefix built.prefixes before built.keys (sym built.is ∙ none) in
    sym (append-nil table) ∙ ap (λ list. table ++ rows_of_prefixes before list) (sym last) ∙ built.rows

-- one run more
pub one_more : (before rest group behind tail : List (Bor Route)) (first : Bor Route) (row : PrefixRow) (table new : List PrefixRow) (len : ℕ) → IsBuilt before rest table → rest ≡ first ∷ tail
    → len ≡ prefix_len (has_prefix first.now.prefix) rest → group ≡ take len rest → behind ≡ drop len rest → row ≡ row_of first.now.prefix group → new ≡ table ++ row ∷ [] → IsBuilt before behind new
one_more before rest group behind tail first row table new len built split count front back is more = by (first_run falls falls_total tied lent_prefix built.prefixes before first tail built.ascends built.keys (sym split ∙ built.is))
  where
    by : Run falls falls_total tied lent_prefix before (first ∷ tail) first built.prefixes → IsBuilt before behind new
    by run =
        let own : group ≡ filter (has_prefix first.now.prefix) before =
        front ∙ ap (λ n. take n rest) count ∙ ap (λ list. take (prefix_len (has_prefix first.now.prefix) list) list) split ∙ run.group in
        let rest_of : behind ≡ in_groups falls falls_total tied lent_prefix run.more before =
        back ∙ ap (λ n. drop n rest) count ∙ ap (λ list. drop (prefix_len (has_prefix first.now.prefix) list) list) split ∙ run.behind in
        record {
          prefixes = run.more;
          is = rest_of;
          ascends = run.ascends;
          keys = run.keys;
          rows = ap (λ list. list ++ rows_of_prefixes before run.more) more ∙ append_assoc table (row ∷ []) (rows_of_prefixes before run.more)
              ∙ ap (λ (one : PrefixRow). table ++ one ∷ rows_of_prefixes before run.more) (is ∙ ap (row_of first.now.prefix) own)
              ∙ ap (λ list. table ++ rows_of_prefixes before list) (sym run.is) ∙ built.rows;
        }

pub run_put : (before rest : List (Bor Route)) (table new : List PrefixRow) (len : ℕ) → 0 < length rest → PutsRun rest table new len → IsBuilt before rest table → IsBuilt before (drop len rest) new
run_put before [] table new len some put built = absurd (omega (arith, some))
run_put before (first ∷ tail) table new len some put built =
    one_more before (first ∷ tail) (take len (first ∷ tail)) (drop len (first ∷ tail)) tail first (row_of first.now.prefix (take len (first ∷ tail))) table new len built refl put.0 refl refl refl put.1

pub puts_run : (rest : List (Bor Route)) (first : Bor Route) (table new : List PrefixRow) (row : PrefixRow) (len : ℕ) → first ≡ get_or rest 0 first → 0 < length rest → len ≡ prefix_len (has_prefix first.now.prefix) rest
    → row ≡ row_of first.now.prefix (take len rest) → new ≡ table ++ row ∷ [] → PutsRun rest table new len
puts_run [] first table new row len is some count made more = tt
puts_run (one ∷ tail) first table new row len is some count made more =
    (count ∙ ap (λ (x : Bor Route). prefix_len (has_prefix x.now.prefix) (one ∷ tail)) is, more ∙ ap (λ r. table ++ r ∷ []) (made ∙ ap (λ (x : Bor Route). row_of x.now.prefix (take len (one ∷ tail))) is))

pub some_have : (rest : List (Bor Route)) (first : Bor Route) → first ≡ get_or rest 0 first → 0 < length rest → 0 < prefix_len (has_prefix first.now.prefix) rest
some_have [] first is some = absurd (omega (arith, some))
some_have (one ∷ tail) first is some =
    let passes : has_prefix first.now.prefix one ≡ true = ap (λ (x : Bor Route). bytes_are_equal x.now.prefix first.now.prefix) (sym is) ∙ byte_equality.refl first.now.prefix in
    rw passes (omega arith)

-- ---- the folders of a group

one_taken_more : (group : List (Bor Route)) (at : ℕ) (row : Bor Route) → at < length group → row ≡ get_or group at row → map (λ row. row.folder) (lent (take (suc at) group)) ≡ map (λ row. row.folder) (lent (take at group)) ++ row.now.folder ∷ []
one_taken_more [] at row within is = absurd (omega (arith, within))
one_taken_more (one ∷ group) zero row within is = ap (λ (x : Bor Route). x.now.folder ∷ []) (sym is)
one_taken_more (one ∷ group) (suc at) row within is = ap (λ list. one.now.folder ∷ list) (one_taken_more group at row (omega (arith, within)) is)

pub one_folder_more : (group : List (Bor Route)) (at : ℕ) (row : Bor Route) → at < length group → row ≡ get_or group at row → map (λ row. row.folder) (lent (take (at + 1) group)) ≡ map (λ row. row.folder) (lent (take at group)) ++ row.now.folder ∷ []
one_folder_more group at row within is = ap (λ n. map (λ row. row.folder) (lent (take n group))) (add-one at) ∙ one_taken_more group at row within is

-- ---- the whole table

lent_kept : (prefix : List ℕ) (routes : List (Bor Route)) → lent (filter (has_prefix prefix) routes) ≡ filter (λ row. bytes_are_equal row.prefix prefix) (lent routes)
lent_kept prefix [] = refl
lent_kept prefix (row ∷ routes) = by (has_prefix prefix row) (lent_kept prefix routes)
  where
    by : (b : Bool) → lent (filter (has_prefix prefix) routes) ≡ filter (λ row. bytes_are_equal row.prefix prefix) (lent routes)
        → lent (cond b (row ∷ filter (has_prefix prefix) routes) (filter (has_prefix prefix) routes)) ≡ cond b (row.now ∷ filter (λ row. bytes_are_equal row.prefix prefix) (lent routes)) (filter (λ row. bytes_are_equal row.prefix prefix) (lent routes))
    by true e = ap (λ list. row.now ∷ list) e
    by false e = e

lent_prefixes : (routes : List (Bor Route)) → map lent_prefix routes ≡ map (λ row. row.prefix) (lent routes)
lent_prefixes [] = refl
lent_prefixes (row ∷ routes) = ap (λ list. row.now.prefix ∷ list) (lent_prefixes routes)

mapped_alike : {X Y : Type 0} (f g : X → Y) → ((x : X) → f x ≡ g x) → (xs : List X) → map f xs ≡ map g xs
mapped_alike f g e [] = refl
mapped_alike f g e (x ∷ xs) = rw (e x, mapped_alike f g e xs) refl

pub whole_table : (kind : RouteKind) (routes : List Route) (before : List (Bor Route)) → lent before ≡ of_kind kind routes → rows_of_prefixes before (falling (map lent_prefix before)) ≡ prefix_table kind routes
unfolding prefix_table
whole_table kind routes before is =
    let prefixes : falling (map lent_prefix before) ≡ falling (map (λ row. row.prefix) (of_kind kind routes)) = ap falling (lent_prefixes before ∙ ap (map (λ row. row.prefix)) is) in
    ap (rows_of_prefixes before) prefixes
    ∙ mapped_alike (λ prefix. row_of prefix (filter (has_prefix prefix) before)) (λ prefix. record { prefix = prefix; folders = folders_of kind routes prefix })
    (λ prefix. ap (λ list. record { prefix = prefix; folders = first_of_each paths_are_equal (map (λ row. row.folder) list) })
    (lent_kept prefix before ∙ ap (filter (λ row. bytes_are_equal row.prefix prefix)) is
    ∙ kept_twice (λ row. is_same_kind kind row.kind) (λ row. bytes_are_equal row.prefix prefix) (is_of kind prefix) (λ row. refl) routes))
    (falling (map (λ row. row.prefix) (of_kind kind routes)))
