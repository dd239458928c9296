-- A command that takes one word has it, where clap takes the words.
use Rattle.std.proofs.Common.{◌≡◌, ℕ, zero, suc, Bool, true, false, cond, List, [], ◌∷◌, ◌++◌, length, Option, Some, None, refl, sym, ap, subst, ◌∙◌, codes, fold}
use Rattle.std.specs.Prelude.{◌&&◌, ◌||◌, ◌==◌, not, is_some, slice_get}
use Rattle.std.specs.List.{list_all}
use Rattle.std.specs.Option.{option_map_or}
use Rattle.std.specs.Str.{bytes_eq, chars}
use Rattle.std.proofs.lemmas.List.Folds.{list_all-append}
use Rattle.clap.specs.Lexer.{long_of, short_of}
use Rattle.clap.specs.Kinds.{Kinds, or_else}
use Rattle.clap.specs.Walk.{Held, Outcome, Row, Rule, Step, Text, Waiting, Walk, after_flag, after_step, arg_by_id, arg_by_index, at_row, bundle_met, bundle_step, done, is_pending, option_word, pushed, finished, first_of, has_row, idle, long_or_other, more_values, next, nothing_held, option, plain, plain_word, positional, refused, rows_after, settled, settled_rows, short_or_plain, subcommand, to_positional, trailing, used_by_id, value, waits, walk, walk_from, walked, walked_from, with_values, without, word_met}
use Rattle.clap.specs.Takes.{is_given}
use Rattle.clap.specs.Faults.{bundle_step_fault, defaults_fault, flag_word_fault, flags_fault, level_fault, long_fault, settle_fault, short_fault, step_fault, stray_fault, turn_fault, use_fault, walk_fault, word_fault}
use Rattle.clap.specs.Simple.{Shape, built_leaf, filled, help_rule, with_index}
use Rattle.clap.specs.declared.error.kind.ErrorKind.TheVariants.{MissingRequiredArgument}
use Rattle.clap.specs.declared.builder.value_parser.Reading.{Reading}
use Rattle.clap.specs.declared.parser.matches.ValueSource.{ValueSource}
use Rattle.composer_words.specs.SimpleCommand.{app_with_word, word_rule}

-- ---- steps that do not fail

pub both_none : (first second : Kinds) → or_else first second ≡ [] → (first ≡ []) × (second ≡ [])
both_none [] second e = (refl, e)
both_none (k ∷ ks) second e = absurd cc

-- ---- rows that have a value

abbrev has_value : List Text → Bool
has_value [] = false
has_value (v ∷ vs) = true

abbrev are_full : List Row → Bool
are_full rows = list_all (λ r. has_value r.values) rows

more_value : (xs : List Text) (v : Text) (vs : List Text) → has_value (xs ++ v ∷ vs) ≡ true
more_value [] v vs = refl
more_value (x ∷ xs) v vs = refl

pub both_true : (a b : Bool) → (a && b) ≡ true → (a ≡ true) × (b ≡ true)
both_true true b e = (refl, e)
both_true false b e = absurd cc

joined : (a b : Bool) → a ≡ true → b ≡ true → (a && b) ≡ true
joined a b e f = rw e f

full_at : (id : Text) (change : Row → List Row) (missing rows : List Row) → ((r : Row) → has_value r.values ≡ true → are_full (change r) ≡ true) → are_full missing ≡ true → are_full rows ≡ true
    → are_full (at_row id change missing rows) ≡ true
full_at id change missing [] changes misses full = misses
full_at id change missing (r ∷ rs) changes misses full =
    let parts = both_true (has_value r.values) (are_full rs) full in
    by_same (bytes_eq r.id id) parts.0 parts.1 (full_at id change missing rs changes misses parts.1)
  where
    by_same : (b : Bool) → has_value r.values ≡ true → are_full rs ≡ true → are_full (at_row id change missing rs) ≡ true
        → are_full (cond b (change r ++ rs) (r ∷ at_row id change missing rs)) ≡ true
    by_same true first rest more = list_all-append (λ (r : Row). has_value r.values) (change r) rs ∙ joined (are_full (change r)) (are_full rs) (changes r first) rest
    by_same false first rest more = joined (has_value r.values) _ first more

full_with : (id : Text) (how : Reading) (s : ValueSource) (v : Text) (vs : List Text) (rows : List Row) → are_full rows ≡ true → are_full (with_values id how s (v ∷ vs) (without id rows)) ≡ true
full_with id how s v vs rows full =
    full_at id (more_values s (v ∷ vs)) _ (without id rows) (λ r first. joined _ true (more_value r.values v vs) refl) refl (full_at id (λ _. []) [] rows (λ r first. refl) refl full)

word_there : (id : Text) (rows : List Row) → are_full rows ≡ true → is_given id rows ≡ true → (text : Text) × (first_of id rows ≡ Some text)
word_there id [] full given = absurd cc
word_there id (r ∷ rs) full given =
    let parts = both_true (has_value r.values) (are_full rs) full in
    by_same (bytes_eq r.id id) refl r.values refl parts.0 (word_there id rs parts.1)
  where
    by_same : (b : Bool) → bytes_eq r.id id ≡ b → (values : List Text) → r.values ≡ values → has_value r.values ≡ true → (is_given id rs ≡ true → (text : Text) × (first_of id rs ≡ Some text))
        → (text : Text) × (first_of id (r ∷ rs) ≡ Some text)
    by_same true e [] is first more = let bad : has_value [] ≡ true = subst (λ (vs : List Text). has_value vs ≡ true) is first in absurd cc
    by_same true e (v ∷ vs) is first more = (v, rw (e, is) refl)
    by_same false e values is first more =
        let rest = more (rw e at given) in
        (rest.0, rw e rest.1)

-- ---- the rules of a command with one word, as clap builds them

abbrev word : Text → Rule
word id = with_index 1 (filled (word_rule id))

abbrev help : Rule
help = filled help_rule

abbrev pub word_rules : Text → List Rule
word_rules id = word id ∷ help ∷ []

abbrev pub word_level : Text → Text → Shape
word_level name id = built_leaf (record (app_with_word name id).top { no_binary_name = true })

-- ---- a use of what is pending

abbrev found : Bool → Bool → Text → Option Rule
found is_word is_help id = cond is_word (Some (word id)) (cond is_help (Some help) None)

abbrev fault_at : Bool → Option Rule → List Text → List Row → Kinds
fault_at again None values rows = []
fault_at again (Some a) values rows = use_fault again a values rows

full_used : (id : Text) (is_word is_help again : Bool) (values : List Text) (rows : List Row) → fault_at again (found is_word is_help id) values rows ≡ [] → are_full rows ≡ true
    → are_full (used_by_id (found is_word is_help id) values rows) ≡ true
full_used id true is_help again [] rows e full = absurd cc
full_used id true is_help again (v ∷ vs) rows e full = full_with id _ _ v vs rows full
full_used id false true again values rows e full = full
full_used id false false again values rows e full = full

abbrev settle_at : Text → Bool → Option (Text × List Text) → List Row → Kinds
settle_at id again None rows = []
settle_at id again (Some p) rows = fault_at again (arg_by_id (word_rules id) p.0) p.1 rows

settle_is : (id : Text) (again : Bool) (pending : Option (Text × List Text)) (rows : List Row) (skip : ℕ)
    → settle_fault (word_rules id) again (record { rows = rows; pending = pending; skip = skip }) ≡ settle_at id again pending rows
settle_is id again None rows skip = refl
settle_is id again (Some p) rows skip = by_found (arg_by_id (word_rules id) p.0)
  where
    by_found : (o : Option Rule) → option_map_or (λ a. use_fault again a p.1 rows) o [] ≡ fault_at again o p.1 rows
    by_found None = refl
    by_found (Some a) = refl

full_settled : (id : Text) (again : Bool) (h : Held) → settle_fault (word_rules id) again h ≡ [] → are_full h.rows ≡ true → are_full (settled (word_rules id) h).rows ≡ true
full_settled id again h e full = by_pending h.pending (sym (settle_is id again h.pending h.rows h.skip) ∙ e)
  where
    by_pending : (pending : Option (Text × List Text)) → settle_at id again pending h.rows ≡ [] → are_full (settled_rows (word_rules id) pending h.rows) ≡ true
    by_pending None none = full
    by_pending (Some p) none = full_used id (bytes_eq id p.0) (bytes_eq (codes "help") p.0) again p.1 h.rows none full

-- ---- flags: help is the one flag, and is refused

long_refused : (id : Text) (again is_help : Bool) (v : Option Text) (h : Held) → long_fault (word_rules id) again (cond is_help (Some help) None) v h ≡ [] → ⊥
long_refused id again true (Some v) h e = absurd cc
long_refused id again true None h e = let last = (both_none (settle_fault (word_rules id) again h) (use_fault again help [] (settled (word_rules id) h).rows) e).1 in absurd cc
long_refused id again false v h e = absurd cc

short_refused : (id : Text) (again is_help : Bool) (rest : Text) (h : Held) (more : Held → Kinds) → short_fault (word_rules id) again (cond is_help (Some help) None) rest h more ≡ [] → ⊥
short_refused id again true rest h more e =
    let react = (both_none _ _ e).0 in
    let last = (both_none (settle_fault (word_rules id) again h) (use_fault again help [] (settled (word_rules id) h).rows) react).1 in absurd cc
short_refused id again false rest h more e = absurd cc

-- so a bundle of flags that does not fail has none
bundle_same : (id : Text) (again : Bool) (k : ℕ) (flags : Text) (skip : ℕ) (h : Held) (so_far : Outcome) → flags_fault (word_rules id) again k flags skip h ≡ []
    → (bundle_met (word_rules id) k flags skip so_far h).0 ≡ h
unfolding flags_fault bundle_met
bundle_same id again zero flags skip h so_far e = refl
bundle_same id again (suc k) flags skip h so_far e = step (λ rest skip. bundle_same id again k rest skip h so_far) (slice_get (chars flags) 0) skip e
  where
    step : ((rest : Text) (skip : ℕ) → flags_fault (word_rules id) again k rest skip h ≡ [] → (bundle_met (word_rules id) k rest skip so_far h).0 ≡ h) → (o : Option ℕ) (skip : ℕ) → bundle_step_fault (word_rules id) again o flags skip h (flags_fault (word_rules id) again k) ≡ []
        → (bundle_step (word_rules id) o flags skip so_far h (bundle_met (word_rules id) k)).0 ≡ h
    step more None skip e = refl
    step more (Some x) zero e = absurd (short_refused id again _ _ h _ e)
    step more (Some x) (suc skip) e = more _ skip e

-- ---- one more word

plain_rows : (c : List Rule) (waiting : Waiting) (w : Text) (h : Held) → (plain_word c waiting w h).0.rows ≡ h.rows
plain_rows c (option a) w h = by_arg (arg_by_id c a)
  where
    by_arg : (o : Option Rule) → (option_word o a w h).0.rows ≡ h.rows
    by_arg None = refl
    by_arg (Some r) = refl
plain_rows c idle w h = refl
plain_rows c positional w h = refl

after_rows : (c : List Rule) (waiting : Waiting) (w : Text) (h : Held) (outcome : Outcome) → (after_flag c waiting w h outcome).0.rows ≡ h.rows
after_rows c waiting w h done = refl
after_rows c waiting w h (waits a) = refl
after_rows c waiting w h plain = plain_rows c waiting w h
after_rows c waiting w h refused = plain_rows c waiting w h

module _ (name id : Text) where
  short_rows : (waiting : Waiting) (w : Text) (flags : Option Text) (h : Held) → flag_word_fault (word_rules id) false None w h ≡ [] → short_of w ≡ flags
      → (short_or_plain (word_rules id) waiting w flags h).0.rows ≡ h.rows
  short_rows waiting w None h e is = plain_rows (word_rules id) waiting w h
  short_rows waiting w (Some flags) h e is =
      after_rows (word_rules id) waiting w _ _ ∙ ap (λ (k : Held). k.rows) (bundle_same id false (length flags) flags h.skip (record h { skip = 0 }) plain (rw is at e))

  other_rows : (waiting : Waiting) (w : Text) (long : Option (Text × Option Text)) (h : Held) → flag_word_fault (word_rules id) false long w h ≡ []
      → (long_or_other (word_rules id) waiting w long h).0.rows ≡ h.rows
  other_rows waiting w (Some p) h e = absurd (long_refused id false _ p.1 h e)
  other_rows waiting w None h e = short_rows waiting w (short_of w) h e refl

  dashes_rows : (waiting : Waiting) (position : ℕ) (w : Text) (h : Held) (b : Bool) → cond b [] (flag_word_fault (word_rules id) false (long_of w) w h) ≡ []
      → (cond b (h, trailing position) (long_or_other (word_rules id) waiting w (long_of w) h)).0.rows ≡ h.rows
  dashes_rows waiting position w h true e = refl
  dashes_rows waiting position w h false e = other_rows waiting w (long_of w) h e

  word_rows : (is_trailing : Bool) (waiting : Waiting) (position : ℕ) (w : Text) (h : Held) → word_fault (word_level name id) [] is_trailing waiting w h ≡ []
      → (word_met (word_rules id) [] is_trailing waiting position w h).0.rows ≡ h.rows
  word_rows true waiting position w h e = refl
  word_rows false idle position w h e = dashes_rows idle position w h (bytes_eq w (45 ∷ 45 ∷ [])) e
  word_rows false (option a) position w h e = dashes_rows (option a) position w h (bytes_eq w (45 ∷ 45 ∷ [])) e
  word_rows false positional position w h e = dashes_rows positional position w h (bytes_eq w (45 ∷ 45 ∷ [])) e

  full_positional : (w : Walk) (text : Text) (h : Held) (is_first : Bool) → step_fault (word_level name id) w.position h value ≡ [] → are_full h.rows ≡ true
      → arg_by_index (word_rules id) w.position ≡ cond is_first (Some (word id)) None → are_full (to_positional (word_rules id) (cond is_first (Some (word id)) None) text w h).held.rows ≡ true
  full_positional w text h true e full is = by_pending (is_pending (word id) h.pending) (rw is at e)
    where
      by_pending : (b : Bool) → cond (b && false) [] (settle_fault (word_rules id) false h) ≡ [] → are_full (pushed id text (cond (b && false) h (settled (word_rules id) h))).rows ≡ true
      by_pending true none = full_settled id false h none full
      by_pending false none = full_settled id false h none full
  full_positional w text h false e full is = absurd (stray (rw is at e))
    where
      stray : stray_fault (word_level name id) ≡ [] → ⊥
      stray none = absurd cc

  index_is : (position : ℕ) → arg_by_index (word_rules id) position ≡ cond (1 == position) (Some (word id)) None
  index_is position = refl

  full_step : (step : Step) (w : Walk) (text : Text) (h : Held) → step_fault (word_level name id) w.position h step ≡ [] → are_full h.rows ≡ true
      → are_full (after_step (word_rules id) text w h step).held.rows ≡ true
  full_step (next waiting) w text h e full = full
  full_step (trailing position) w text h e full = full
  full_step (subcommand sub) w text h e full = full
  full_step value w text h e full = full_positional w text h (1 == w.position) e full (index_is w.position)

  full_turn : (w : Walk) (text : Text) → turn_fault (word_level name id) [] w text ≡ [] → are_full w.held.rows ≡ true → are_full (walked (word_rules id) [] w text).held.rows ≡ true
  unfolding walked
  full_turn w text e full = by_stop w.stopped e
    where
      met : Held × Step
      met = word_met (word_rules id) [] w.is_trailing w.waiting w.position text w.held

      by_stop : (stop : Option (Text × List Text)) → cond (is_some stop) [] (or_else (word_fault (word_level name id) [] w.is_trailing w.waiting text w.held) (step_fault (word_level name id) w.position met.0 met.1)) ≡ []
          → are_full (walked_from (word_rules id) [] stop w text).held.rows ≡ true
      by_stop (Some p) none = full
      by_stop None none =
          let parts = both_none _ _ none in
          full_step met.1 w text met.0 parts.1 (ap are_full (word_rows w.is_trailing w.waiting w.position text w.held parts.0) ∙ full)

  full_walk : (words : List Text) (w : Walk) → walk_fault (word_level name id) [] w words ≡ [] → are_full w.held.rows ≡ true → are_full (fold (walked (word_rules id) []) w words).held.rows ≡ true
  unfolding walk_fault
  full_walk [] w e full = full
  full_walk (text ∷ rest) w e full =
      let parts = both_none (turn_fault (word_level name id) [] w text) (walk_fault (word_level name id) [] (walked (word_rules id) [] w text) rest) e in
      full_walk rest (walked (word_rules id) [] w text) parts.1 (full_turn w text parts.0 full)

  same_either : (b : Bool) (rows : List Row) → cond b rows rows ≡ rows
  same_either true rows = refl
  same_either false rows = refl

  -- no default comes in
  ends_with : (h : Held) → finished (word_rules id) h ≡ (settled (word_rules id) h).rows
  ends_with h = ap (λ (rows : List Row). cond (has_row (codes "help") rows) rows rows) (same_either (has_row id (settled (word_rules id) h).rows) (settled (word_rules id) h).rows)
      ∙ same_either (has_row (codes "help") (settled (word_rules id) h).rows) (settled (word_rules id) h).rows

  given_from : (given : Bool) → cond (not given || false) (MissingRequiredArgument ∷ []) [] ≡ [] → given ≡ true
  given_from true e = refl
  given_from false e = absurd cc

  -- The word is there.
  pub has_word : (words : List Text) → level_fault (word_level name id) [] nothing_held words false [] ≡ [] → (text : Text) × (first_of id (rows_after (word_rules id) [] words) ≡ Some text)
  has_word words e =
      let end = (walk (word_rules id) [] nothing_held words).held in
      let walking = both_none (walk_fault (word_level name id) [] (walk_from nothing_held) words) _ e in
      let settling = both_none (settle_fault (word_rules id) false end) _ walking.1 in
      let checking = both_none (defaults_fault (settled (word_rules id) end).rows (word_rules id)) _ settling.1 in
      let full = full_settled id false end settling.0 (full_walk words (walk_from nothing_held) walking.0 refl) in
      word_there id (finished (word_rules id) end) (ap are_full (ends_with end) ∙ full) (given_from (is_given id (finished (word_rules id) end)) checking.1)
