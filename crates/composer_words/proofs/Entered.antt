-- Which command the words enter, where clap takes them.
use Rattle.std.proofs.Common.{◌≡◌, ℕ, Bool, true, false, cond, List, [], ◌∷◌, Option, Some, None, refl, codes, fold}
use Rattle.std.specs.Prelude.{◌&&◌, not, find, is_some, option_map}
use Rattle.std.specs.List.{list_any}
use Rattle.std.specs.Option.{option_map_or}
use Rattle.std.specs.Str.{bytes_eq}
use Rattle.clap.specs.Lexer.{long_of, short_of}
use Rattle.clap.specs.Facts.{explicit_source}
use Rattle.clap.specs.Takes.{is_given}
use Rattle.clap.specs.Kinds.{check_kinds, or_else}
use Rattle.clap.specs.Walk.{Held, Names, Outcome, Rule, Step, Text, Waiting, Walk, after_flag, after_step, answers_to, arg_by_index, done, finished, idle, long_or_other, next, nothing_held, option, plain, plain_word, positional, refused, settled, short_or_plain, stop_after, subcommand, subcommand_met, subcommand_or_other, to_positional, trailing, value, waits, walk, walk_from, walked, walked_from, word_met}
use Rattle.clap.specs.Faults.{built_fault, defaults_fault, entered_fault, level_fault, other_fault, settle_fault, step_fault, turn_fault, walk_fault, word_fault}
use Rattle.clap.specs.declared.error.kind.ErrorKind.TheVariants.{DisplayHelp, InvalidSubcommand}
use Rattle.clap.specs.Simple.{App, Shape, entered, label_of, names_of, rows_at}
use Rattle.composer_words.proofs.RequiredWords.{both_none}

-- ---- help is refused

abbrev is_subcommand : Step → Bool
is_subcommand (next waiting) = false
is_subcommand (trailing position) = false
is_subcommand (subcommand name) = true
is_subcommand value = false

plain_enters : (c : List Rule) (waiting : Waiting) (w : Text) (h : Held) → is_subcommand (plain_word c waiting w h).1 ≡ false
plain_enters c (option id) w h = refl
plain_enters c idle w h = refl
plain_enters c positional w h = refl

flag_enters : (c : List Rule) (waiting : Waiting) (w : Text) (h : Held) (outcome : Outcome) → is_subcommand (after_flag c waiting w h outcome).1 ≡ false
flag_enters c waiting w h done = refl
flag_enters c waiting w h (waits id) = refl
flag_enters c waiting w h plain = plain_enters c waiting w h
flag_enters c waiting w h refused = plain_enters c waiting w h

short_enters : (c : List Rule) (waiting : Waiting) (w : Text) (flags : Option Text) (h : Held) → is_subcommand (short_or_plain c waiting w flags h).1 ≡ false
short_enters c waiting w (Some flags) h = flag_enters c waiting w _ _
short_enters c waiting w None h = plain_enters c waiting w h

long_enters : (c : List Rule) (waiting : Waiting) (w : Text) (long : Option (Text × Option Text)) (h : Held) → is_subcommand (long_or_other c waiting w long h).1 ≡ false
long_enters c waiting w (Some p) h = flag_enters c waiting w _ _
long_enters c waiting w None h = short_enters c waiting w (short_of w) h

-- what a step that enters a command says of its name
abbrev IsNotHelp : Step → Type 0
IsNotHelp (next waiting) = Unit {0}
IsNotHelp (trailing position) = Unit {0}
IsNotHelp (subcommand name) = bytes_eq name (codes "help") ≡ false
IsNotHelp value = Unit {0}

no_command : (step : Step) → is_subcommand step ≡ false → IsNotHelp step
no_command (next waiting) e = tt
no_command (trailing position) e = tt
no_command (subcommand name) e = absurd cc
no_command value e = tt

module _ (s : Shape) (offers : s.disable_help_subcommand ≡ false) (names : Names) where
  named : (name : Text) (w : Text) (h : Held) → other_fault s (Some name) w h ≡ [] → bytes_eq name (codes "help") ≡ false
  named name w h e = by_help (bytes_eq name (codes "help")) (rw offers at e)
    where
      by_help : (b : Bool) → cond (b && true) (DisplayHelp ∷ InvalidSubcommand ∷ []) [] ≡ [] → b ≡ false
      by_help true none = absurd cc
      by_help false none = refl

  met_step : (waiting : Waiting) (position : ℕ) (w : Text) (h : Held) (met : Option Text) → other_fault s met w h ≡ [] → IsNotHelp (subcommand_or_other s.rules met waiting position w h).1
  met_step waiting position w h (Some name) e = named name w h e
  met_step waiting position w h None e = by_dashes (bytes_eq w (45 ∷ 45 ∷ []))
    where
      by_dashes : (b : Bool) → IsNotHelp (cond b (h, trailing position) (long_or_other s.rules waiting w (long_of w) h)).1
      by_dashes true = tt
      by_dashes false = no_command _ (long_enters s.rules waiting w (long_of w) h)

  word_step : (is_trailing : Bool) (waiting : Waiting) (position : ℕ) (w : Text) (h : Held) → word_fault s names is_trailing waiting w h ≡ []
      → IsNotHelp (word_met s.rules names is_trailing waiting position w h).1
  word_step true waiting position w h e = tt
  word_step false waiting position w h e = met_step waiting position w h (subcommand_met names waiting w) e

  -- where the walk stopped: nowhere, or at a command that is not help
  abbrev Stops : Option (Text × List Text) → Type 0
  Stops None = Unit {0}
  Stops (Some p) = bytes_eq p.0 (codes "help") ≡ false

  stops_positional : (o : Option Rule) (text : Text) (w : Walk) (h : Held) → w.stopped ≡ None → Stops (to_positional s.rules o text w h).stopped
  stops_positional None text w h none = rw none tt
  stops_positional (Some a) text w h none = tt

  stops_step : (step : Step) (text : Text) (w : Walk) (h : Held) → w.stopped ≡ None → IsNotHelp step → Stops (after_step s.rules text w h step).stopped
  stops_step (next waiting) text w h none is = rw none tt
  stops_step (trailing position) text w h none is = rw none tt
  stops_step (subcommand name) text w h none is = is
  stops_step value text w h none is = stops_positional (arg_by_index s.rules w.position) text w h none

  stops_turn : (w : Walk) (text : Text) → turn_fault s names w text ≡ [] → Stops w.stopped → Stops (walked s.rules names w text).stopped
  unfolding walked
  stops_turn w text e stops = by_stop w.stopped refl e stops
    where
      met : Held × Step
      met = word_met s.rules names w.is_trailing w.waiting w.position text w.held

      by_stop : (stop : Option (Text × List Text)) → w.stopped ≡ stop
          → cond (is_some stop) [] (or_else (word_fault s names w.is_trailing w.waiting text w.held) (step_fault s w.position met.0 met.1)) ≡ []
          → Stops stop → Stops (walked_from s.rules names stop w text).stopped
      by_stop (Some p) is none before = before
      by_stop None is none before =
          stops_step met.1 text w met.0 is (word_step w.is_trailing w.waiting w.position text w.held (both_none _ _ none).0)

  stops_walk : (words : List Text) (w : Walk) → walk_fault s names w words ≡ [] → Stops w.stopped → Stops (fold (walked s.rules names) w words).stopped
  unfolding walk_fault
  stops_walk [] w e stops = stops
  stops_walk (text ∷ rest) w e stops =
      let parts = both_none (turn_fault s names w text) (walk_fault s names (walked s.rules names w text) rest) e in
      stops_walk rest (walked s.rules names w text) parts.1 (stops_turn w text parts.0 stops)

-- ---- a command is entered

-- the command that was entered, with the words after it
pub record Enters (a : App) (words : List Text) : Type 0 where
  pub name : Text
  pub rest : List Text
  pub shape : Shape
  pub stop : stop_after a.top.rules (names_of a) words ≡ Some (name, rest)
  pub found : find (λ s. answers_to name (label_of s)) a.subs ≡ Some shape
  pub no_help : bytes_eq name (codes "help") ≡ false
  pub passes : level_fault shape [] nothing_held rest false [] ≡ []

wanted : (has asks required given third : Bool) → asks ≡ false → required ≡ true → check_kinds (not has && (asks && given)) (not has && required) third ≡ [] → has ≡ true
wanted true asks required given third asks_none required_is e = refl
wanted false true required given third asks_none required_is e = absurd cc
wanted false false true given third asks_none required_is e = absurd cc
wanted false false false given third asks_none required_is e = absurd cc

pub enters : (a : App) (words : List Text) → a.top.subcommand_required ≡ true → a.top.arg_required_else_help ≡ false → a.top.disable_help_subcommand ≡ false
    → built_fault a nothing_held words ≡ [] → Enters a words
enters a words required asks offers e =
    let end = (walk a.top.rules (names_of a) nothing_held words).held in
    let stop = stop_after a.top.rules (names_of a) words in
    let walking = both_none (walk_fault a.top (names_of a) (walk_from nothing_held) words) _ e in
    let entering = both_none (entered_fault a stop) _ walking.1 in
    let settling = both_none (settle_fault a.top.rules a.top.args_override_self end) _ entering.1 in
    let checking = both_none (defaults_fault (settled a.top.rules end).rows a.top.rules) _ settling.1 in
    by_stop stop refl entering.0 (stops_walk a.top offers (names_of a) words (walk_from nothing_held) walking.0 tt)
    (wanted (is_some (entered a stop)) a.top.arg_required_else_help a.top.subcommand_required
    (not (list_any (λ r. explicit_source r.source) (finished a.top.rules end)))
    (not (a.top.subcommand_negates_reqs && is_some (entered a stop)) && list_any (λ r. r.required && not (is_given r.id (finished a.top.rules end))) a.top.rules)
    asks required checking.1)
  where
    by_stop : (stop : Option (Text × List Text)) → stop_after a.top.rules (names_of a) words ≡ stop → entered_fault a stop ≡ [] → Stops a.top offers (names_of a) stop
        → is_some (entered a stop) ≡ true → Enters a words
    by_stop None is none stops has = absurd cc
    by_stop (Some p) is none stops has = by_shape (find (λ s. answers_to p.0 (label_of s)) a.subs) refl none has
      where
        by_shape : (o : Option Shape) → find (λ s. answers_to p.0 (label_of s)) a.subs ≡ o → option_map_or (λ s. level_fault s [] nothing_held p.1 false []) o [] ≡ []
            → is_some (option_map (λ s. rows_at s p.1) o) ≡ true → Enters a words
        by_shape None is_none passes has_shape = absurd cc
        by_shape (Some s) is_shape passes has_shape = record {
          name = p.0;
          rest = p.1;
          shape = s;
          stop = is;
          found = is_shape;
          no_help = stops;
          passes = passes;
        }
