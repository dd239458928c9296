-- The task of words that clap takes.
use Rattle.std.proofs.Common.{◌≡◌, ℕ, Bool, true, false, cond, List, [], ◌∷◌, Option, Some, None, Ok, refl, sym, ap, subst, ◌∙◌, codes, ◌⊎◌, inl, inr}
use Rattle.std.specs.Prelude.{◌||◌, find}
use Rattle.std.specs.Str.{bytes_eq}
use Rattle.std.proofs.lemmas.Slice.Eq.{bytes_eq-Decides}
use Rattle.clap.specs.Words.{Row, fault_of, first_of, subcommand_of}
use Rattle.clap.specs.Faults.{built_fault, level_fault}
use Rattle.clap.specs.Walk.{answers_to, nothing_held, rows_after, stop_after}
use Rattle.clap.specs.Simple.{App, Shape, argument_words, built, built_leaf, entered, help_shape, label_of, names_of, new_app}
use Rattle.clap.proofs.OnLiterals.{clap_on_literals}
use Rattle.composer_words.specs.SimpleCommand.{app_with_ways, composer_app}
use Rattle.composer_words.specs.Words.{IsNoDemo, demo_number, entered_task, task_of}
use Rattle.composer_words.specs.declared.chosen.Task.{Task}
use Rattle.composer_words.specs.declared.chosen.Task.TheVariants as tasks
use Rattle.composer_words.proofs.RequiredWords.{has_word, word_level, word_rules}
use Rattle.composer_words.proofs.Entered.{Enters, enters}

-- ---- the commands, as clap builds them

abbrev plain_level : List ℕ → Shape
plain_level name = built_leaf (record (new_app name).top { no_binary_name = true })

abbrev ways_level : List ℕ → Shape
ways_level name = built_leaf (record (app_with_ways name).top { no_binary_name = true })

abbrev help_level : Shape
help_level = built_leaf help_shape

-- all of them, and those from each on
abbrev from_help : List Shape
from_help = help_level ∷ []

abbrev from_demo : List Shape
from_demo = word_level (codes "demo") (codes "number") ∷ from_help

abbrev from_recover : List Shape
from_recover = plain_level (codes "recover") ∷ from_demo

abbrev from_check : List Shape
from_check = plain_level (codes "check") ∷ from_recover

abbrev from_files : List Shape
from_files = plain_level (codes "files") ∷ from_check

abbrev from_lookup : List Shape
from_lookup = word_level (codes "lookup") (codes "name") ∷ from_files

abbrev from_dump : List Shape
from_dump = ways_level (codes "dump-autoload") ∷ from_lookup

abbrev from_update : List Shape
from_update = ways_level (codes "update") ∷ from_dump

abbrev from_install : List Shape
from_install = ways_level (codes "install") ∷ from_update

levels : (built composer_app).subs ≡ from_install
unfolding composer_app clap_on_literals
levels = refl

-- ---- each has a task

-- the name of a command and its matches
abbrev pub Entry : Type 0
Entry = List ℕ × List Row

-- a task, or a number that is none of a demo
abbrev pub IsTasked : Option Entry → Type 0
IsTasked sub = ((task : Task) × (entered_task sub ≡ Ok task)) ⊎ IsNoDemo sub

abbrev HasTask : List (List ℕ) → Shape → Type 0
HasTask rest s = level_fault s [] nothing_held rest false [] ≡ [] → IsTasked (Some (s.name, rows_after s.rules [] rest))

demo_case : (rows : List Row) (text : List ℕ) → first_of (codes "number") rows ≡ Some text → (number : Option ℕ) → demo_number text ≡ number → IsTasked (Some (codes "demo", rows))
unfolding task_of
demo_case rows text is None none = inr (refl, (text, is, none))
demo_case rows text is (Some n) some = inl (tasks.Demo n, rw (is, some) refl)

lookup_case : (rows : List Row) (text : List ℕ) → first_of (codes "name") rows ≡ Some text → IsTasked (Some (codes "lookup", rows))
unfolding task_of
lookup_case rows text is = inl (tasks.Lookup text, rw is refl)

module _ (rest : List (List ℕ)) where
  installs : HasTask rest (ways_level (codes "install"))
  unfolding task_of
  installs passes = inl (tasks.Install _, refl)

  updates : HasTask rest (ways_level (codes "update"))
  unfolding task_of
  updates passes = inl (tasks.Update _, refl)

  dumps : HasTask rest (ways_level (codes "dump-autoload"))
  unfolding task_of
  dumps passes = inl (tasks.DumpAutoload _, refl)

  looks_up : HasTask rest (word_level (codes "lookup") (codes "name"))
  looks_up passes = let word = has_word (codes "lookup") (codes "name") rest passes in lookup_case (rows_after (word_rules (codes "name")) [] rest) word.0 word.1

  lists : HasTask rest (plain_level (codes "files"))
  unfolding task_of
  lists passes = inl (tasks.Files, refl)

  checks : HasTask rest (plain_level (codes "check"))
  unfolding task_of
  checks passes = inl (tasks.Check, refl)

  recovers : HasTask rest (plain_level (codes "recover"))
  unfolding task_of
  recovers passes = inl (tasks.Recover, refl)

  shows : HasTask rest (word_level (codes "demo") (codes "number"))
  shows passes =
      let word = has_word (codes "demo") (codes "number") rest passes in
      demo_case (rows_after (word_rules (codes "number")) [] rest) word.0 word.1 (demo_number word.0) refl

-- ---- the command that is entered is one of them

find_step : (f : Shape → Bool) (x : Shape) (xs : List Shape) (s : Shape) → find f (x ∷ xs) ≡ Some s → ((f x ≡ true) × (s ≡ x)) ⊎ (find f xs ≡ Some s)
find_step f x xs s e = by_test (f x) refl e
  where
    by_test : (b : Bool) → f x ≡ b → cond b (Some x) (find f xs) ≡ Some s → ((f x ≡ true) × (s ≡ x)) ⊎ (find f xs ≡ Some s)
    by_test true is found = inl (is, cc)
    by_test false is found = inr found

-- the first that answers has what each has
each_has : (P : Shape → Type 0) (f : Shape → Bool) (x : Shape) (xs : List Shape) (s : Shape) → (f x ≡ true → P x) → (find f xs ≡ Some s → P s) → find f (x ∷ xs) ≡ Some s → P s
each_has P f x xs s first rest e = elim (find_step f x xs s e) [ inl here ↦ subst P (sym here.1) (first here.0) | inr more ↦ rest more ]

no_more : (P : Shape → Type 0) (f : Shape → Bool) (s : Shape) → find f [] ≡ Some s → P s
no_more P f s e = absurd cc

not_help : (P : Type 0) (name : List ℕ) → bytes_eq name (codes "help") ≡ false → answers_to name (label_of help_level) ≡ true → P
not_help P name other answers = absurd (by_name (bytes_eq (codes "help") name) refl answers)
  where
    by_name : (b : Bool) → bytes_eq (codes "help") name ≡ b → (b || false) ≡ true → ⊥
    by_name true is answers = let same = (bytes_eq-Decides name (codes "help")).1 (sym ((bytes_eq-Decides (codes "help") name).0 is)) in absurd cc
    by_name false is answers = absurd cc

entered_is : (a : App) (words : List (List ℕ)) (e : Enters a words) → entered a (stop_after a.top.rules (names_of a) words) ≡ Some (e.shape.name, rows_after e.shape.rules [] e.rest)
entered_is a words e = rw (e.stop, e.found) refl

shape_has : (a : App) (words : List (List ℕ)) (e : Enters a words) (P : Shape → Type 0) (subs : List Shape) → a.subs ≡ subs
    → (find (λ s. answers_to e.name (label_of s)) subs ≡ Some e.shape → P e.shape) → P e.shape
shape_has a words e P subs is each = each (subst (λ (subs : List Shape). find (λ s. answers_to e.name (label_of s)) subs ≡ Some e.shape) is e.found)

all_words : (words : List (List ℕ)) → argument_words composer_app words ≡ words
unfolding composer_app
all_words words = refl

required : (built composer_app).top.subcommand_required ≡ true
unfolding composer_app
required = refl

asks_nothing : (built composer_app).top.arg_required_else_help ≡ false
unfolding composer_app
asks_nothing = refl

offers_help : (built composer_app).top.disable_help_subcommand ≡ false
unfolding composer_app
offers_help = refl

-- Words that clap takes have a task, or a number that is none of a demo.
pub has_task : (words : List (List ℕ)) → fault_of composer_app words ≡ [] → IsTasked (subcommand_of composer_app words)
has_task words none = subst IsTasked (sym (ap (λ (ws : List (List ℕ)). entered (built composer_app) (stop_after (built composer_app).top.rules (names_of (built composer_app)) ws)) (all_words words)
    ∙ entered_is (built composer_app) words e)) (has e.passes)
  where
    e : Enters (built composer_app) words
    e = enters (built composer_app) words required asks_nothing offers_help
        (ap (λ (ws : List (List ℕ)). built_fault (built composer_app) nothing_held ws) (sym (all_words words)) ∙ none)

    answers : Shape → Bool
    answers s = answers_to e.name (label_of s)

    from_here : (x : Shape) (xs : List Shape) → (answers x ≡ true → HasTask e.rest x) → (find answers xs ≡ Some e.shape → HasTask e.rest e.shape)
        → find answers (x ∷ xs) ≡ Some e.shape → HasTask e.rest e.shape
    from_here x xs = each_has (HasTask e.rest) answers x xs e.shape

    has : HasTask e.rest e.shape
    has = shape_has (built composer_app) words e (HasTask e.rest) from_install levels
        (from_here (ways_level (codes "install")) from_update (λ _. installs e.rest)
        (from_here (ways_level (codes "update")) from_dump (λ _. updates e.rest)
        (from_here (ways_level (codes "dump-autoload")) from_lookup (λ _. dumps e.rest)
        (from_here (word_level (codes "lookup") (codes "name")) from_files (λ _. looks_up e.rest)
        (from_here (plain_level (codes "files")) from_check (λ _. lists e.rest)
        (from_here (plain_level (codes "check")) from_recover (λ _. checks e.rest)
        (from_here (plain_level (codes "recover")) from_demo (λ _. recovers e.rest)
        (from_here (word_level (codes "demo") (codes "number")) from_help (λ _. shows e.rest)
        (from_here help_level [] (λ is. not_help (HasTask e.rest help_level) e.name e.no_help is) (no_more (HasTask e.rest) answers e.shape))))))))))
