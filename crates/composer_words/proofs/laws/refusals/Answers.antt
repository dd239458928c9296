use Rattle.std.proofs.Common.{◌≡◌, ℕ, Bool, true, false, cond, List, [], ◌∷◌, Option, Some, None, Result, Ok, Err, refl, sym, ap, ◌∙◌, codes, inl, inr}
use Rattle.std.specs.Option.{ok_or}
use Rattle.path_name.specs.Given.{◌>>=◌}
use Rattle.path_name.specs.Paths.{entered, is_clean, path_of, path_step, read_parts}
use Rattle.path_name.specs.declared.fault.PathFault.{PathFault}
use Rattle.path_name.specs.declared.fault.PathFault.TheVariants.{AboveRoot, BadSegment}
use Rattle.clap.specs.Words.{Kinds, fault_of, first_of, matches_of, subcommand_of}
use Rattle.composer_words.specs.Faults.{fault_of_path}
use Rattle.composer_words.specs.SimpleCommand.{composer_app}
use Rattle.composer_words.specs.Words.{IsNoDemo, IsRefused, chosen_of, command_of, entered_task, has_no_fault, path_or_usage, project_of, task_of}
use Rattle.composer_words.specs.declared.fault.WordsFault.{WordsFault}
use Rattle.composer_words.specs.declared.fault.WordsFault.TheVariants.{Usage}
use Rattle.composer_words.proofs.Tasks.{Entry, IsTasked, has_task}
use Rattle.composer_words.proofs.laws.refusals.Goals as goal

-- ---- a DIR that is no path is Usage, and never want of memory

abbrev IsUsage : {X : Type 0} → Result X PathFault → Type 0
IsUsage (Ok x) = Unit {0}
IsUsage (Err fault) = fault_of_path fault ≡ Usage

step_usage : (before : List (List ℕ)) (part : ℕ × List ℕ) → IsUsage (path_step before part)
step_usage before part = by_clean (is_clean part.1) (entered before part.1)
  where
    by_clean : (clean : Bool) (after : Option (List (List ℕ))) → IsUsage (cond clean (ok_or after (AboveRoot part.0)) (Err (BadSegment part.0)))
    by_clean true None = refl
    by_clean true (Some path) = tt
    by_clean false after = refl

reads_usage : (before : List (List ℕ)) (parts : List (ℕ × List ℕ)) → IsUsage (read_parts path_step before parts)
reads_usage before [] = tt
reads_usage before (part ∷ parts) = by_step (path_step before part) (step_usage before part) (λ after. reads_usage after parts)
  where
    by_step : (step : Result (List (List ℕ)) PathFault) → IsUsage step → ((after : List (List ℕ)) → IsUsage (read_parts path_step after parts))
        → IsUsage (step >>= λ after. read_parts path_step after parts)
    by_step (Ok after) usage more = more after
    by_step (Err fault) usage more = usage

path_usage : (text : List ℕ) → IsUsage (path_of text)
unfolding path_of
path_usage text = reads_usage [] _

project_usage : (dir : Option (List ℕ)) (fault : WordsFault) → project_of dir ≡ Err fault → fault ≡ Usage
project_usage None fault e = absurd cc
project_usage (Some text) fault e = by_path (path_of text) (path_usage text) e
  where
    by_path : (read : Result (List (List ℕ)) PathFault) → IsUsage read → path_or_usage read ≡ Err fault → fault ≡ Usage
    by_path (Ok path) usage is = absurd cc
    by_path (Err f) usage is = cc

-- ---- words that are taken

no_demo_task : (sub : Option Entry) → IsNoDemo sub → entered_task sub ≡ Err Usage
unfolding task_of
no_demo_task None bad = absurd bad
no_demo_task (Some entry) bad = ap (λ (name : List ℕ). task_of name entry.1) bad.0 ∙ rw (bad.1.1, bad.1.2) refl

module _ (words : List (List ℕ)) where
  abbrev dir : Option (List ℕ)
  dir = first_of (codes "directory") (matches_of composer_app words)

  abbrev sub : Option Entry
  sub = subcommand_of composer_app words

  why : (kinds : Kinds) → fault_of composer_app words ≡ kinds → command_of words ≡ Err Usage → IsRefused words
  unfolding command_of chosen_of
  why (kind ∷ more) is usage = inl (ap has_no_fault is)
  why [] is usage = by_project (project_of dir) refl
    where
      by_project : (project : Result (List (List ℕ)) WordsFault) → project_of dir ≡ project → IsRefused words
      by_project (Err fault) e = inr (inl (e ∙ ap Err (project_usage dir fault e)))
      by_project (Ok path) e = by_task (has_task words is)
        where
          by_task : IsTasked sub → IsRefused words
          by_task (inr demo) = inr (inr demo)
          by_task (inl task) = let chosen = rw (is, e, task.1) at usage in absurd cc

  refused : (kinds : Kinds) → fault_of composer_app words ≡ kinds → IsRefused words → command_of words ≡ Err Usage
  unfolding command_of chosen_of
  refused (kind ∷ more) is why = rw is refl
  refused [] is (inl not_taken) = let bad : has_no_fault [] ≡ false = ap has_no_fault (sym is) ∙ not_taken in absurd cc
  refused [] is (inr (inl no_path)) = rw (is, no_path) refl
  refused [] is (inr (inr demo)) = by_project (project_of dir) refl
    where
      by_project : (project : Result (List (List ℕ)) WordsFault) → project_of dir ≡ project → command_of words ≡ Err Usage
      by_project (Err fault) e = rw (is, e) (ap Err (project_usage dir fault e))
      by_project (Ok path) e = rw (is, e, no_demo_task sub demo) refl

pub returns : goal.returns
returns c = λ words. (why words (fault_of composer_app words) refl, refused words (fault_of composer_app words) refl)
