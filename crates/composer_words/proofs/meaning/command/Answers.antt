use Rattle.std.proofs.Common.{◌≡◌, ◌≢◌, ◌⊎◌, inl, inr, map, subst, refl, sym, ap, ◌∙◌, List, [], ◌∷◌, ℕ, Option, Result, Err}
use Rattle.std.proofs.lemmas.Result.{err_from_is_err_and}
use Rattle.std.specs.String.{string_bytes}
use Rattle.clap.specs.Words.{App, IsAmong, Kinds, Row, is_simple, is_simple_and_free, kind_of, fault_of, matches_of, subcommand_of}
use Rattle.clap.specs.declared.error.kind.ErrorKind.{ErrorKind}
use Rattle.clap.specs.declared.error.kind.ErrorKind.TheVariants as kinds
use Rattle.path_name.specs.Given.{GivesValue}
use Rattle.composer_words.specs.SimpleCommand.{composer_app}
use Rattle.composer_words.specs.Faults.{fault_of_kind}
use Rattle.composer_words.specs.Words.{chosen_of, command_of}
use Rattle.composer_words.specs.declared.chosen.Chosen.{Chosen}
use Rattle.composer_words.specs.declared.fault.WordsFault.{WordsFault}
use Rattle.composer_words.specs.declared.fault.WordsFault.TheVariants.{Usage, OutOfMemory}
use Rattle.composer_words.proofs.IsSimple.{composer_is_simple, composer_is_free}
use Rattle.composer_words.proofs.meaning.command.Goals as goal

usage_kind : (kind : ErrorKind) → fault_of_kind kind ≢ OutOfMemory → fault_of_kind kind ≡ Usage
usage_kind kinds.OutOfMemory other = absurd (other refl)
usage_kind _ other = refl

refused : (words : List (List ℕ)) (kind : ErrorKind) (faults : Kinds) → faults ≡ fault_of composer_app words → IsAmong kind faults → command_of words ≡ Err Usage
unfolding command_of
refused words kind [] is among = absurd among
refused words kind (first ∷ rest) is among = rw (← is) refl

fails : (words : List (List ℕ)) (kind : ErrorKind) → (kind ≡ kinds.OutOfMemory) ⊎ IsAmong kind (fault_of composer_app words)
    → fault_of_kind kind ≢ OutOfMemory → command_of words ≡ Err (fault_of_kind kind)
fails words kind (inl memory) other = absurd (other (ap fault_of_kind memory))
fails words kind (inr among) other = refused words kind _ refl among ∙ ap Err (sym (usage_kind kind other))

taken : (words : List (List ℕ)) (rows : List Row) (entered : Option (List ℕ × List Row)) → fault_of composer_app words ≡ []
    → rows ≡ matches_of composer_app words → entered ≡ subcommand_of composer_app words → chosen_of rows entered ≡ command_of words
unfolding command_of
taken words rows entered none found sub = rw (none, found, sub) refl

pub returns-in_err-matches : goal.returns-in_err-matches
returns-in_err-matches c =
    let words = map string_bytes c.args.words.now in
    let is = c.in_ok-composer.ensures.app in
    let free = ap is_simple_and_free is ∙ composer_is_free in
    let kind = kind_of c.in_err-matches.field-0.0 in
    let has : (kind ≡ kinds.OutOfMemory) ⊎ IsAmong kind (fault_of composer_app words) =
    subst (λ (a : App). (kind ≡ kinds.OutOfMemory) ⊎ IsAmong kind (fault_of a words)) is (c.in_err-matches.ensures.kinds free) in
    let p = err_from_is_err_and c.from_residual-in_err-matches.result c.from_residual-in_err-matches.ensures.1 in
    rw (p.1, p.2) (λ other. fails words kind has other)

pub returns : goal.returns
returns c =
    let words = map string_bytes c.args.words.now in
    let is = c.in_ok-composer.ensures.app in
    let free = ap is_simple_and_free is ∙ composer_is_free in
    let simple = ap is_simple is ∙ composer_is_simple in
    let none : fault_of composer_app words ≡ [] = ap (λ (a : App). fault_of a words) (sym is) ∙ c.in_ok-matches.ensures.kinds free in
    let found = c.in_ok-matches.ensures.matches simple in
    let meant = taken words _ _ none (found.0 ∙ ap (λ (a : App). matches_of a words) is) (found.1 ∙ ap (λ (a : App). subcommand_of a words) is) in
    subst (λ (wanted : Result Chosen WordsFault). GivesValue OutOfMemory wanted c.chosen.result) meant c.chosen.ensures
