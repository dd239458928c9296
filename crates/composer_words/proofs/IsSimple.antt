-- The command line is a simple command, so clap's answers to it are known.
use Rattle.std.proofs.Common.{◌≡◌, true, refl}
use Rattle.clap.specs.Words.{is_simple, is_simple_and_free}
use Rattle.clap.proofs.OnLiterals.{clap_on_literals}
use Rattle.composer_words.specs.SimpleCommand.{composer_app}

pub composer_is_simple : is_simple composer_app ≡ true
unfolding composer_app clap_on_literals
composer_is_simple = refl

pub composer_is_free : is_simple_and_free composer_app ≡ true
unfolding composer_app clap_on_literals
composer_is_free = refl
