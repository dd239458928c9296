use Rattle.std.proofs.Common.{◌≡◌, ◌∙◌, ap, ap₂}
use Rattle.clap.specs.Words.{App, with_subcommand}
use Rattle.composer_words.specs.SimpleCommand.{composer_app}
use Rattle.composer_words.proofs.simple_command.composer.Goals as goal

-- the rules of a command, from those of its whole command line
top_is : {a b : App} → a ≡ b → a.top ≡ b.top
top_is e = ap (λ (a : App). a.top) e

pub returns : goal.returns
unfolding composer_app
returns c = record {
  app = c.in_ok-commands.ensures.shape c.in_ok-with_word-2.ensures.local
      ∙ ap₂ with_subcommand (c.in_ok-subcommand-7.ensures.shape c.new-3.ensures.local
      ∙ ap₂ with_subcommand (c.in_ok-subcommand-6.ensures.shape c.new-2.ensures.local
      ∙ ap₂ with_subcommand (c.in_ok-subcommand-5.ensures.shape c.new.ensures.local
      ∙ ap₂ with_subcommand (c.in_ok-subcommand-4.ensures.shape c.in_ok-with_word.ensures.local
      ∙ ap₂ with_subcommand (c.in_ok-subcommand-3.ensures.shape c.in_ok-with_ways-3.ensures.local
      ∙ ap₂ with_subcommand (c.in_ok-subcommand-2.ensures.shape c.in_ok-with_ways-2.ensures.local
      ∙ ap₂ with_subcommand (c.in_ok-subcommand.ensures.shape c.in_ok-with_ways.ensures.local
      ∙ ap₂ with_subcommand c.in_ok-with_options.ensures.app (top_is c.in_ok-with_ways.ensures.app))
      (top_is c.in_ok-with_ways-2.ensures.app))
      (top_is c.in_ok-with_ways-3.ensures.app))
      (top_is c.in_ok-with_word.ensures.app))
      (top_is c.new.ensures.app))
      (top_is c.new-2.ensures.app))
      (top_is c.new-3.ensures.app))
      (top_is c.in_ok-with_word-2.ensures.app);
}
