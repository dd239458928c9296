use Rattle.std.proofs.Common.{◌∙◌, ◌||◌, ap₂}
use Rattle.clap.specs.Words.{with_rule}
use Rattle.composer_words.proofs.simple_command.with_ways.Goals as goal

pub returns : goal.returns
returns c = record {
  app = c.in_ok-command.ensures.shape c.long_flag-no_dev.ensures.local
      ∙ ap₂ with_rule (c.in_ok-arg-2.ensures.shape c.short_flag-authoritative.ensures.local
      ∙ ap₂ with_rule (c.in_ok-arg.ensures.shape c.short_flag-optimised.ensures.local
      ∙ ap₂ with_rule c.new.ensures.app c.short_flag-optimised.ensures.rule)
      c.short_flag-authoritative.ensures.rule)
      c.long_flag-no_dev.ensures.rule;
  local = c.in_ok-command.ensures.globals
      ∙ ap₂ ◌||◌ (c.in_ok-arg-2.ensures.globals
      ∙ ap₂ ◌||◌ (c.in_ok-arg.ensures.globals
      ∙ ap₂ ◌||◌ c.new.ensures.local c.short_flag-optimised.ensures.local)
      c.short_flag-authoritative.ensures.local)
      c.long_flag-no_dev.ensures.local;
}
