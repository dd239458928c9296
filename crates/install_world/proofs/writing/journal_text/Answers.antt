use Rattle.std.proofs.Common.{◌++◌, ap, ◌∙◌}
use Rattle.install_world.specs.Lines.{line}
use Rattle.install_world.specs.JournalText.{version_words, generation_words, target_lines, end_line}
use Rattle.install_world.specs.declared.version.Version.TheVariants.{Two}
use Rattle.install_world.proofs.TargetLines.{text_written}
use Rattle.install_world.proofs.writing.journal_text.Goals as goal

pub returns : goal.returns
returns c =
    text_written c.args.journal.now c.of.result
    (c.of.ensures ∙ c.in_ok-extend_from_slice.ensures.items
    ∙ ap (λ text. text ++ end_line)
    (c.in_ok-push_targets.ensures
    ∙ ap (λ targets. c.push_head.new.text.items ++ target_lines 0 targets) c.as_slice-targets.ensures
    ∙ ap (λ text. text ++ target_lines 0 c.args.journal.now.targets)
    (c.in_ok-push_head.ensures
    ∙ ap (λ text. text ++ (line (version_words Two) ++ line (generation_words c.args.journal.now.generation))) c.in_ok-text.ensures.items)))
