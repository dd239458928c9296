use Rattle.std.proofs.Common.{◌≡◌, false}
use Rattle.std.proofs.lemmas.Result.{IfOk-weaker}
use Rattle.lock_file.specs.InstalledText.{IsInstalledText}
use Rattle.dump_command.specs.Dumping.{none_installed}
use Rattle.dump_command.proofs.NoneInstalled.{none_text}
use Rattle.dump_command.proofs.dumping.none_installed.Goals as goal

pub returns : goal.returns
returns c =
    IfOk-weaker c.print_installed.result (λ text. IsInstalledText c.no_packages.result false text) (λ text. text ≡ none_installed)
    (λ text is. none_text c.no_packages.result text c.no_packages.ensures.packages is) c.print_installed.ensures.text
