use Rattle.std.proofs.Common.{refl}
use Rattle.std.proofs.lemmas.Result.{err_from_is_err_and}
use Rattle.manifest_read.specs.Manifests.{manifest_from}
use Rattle.manifest_read.proofs.document.manifest_from.Goals as goal

pub returns-in_err-settings : goal.returns-in_err-settings
unfolding manifest_from
returns-in_err-settings c =
    let p = err_from_is_err_and c.from_residual-in_err-settings.result c.from_residual-in_err-settings.ensures.1 in
    rw (p.1, p.2) (λ ne. rw (
      c.in_ok-name.ensures,
      c.in_ok-kind.ensures,
      c.in_ok-require.ensures,
      c.in_ok-require_dev.ensures,
      c.in_ok-others.ensures,
      c.in_ok-autoload.ensures,
      c.in_ok-autoload_dev.ensures,
      c.in_err-settings.ensures ne,
    ) refl)

pub returns-in_err-plain_package : goal.returns-in_err-plain_package
unfolding manifest_from
returns-in_err-plain_package c =
    let p = err_from_is_err_and c.from_residual-in_err-plain_package.result c.from_residual-in_err-plain_package.ensures.1 in
    rw (p.1, p.2) (λ ne. rw (
      c.in_ok-name.ensures,
      c.in_ok-kind.ensures,
      c.in_ok-require.ensures,
      c.in_ok-require_dev.ensures,
      c.in_ok-others.ensures,
      c.in_ok-autoload.ensures,
      c.in_ok-autoload_dev.ensures,
      c.in_ok-settings.ensures,
      c.in_err-plain_package.ensures ne,
    ) refl)
