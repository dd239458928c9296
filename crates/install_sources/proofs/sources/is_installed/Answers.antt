use Rattle.std.proofs.Common.{refl}
use Rattle.std.specs.Str.{is_utf8, chars}
use Rattle.install_sources.proofs.sources.is_installed.Goals as goal

pub child-requires : goal.child-requires
unfolding is_utf8 chars lib.Utf8.encode
child-requires c = refl

pub child-requires-2 : goal.child-requires-2
unfolding is_utf8 chars lib.Utf8.encode
child-requires-2 c = refl
