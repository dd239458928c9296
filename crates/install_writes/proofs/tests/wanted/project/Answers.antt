use Rattle.std.proofs.Common.{refl}
use Rattle.std.specs.Str.{is_utf8, chars}
use Rattle.install_writes.proofs.tests.wanted.project.Goals as goal

pub child-requires : goal.child-requires
unfolding is_utf8 chars lib.Utf8.encode
child-requires c = refl
