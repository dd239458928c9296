use Rattle.std.proofs.Common.{refl}
use Rattle.std.specs.Str.{chars, is_utf8}
use Rattle.install_sources.proofs.folders.vendor_folder.Goals as goal

pub child-requires : goal.child-requires
unfolding is_utf8 chars lib.Utf8.encode
child-requires c = refl
