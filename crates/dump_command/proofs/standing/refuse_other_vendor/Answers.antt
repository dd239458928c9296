use Rattle.std.proofs.Common.{refl}
use Rattle.std.specs.Str.{chars, is_utf8}
use Rattle.dump_command.proofs.standing.refuse_other_vendor.Goals as goal

pub child-requires : goal.child-requires
unfolding is_utf8 chars lib.Utf8.encode
child-requires g c = refl
