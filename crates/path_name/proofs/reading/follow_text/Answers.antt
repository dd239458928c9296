use Rattle.std.proofs.Common.{◌≡◌, ◌-◌, length, refl, arith}
use Rattle.path_name.specs.Paths.{followed}
use Rattle.path_name.proofs.reading.follow_text.Goals as goal

pub loop-rest-init : goal.loop-rest-init
unfolding followed
loop-rest-init c =
    let none : length c.args.text.now - length c.args.text.now ≡ 0 = omega arith in
    record {
      path = c.requires;
      within = omega arith;
      rest = rw none refl;
    }
