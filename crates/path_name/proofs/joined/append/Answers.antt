use Rattle.std.proofs.Common.{◌≡◌, length, rules}
use Rattle.path_name.proofs.Joining.{segments_of-appended, front_of-set_off}
use Rattle.path_name.proofs.joined.append.Goals as goal

pub returns-in-Ok : goal.returns-in-Ok
returns-in-Ok c = record {
  added = rw (c.in-Ok.ensures.items, c.in_ok-set_off.ensures.set_off) (segments_of-appended c.args.joined.now.items c.args.segment.now c.requires);
  kept = tt;
}

pub returns-in-Err : goal.returns-in-Err
returns-in-Err c =
    let len : c.len-len.result ≡ length c.args.joined.now.items = search rules in
    record {
      added = tt;
      kept = rw (c.truncate.ensures.items, c.in-Err.ensures.items, c.in_ok-set_off.ensures.set_off, len) (front_of-set_off c.args.joined.now.items);
    }
