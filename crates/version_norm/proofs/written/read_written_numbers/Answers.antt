use Rattle.std.proofs.Common.{◌<◌, ◌^◌}
use Rattle.version_norm.proofs.SmallNumbers.{number_small, part_small}
use Rattle.version_norm.proofs.written.read_written_numbers.Goals as goal

pub returns-clause-small : goal.returns-clause-small
returns-clause-small c =
    let minor : c.unwrap_or.result < 10 ^ 18 = rw c.unwrap_or.ensures (part_small c.in_ok-major.rest.now c.in_ok-minor.minor c.in_ok-minor.rest.now c.in_ok-minor.ensures) in
    let release : c.unwrap_or-2.result < 10 ^ 18 = rw c.unwrap_or-2.ensures (part_small c.in_ok-minor.rest.now c.in_ok-release.release c.in_ok-release.rest.now c.in_ok-release.ensures) in
    let build : c.unwrap_or-3.result < 10 ^ 18 = rw c.unwrap_or-3.ensures (part_small c.in_ok-release.rest.now c.in_ok-build.build c.in_ok-build.rest.now c.in_ok-build.ensures) in
    (number_small c.args.most c.args.text.now c.in_ok-major.major c.in_ok-major.rest.now c.requires c.in_ok-major.ensures.exact, (minor, (release, (build, tt))))
