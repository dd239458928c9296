use Rattle.std.proofs.Common.{◌<◌, ◌≤◌, length, ◌+◌, ◌^◌, rules}
use Rattle.std.specs.Io.Take.{take_limit}
use Rattle.tree_std.proofs.WholeReads.{whole_read}
use Rattle.tree_std.proofs.reading.bytes_of.Goals as goal

pub returns-clause-exact : goal.returns-clause-exact
returns-clause-exact g c =
    let first = c.in_ok-bytes.bytes.items in
    let items = c.read_to_end.new.buf.items in
    let within : length items ≤ c.args.most = search rules in
    let small : length items < 2 ^ 63 = search rules in
    let short : length items < take_limit c.take.result + length first = search rules in
    rw c.of.ensures
    (whole_read c.args.most (take_limit c.take.result) (g.F.Read.remaining c.args.file) (g.F.Read.remaining c.first_read.new.file) first items c.in_ok-bytes.ensures.bytes (search rules) within short)
