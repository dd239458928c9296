use Rattle.std.proofs.Common.{◌+◌, eqb, get_or, ap, arith}
use Rattle.std.proofs.lemmas.Bool.{eqb-true}
use Rattle.std.proofs.lemmas.List.{take_rest}
use Rattle.install_world.proofs.FirstLine.{one_line, one_line_before, parted}
use Rattle.install_world.proofs.lines.first_line.Goals as goal

pub returns-in-None : goal.returns-in-None
returns-in-None c = one_line c.args.text.now (λ k below e. c.in-None.ensures k (omega arith) below (ap (λ n. eqb n 10) e))

pub returns-in-Some : goal.returns-in-Some
returns-in-Some c =
    let text = c.args.text.now in
    let end = c.in-Some.end in
    let found = c.in-Some.ensures in (
      one_line_before text end found.0.high (λ k below e. found.0.before k (omega arith) below (ap (λ n. eqb n 10) e)),
      rw (take_rest text (end + 1)) (parted text end found.0.high (eqb-true (get_or text end 0) 10 found.1)),
    )
