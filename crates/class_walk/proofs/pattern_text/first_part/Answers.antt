use Rattle.std.proofs.Common.{◌+◌, take, refl, arith}
use Rattle.std.proofs.lemmas.List.{take_rest}
use Rattle.path_name.proofs.Joining.{no_slash, split_whole, split_parted, no_slash_before}
use Rattle.class_walk.proofs.pattern_text.first_part.Goals as goal

pub returns-in-None-clause-parts : goal.returns-in-None-clause-parts
returns-in-None-clause-parts c = split_whole c.args.text.now (no_slash c.args.text.now (λ k below. c.in-None.ensures k (omega arith) below))

pub returns-in-Some-clause-parts : goal.returns-in-Some-clause-parts
returns-in-Some-clause-parts c =
    let text = c.args.text.now in
    let end = c.in-Some.end in
    let front = split_whole (take end text) (no_slash_before text end c.in-Some.ensures.0.0 c.in-Some.ensures.1) in
    rw (take_rest text (end + 1), split_parted text end c.in-Some.ensures.0, front) refl
