use Rattle.std.proofs.Common.{[], refl, arith}
use Rattle.php_lex.proofs.OneCut.{cut_on, cut_end, shorter}
use Rattle.php_lex.proofs.cuts.lexeme_count.Goals as goal

pub loop-count-preserved : goal.loop-count-preserved
loop-count-preserved c =
    let t = c.in-Some.ensures.takes in
    let less = shorter c.loop-count.lexer c.next.new.self _ _ t in
    let left = c.loop-count.invariant.left in
    record {
      left = omega arith;
      cut = λ more x.
          let all = c.loop-count.invariant.cut _ (cut_on c.loop-count.lexer c.next.new.self _ _ t more x) in
          let size = all.2 in
          (all.0, all.1, omega arith);
    }

pub returns : goal.returns
returns c =
    let all = c.loop-count.invariant.cut [] (cut_end c.loop-count.lexer (c.in_default.ensures.end.0 refl)) in
    let size = all.2 in
    (all.0, all.1, omega arith)
