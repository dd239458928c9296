use Rattle.std.proofs.Common.{ap, refl, sym, ◌∙◌, arith}
use Rattle.php_lex.proofs.OneCut.{cut_off, shorter}
use Rattle.php_decl.specs.Declarations.{solid}
use Rattle.php_decl.proofs.Solids.{solid_skips, solid_keeps, no_lexemes, place_after}
use Rattle.php_decl.proofs.ahead.next_solid.Goals as goal

pub returns-then-not-is_skipped-clause-next : goal.returns-then-not-is_skipped-clause-next
returns-then-not-is_skipped-clause-next c =
    let t = c.in-Some.ensures.takes in
    let less = shorter c.loop-lexeme.lexer c.next.new.self _ _ t in
    let before = c.loop-lexeme.invariant.shorter in
    record {
      on = λ lexemes x.
          let i = c.loop-lexeme.invariant.on lexemes x in
          let o = cut_off c.loop-lexeme.lexer c.next.new.self _ _ t i.0 i.1 in
          (o.0, o.1, i.2 ∙ ap solid o.2 ∙ solid_keeps _ o.0 (sym c.is_skipped.ensures ∙ c.if-not-is_skipped.true));
      shorter = omega arith;
      place = λ text e. place_after c.loop-lexeme.lexer c.next.new.self _ _ t text (c.loop-lexeme.invariant.place text e);
    }

pub loop-lexeme-preserved : goal.loop-lexeme-preserved
loop-lexeme-preserved c =
    let t = c.in-Some.ensures.takes in
    let less = shorter c.loop-lexeme.lexer c.next.new.self _ _ t in
    let before = c.loop-lexeme.invariant.shorter in
    record {
      shorter = omega arith;
      place = λ text e. place_after c.loop-lexeme.lexer c.next.new.self _ _ t text (c.loop-lexeme.invariant.place text e);
      on = λ lexemes x.
          let i = c.loop-lexeme.invariant.on lexemes x in
          let o = cut_off c.loop-lexeme.lexer c.next.new.self _ _ t i.0 i.1 in
          (o.0, o.1, i.2 ∙ ap solid o.2 ∙ solid_skips _ o.0 (sym c.is_skipped.ensures ∙ c.if-not-is_skipped.false));
    }

pub returns-clause-next : goal.returns-clause-next
returns-clause-next c = λ lexemes x.
    let i = c.loop-lexeme.invariant.on lexemes x in
    i.2 ∙ no_lexemes c.loop-lexeme.lexer (c.in_default.ensures.end.0 refl) i.0 i.1
