use Rattle.std.proofs.Common.{◌≡◌, Bool, ℕ, List, Option, false, [], drop, refl, sym, subst, arith}
use Rattle.std.specs.Borrow.{Bor}
use Rattle.php_lex.specs.Cut.{Standing, start_of}
use Rattle.php_decl.specs.Declarations.{is_member}
use Rattle.php_decl.specs.Quiet.{IsQuiet}
use Rattle.php_decl.specs.Words.{Behind, Visits, lex_of}
use Rattle.php_decl.proofs.Visited.{at_start, goes_on, stops, at_quiet}
use Rattle.php_decl.proofs.Tails.{quiet_later}
use Rattle.php_decl.proofs.names.declared_until.Goals as goal

pub loop-lexeme-init : goal.loop-lexeme-init
loop-lexeme-init c = record {
  place = subst (λ (s : Standing). s.rest ≡ drop s.at c.args.text.now) (sym c.new-lexer.ensures) refl;
  on = λ lexemes x.
      subst (λ (s : Standing). Behind s false [] c.new-names.result.items lexemes) (sym c.new-lexer.ensures)
      (subst (λ (n : List (List ℕ)). Behind (start_of c.args.text.now) false [] n lexemes) (sym c.new-names.ensures.items) (at_start c.args.text.now lexemes x));
}

pub returns-in-None : goal.returns-in-None
returns-in-None c = λ lexemes x.
    let l = c.loop-lexeme in
    stops l.lexer c.next_solid.new.lexer (lex_of c.in-Some.lexeme) l.behind_member l.namespace.now l.names.items c.visit.new.names.items lexemes c.in-Some.ensures.next (l.invariant.on lexemes x)
    (subst (λ (r : Option (Bor (List ℕ))). Visits (lex_of c.in-Some.lexeme) l.behind_member c.next_solid.new.lexer l.namespace.now l.names.items c.visit.new.names.items r) c.in-None.is c.in_ok-after.ensures)

pub loop-lexeme-preserved : goal.loop-lexeme-preserved
loop-lexeme-preserved c =
    let l = c.loop-lexeme in
    record {
      place = c.in-Some.ensures.next.place c.args.text.now l.invariant.place;
      on = λ lexemes x.
          subst (λ (m : Bool). Behind c.next_solid.new.lexer m c.in-Some-2.after.now c.visit.new.names.items lexemes) (sym c.is_member-behind_member.ensures)
          (goes_on l.lexer c.next_solid.new.lexer (lex_of c.in-Some.lexeme) l.behind_member l.namespace.now l.names.items c.visit.new.names.items lexemes c.in-Some.ensures.next (l.invariant.on lexemes x) c.in-Some-2.after
          (subst (λ (r : Option (Bor (List ℕ))). Visits (lex_of c.in-Some.lexeme) l.behind_member c.next_solid.new.lexer l.namespace.now l.names.items c.visit.new.names.items r) c.in-Some-2.is c.in_ok-after.ensures));
    }

pub returns-then-last-lexeme : goal.returns-then-last-lexeme
returns-then-last-lexeme c = λ lexemes x.
    let l = c.loop-lexeme in
    let text = c.args.text.now in
    let new = c.next_solid.new.lexer in
    let end_is = c.in-Some.ensures.end_place in
    at_quiet new (is_member c.in-Some.lexeme.kind) c.in-Some-2.after.now c.visit.new.names.items lexemes
    (goes_on l.lexer new (lex_of c.in-Some.lexeme) l.behind_member l.namespace.now l.names.items c.visit.new.names.items lexemes c.in-Some.ensures.next (l.invariant.on lexemes x) c.in-Some-2.after
    (subst (λ (r : Option (Bor (List ℕ))). Visits (lex_of c.in-Some.lexeme) l.behind_member new l.namespace.now l.names.items c.visit.new.names.items r) c.in-Some-2.is c.in_ok-after.ensures))
    (subst IsQuiet (sym (c.in-Some.ensures.next.place text l.invariant.place)) (quiet_later text c.args.last new.at (omega arith) c.requires))
