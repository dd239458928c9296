use Rattle.std.proofs.Common.{◌≡◌, ◌+◌, ◌++◌, [], ◌∷◌, length, ap, ◌∙◌, subst, List, true, false, arith}
use Rattle.std.proofs.lemmas.List.{length-append}
use Rattle.php_lex.specs.declared.nested.Open.{Open}
use Rattle.php_lex.specs.Stacks.{HasRoom}
use Rattle.php_lex.proofs.OpenElements.{close_brace, close_outer, close_last, room_less, room_pop, empty_of}
use Rattle.php_lex.proofs.nested.close.Goals as goal

pub returns-then-top-gt0 : goal.returns-then-top-gt0
returns-then-top-gt0 c =
    let a = c.requires.piece in
    let some = a.some in
    let room = c.requires.top_room in
    record {
      some = a.some;
      within = a.within;
      levels = c.requires.levels;
      room = room_less _ _ c.args.below.now.items (omega arith) c.requires.room;
      top_room = omega arith;
      same = close_brace c.args.top c.args.below.now.items c.args.text.now c.args.len a c.if-top-gt0.true;
    }

pub returns-in-Some : goal.returns-in-Some
returns-in-Some c =
    let a = c.requires.piece in
    let below = c.args.below.now.items in
    let left = c.pop.new.self.items in
    let outer = c.in-Some.outer in
    let e : below ≡ left ++ outer ∷ [] = c.in-Some.ensures.items in
    let size : length below ≡ length left + 1 = ap length e ∙ length-append left (outer ∷ []) in
    let fits = c.requires.levels in
    let rooms = room_pop (length c.args.text.now) left outer (subst (λ (b : List Open). HasRoom (length c.args.text.now) b) e c.requires.room) in
    let room = rooms.1 in
    record {
      some = a.some;
      within = a.within;
      levels = omega arith;
      room = room_less _ _ left (omega arith) rooms.0;
      top_room = omega arith;
      same = close_outer c.args.top below left outer c.args.text.now c.args.len e fits a c.if-top-gt0.false;
    }

absurd_bool : false ≡ true → ⊥
absurd_bool h = cc

pub returns-in-None : goal.returns-in-None
returns-in-None c =
    let a = c.requires.piece in
    record {
      some = a.some;
      within = a.within;
      ends = close_last c.args.top c.args.below.now.items c.args.text.now c.args.len (empty_of c.args.below.now.items (λ h. absurd_bool (c.in-None.ensures.variant.1 h))) a c.if-top-gt0.false;
    }
