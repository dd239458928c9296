use Rattle.std.proofs.Common.{◌≡◌, ◌+◌, ◌<◌, ◌++◌, [], ◌∷◌, length, ap, ◌∙◌, subst, sym, refl, arith}
use Rattle.std.proofs.lemmas.List.{length-append}
use Rattle.php_lex.specs.Pieces.{IsPiece}
use Rattle.php_lex.specs.Stacks.{innermost, HasRoom}
use Rattle.php_lex.proofs.OpenElements.{pass, open_brace, open_quoted, open_deep, room_less, room_push}
use Rattle.php_lex.proofs.nested.follow.Goals as goal

pub close-requires-clause-piece : goal.close-requires-clause-piece
close-requires-clause-piece c = subst (IsPiece (innermost c.args.top) c.args.text.now) c.in-Closed.is c.requires.piece

pub returns-in-Plain : goal.returns-in-Plain
returns-in-Plain c =
    let p = subst (IsPiece (innermost c.args.top) c.args.text.now) c.in-Plain.is c.requires.piece in
    let some = p.some in
    let room = c.requires.top_room in
    record {
      some = p.some;
      within = p.within;
      levels = c.requires.levels;
      room = room_less _ _ c.args.below.now.items (omega arith) c.requires.room;
      top_room = omega arith;
      same = pass c.args.top c.args.below.now.items c.args.text.now c.in-Plain.len p;
    }

pub returns-in-Nested : goal.returns-in-Nested
returns-in-Nested c =
    let a = subst (IsPiece (innermost c.args.top) c.args.text.now) c.in-Nested.is c.requires.piece in
    let some = a.some in
    let within = a.within in
    let room = c.requires.top_room in
    record {
      some = a.some;
      within = a.within;
      levels = c.requires.levels;
      room = room_less _ _ c.args.below.now.items (omega arith) c.requires.room;
      top_room = omega arith;
      same = open_brace c.args.top c.args.below.now.items c.args.text.now c.in-Nested.len a;
    }

pub returns-in-Ok : goal.returns-in-Ok
returns-in-Ok c =
    let a = subst (IsPiece (innermost c.args.top) c.args.text.now) c.in-Quoted.is c.requires.piece in
    let below = c.args.below.now.items in
    let more = c.try_push.new.self.items in
    let e : more ≡ below ++ c.args.top ∷ [] = c.in-Ok.ensures.ok in
    let size : length more ≡ length below + 1 = ap length e ∙ length-append below (c.args.top ∷ []) in
    let lt : length below < 32 = c.in-Ok.ensures.variant.0 refl in
    let some = a.some in
    let within = a.within in
    let room = c.requires.top_room in
    record {
      some = a.some;
      within = a.within;
      levels = omega arith;
      room = subst (HasRoom _) (sym e) (room_push _ below c.args.top (room_less _ _ below (omega arith) c.requires.room) (omega arith));
      top_room = let fits = c.type_inv.text in omega arith;
      same = open_quoted c.args.top below more c.in-Quoted.opening c.args.text.now c.in-Quoted.len e lt a;
    }

pub returns-in-Err : goal.returns-in-Err
returns-in-Err c =
    let a = subst (IsPiece (innermost c.args.top) c.args.text.now) c.in-Quoted.is c.requires.piece in
    let full = c.in-Err.ensures.full in
    open_deep c.args.top c.args.below.now.items c.in-Quoted.opening c.args.text.now c.in-Quoted.len (omega arith) a
