use Rattle.std.proofs.Common.{◌≡◌, ◌+◌, ◌-◌, List, ℕ, length, drop, ap, ◌∙◌, subst, arith}
use Rattle.std.proofs.lemmas.List.{drop_all, drop-drop, length-drop}
use Rattle.php_lex.specs.Elements.{Ends, close}
use Rattle.php_lex.specs.Openings.{element_of}
use Rattle.php_lex.proofs.Ends.{never}
use Rattle.php_lex.proofs.nested.quoted_len.Goals as goal

pub returns-in-Closed : goal.returns-in-Closed
returns-in-Closed c =
    let text = c.args.text.now in
    let at = c.loop-at.at in
    let len = c.in-Closed.len in
    let el = element_of c.args.opening in
    let rest = c.split_at.result.1.now in
    let back = c.split_at.ensures.back in
    let a = c.in-Closed.ensures in
    let within = a.within in
    let size : length rest ≡ length text - at = ap length back ∙ length-drop at text in
    let e : drop len rest ≡ drop (at + len) text = ap (drop len) back ∙ drop-drop len at text in
    let x : Ends 32 el rest (drop len rest) = a.same.back 32 (drop len rest) (close a.is_piece) in
    let y = subst (λ (t : List ℕ). Ends 32 el t (drop (at + len) text)) back (subst (λ (r : List ℕ). Ends 32 el rest r) e x) in
    (omega arith, c.loop-at.invariant.same.back 32 (drop (at + len) text) y)

pub returns : goal.returns
returns c = λ rest x.
    never (subst (λ (t : List ℕ). Ends 32 (element_of c.args.opening) t rest) (drop_all c.loop-at.at c.args.text.now (omega arith)) (c.loop-at.invariant.same.on 32 rest x))
