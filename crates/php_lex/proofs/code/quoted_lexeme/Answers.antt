use Rattle.std.proofs.Common.{◌≡◌, ◌+◌, ◌-◌, List, ℕ, length, drop, ap, subst, sym, ◌∙◌, arith}
use Rattle.std.proofs.lemmas.List.{drop_all, drop-drop, length-drop}
use Rattle.php_lex.specs.Elements.{Ends}
use Rattle.php_lex.specs.Openings.{element_of}
use Rattle.php_lex.specs.Cut.{closed, unclosed}
use Rattle.php_lex.proofs.code.quoted_lexeme.Goals as goal

pub returns-in-Some : goal.returns-in-Some
returns-in-Some c =
    let text = c.args.text.now in
    let len = c.args.len in
    let more = c.in-Some.more in
    let el = element_of c.args.opening in
    let some = c.requires.0 in
    let within = c.requires.1 in
    let rest = c.split_at.result.1.now in
    let back : rest ≡ drop len text = c.split_at.ensures.back in
    let size : length rest ≡ length text - len = ap length back ∙ length-drop len text in
    let ends = c.in-Some.ensures in
    let fits = ends.0 in
    let at : drop more rest ≡ drop (len + more) text = ap (drop more) back ∙ drop-drop more len text in
    let y = subst (λ (t : List ℕ). Ends 32 el t (drop (len + more) text)) back (subst (λ (r : List ℕ). Ends 32 el rest r) at ends.1) in
    (omega arith, omega arith, closed c.requires.2 y)

pub returns-in-None : goal.returns-in-None
returns-in-None c =
    let text = c.args.text.now in
    let el = element_of c.args.opening in
    let some = c.requires.0 in
    let within = c.requires.1 in (
      omega arith,
      omega arith,
      unclosed c.requires.2 (λ other x. c.in-None.ensures other (subst (λ (t : List ℕ). Ends 32 el t other) (sym c.split_at.ensures.back) x)) (drop_all (length text) text (omega arith)),
    )
