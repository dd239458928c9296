use Rattle.std.proofs.Common.{◌||◌, sym, ◌∙◌}
use Rattle.php_decl.proofs.Tails.{no_tail, neither_left, neither_right}
use Rattle.php_decl.proofs.last_word.word_ends_at.Goals as goal

pub returns-then-not-is_tail : goal.returns-then-not-is_tail
returns-then-not-is_tail c = λ h. no_tail c.args.at c.args.text.now (sym c.is_tail.ensures ∙ c.if-not-is_tail.true)

pub returns : goal.returns
returns c = λ h.
    let a = c.ends_at.result in
    let b = c.ends_at-2.result in
    let d = c.ends_at-3.result in
    let e = c.ends_at-4.result in
    let front = neither_left (a || b) (d || e) h in
    let back = neither_right (a || b) (d || e) h in
    record { classes = c.ends_at.ensures (neither_left a b front); interfaces = c.ends_at-2.ensures (neither_right a b front); traits = c.ends_at-3.ensures (neither_left d e back); enums = c.ends_at-4.ensures (neither_right d e back) }
