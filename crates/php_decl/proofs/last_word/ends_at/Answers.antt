use Rattle.std.proofs.Common.{◌≡◌, ◌+◌, ◌-◌, ℕ, length, drop, ap, sym, ◌∙◌, arith}
use Rattle.php_decl.specs.Quiet.{stands_at}
use Rattle.php_decl.proofs.last_word.ends_at.Goals as goal

pub returns : goal.returns
returns c = λ h j e.
    let text = c.args.text.now in
    let word = c.args.word.now in
    let same : j ≡ c.args.at + 2 - length word = omega arith in
    ap (stands_at word) (ap (λ (n : ℕ). drop n text) same ∙ sym c.split_at.ensures.back) ∙ sym c.stands_at.ensures ∙ h
