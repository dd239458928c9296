use Rattle.std.proofs.Common.{◌≡◌, ◌<◌, ◌+◌, ◌-◌, List, ℕ, Bool, ◌&&◌, true, false, ◌==◌, refl, length, drop, Some, sym, ap, ◌∙◌, [], ◌∷◌, arith}
use Rattle.std.proofs.lemmas.List.{drop-drop, length-drop}
use Rattle.php_lex.specs.Quotes.{labelled}
use Rattle.php_lex.proofs.Openings.{labelled_yes, labelled_no}
use Rattle.php_lex.proofs.Firsts.{first_within}
use Rattle.php_lex.proofs.opening.quoted_label.Goals as goal

front_true : (a b d : Bool) → (a && b) && d ≡ true → b ≡ true
front_true true true d h = refl
front_true true false d h = absurd cc
front_true false b d h = absurd cc

pub returns-then-starts_identifier_at-has_at : goal.returns-then-starts_identifier_at-has_at
returns-then-starts_identifier_at-has_at c =
    let text = c.args.text.now in
    let inside = c.split_at.result.1.now in
    let len = c.identifier_len-len.result in
    let back : inside ≡ drop 1 text = c.split_at.ensures.back in
    let size : length inside ≡ length text - 1 = ap length back ∙ length-drop 1 text in
    let lt : len < length inside = first_within (λ b. b == c.args.quote) len inside (sym c.has_at.ensures ∙ front_true c.starts_identifier_at.result c.has_at.result c.has_line_end_at.result c.if-starts_identifier_at-has_at.true) in (
      omega arith,
      omega arith,
      λ kind.
          ap (labelled (c.args.quote ∷ []) kind) (sym back)
          ∙ labelled_yes c.args.quote inside len c.identifier_len-len.ensures.run c.identifier_len-len.ensures.rest _ _ _ c.starts_identifier_at.ensures c.has_at.ensures c.has_line_end_at.ensures kind c.if-starts_identifier_at-has_at.true
          ∙ ap (λ (name : List ℕ). Some (record { element = kind name; inside = drop (len + 1) inside })) (sym c.split_at-then-starts_identifier_at-has_at.ensures.front)
          ∙ ap (λ (r : List ℕ). Some (record { element = kind c.split_at-then-starts_identifier_at-has_at.result.0.now; inside = r })) (ap (drop (len + 1)) back ∙ drop-drop (len + 1) 1 text ∙ ap (λ (n : ℕ). drop n text) (let e : 1 + (len + 1) ≡ len + 2 = omega arith in e)),
    )

pub returns-else-starts_identifier_at-has_at : goal.returns-else-starts_identifier_at-has_at
returns-else-starts_identifier_at-has_at c = λ kind.
    ap (labelled (c.args.quote ∷ []) kind) (sym c.split_at.ensures.back)
    ∙ labelled_no c.args.quote c.split_at.result.1.now c.identifier_len-len.result c.identifier_len-len.ensures.run c.identifier_len-len.ensures.rest _ _ _ c.starts_identifier_at.ensures c.has_at.ensures c.has_line_end_at.ensures kind c.if-starts_identifier_at-has_at.false
