use Rattle.std.proofs.Common.{◌≡◌, ℕ, List, [], ◌∷◌, ◌++◌, sym, ap, ◌∙◌, append_assoc}
use Rattle.std.specs.List.{flat_map}
use Rattle.std.proofs.lemmas.List.{append-nil, nil_from_length}
use Rattle.json_ordered.specs.JsonTexts.{pretty_byte, pretty_string}
use Rattle.json_ordered.proofs.Kept.{behind_plain}
use Rattle.json_ordered.proofs.pretty.add_string.Goals as goal

abbrev text_of : List ℕ → List ℕ
text_of t = flat_map pretty_byte t

-- the end was reached, and a `"` added
at_end : (out mid now begin text run end rest : List ℕ) → out ++ text_of rest ≡ (begin ++ 34 ∷ []) ++ text_of text → text_of rest ≡ run ++ text_of end → end ≡ [] → mid ≡ out ++ run → now ≡ mid ++ 34 ∷ [] → now ≡ begin ++ pretty_string text
unfolding pretty_string
at_end out mid now begin text run end rest so_far parts none is has =
    has ∙ ap (λ (t : List ℕ). t ++ 34 ∷ []) (is ∙ ap (λ (t : List ℕ). out ++ t) (sym (append-nil run) ∙ ap (λ (t : List ℕ). run ++ t) (sym (ap text_of none)) ∙ sym parts) ∙ so_far)
    ∙ append_assoc (begin ++ 34 ∷ []) (text_of text) (34 ∷ []) ∙ append_assoc begin (34 ∷ []) (text_of text ++ 34 ∷ [])

-- a run and a byte were taken
taken : (out mid now all end run rest after : List ℕ) (byte : ℕ) → out ++ text_of rest ≡ all → text_of rest ≡ run ++ text_of end → end ≡ byte ∷ after → mid ≡ out ++ run → now ≡ mid ++ pretty_byte byte → now ++ text_of after ≡ all
taken out mid now all end run rest after byte so_far parts next is has =
    ap (λ (t : List ℕ). t ++ text_of after) (has ∙ ap (λ (t : List ℕ). t ++ pretty_byte byte) is) ∙ append_assoc (out ++ run) (pretty_byte byte) (text_of after) ∙ append_assoc out run (pretty_byte byte ++ text_of after)
    ∙ ap (λ (t : List ℕ). out ++ t) (ap (λ (t : List ℕ). run ++ text_of t) (sym next) ∙ sym parts) ∙ so_far

pub returns : goal.returns
returns c = at_end c.loop-byte.out.items c.extend_from_slice.new.self.items c.push-2.new.self.items c.args.out.now.items c.args.text.now c.plain_run.result.0.now c.plain_run.result.1.now c.loop-byte.rest.now c.loop-byte.invariant
    (behind_plain c.loop-byte.rest.now c.plain_run.result.0.now c.plain_run.result.1.now c.plain_run.ensures.parts c.plain_run.ensures.plain)
    (nil_from_length c.plain_run.result.1.now c.in_default.ensures.cases) c.in_ok-extend_from_slice.ensures.items c.in_ok-push-2.ensures.items

pub loop-byte-preserved : goal.loop-byte-preserved
loop-byte-preserved c = taken c.loop-byte.out.items c.extend_from_slice.new.self.items c.add_byte.new.out.items _ c.plain_run.result.1.now c.plain_run.result.0.now c.loop-byte.rest.now c.in-Some.after.now c.in-Some.byte.now c.loop-byte.invariant
    (behind_plain c.loop-byte.rest.now c.plain_run.result.0.now c.plain_run.result.1.now c.plain_run.ensures.parts c.plain_run.ensures.plain)
    c.in-Some.ensures.cases.0 c.in_ok-extend_from_slice.ensures.items c.in_ok-add_byte.ensures
