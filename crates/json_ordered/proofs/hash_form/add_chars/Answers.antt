use Rattle.std.proofs.Common.{◌≡◌, ℕ, List, [], ◌++◌, length, sym, ap, ◌∙◌, append_assoc}
use Rattle.std.specs.List.{flat_map}
use Rattle.std.specs.Str.{chars}
use Rattle.std.specs.Char.{encode_utf8}
use Rattle.std.proofs.lemmas.Str.{chars-nil}
use Rattle.std.proofs.lemmas.List.{append-nil, nil_from_length}
use Rattle.json_ordered.specs.JsonTexts.{compact_char}
use Rattle.json_ordered.proofs.Kept.{behind_kept, behind_char}
use Rattle.json_ordered.proofs.hash_form.add_chars.Goals as goal

abbrev text_of : List ℕ → List ℕ
text_of t = flat_map compact_char (chars t)

-- the end was reached
at_end : (out now all end kept text : List ℕ) → out ++ text_of text ≡ all → text_of text ≡ kept ++ text_of end → end ≡ [] → now ≡ out ++ kept → now ≡ all
at_end out now all end kept text so_far parts none is =
    is ∙ ap (λ (t : List ℕ). out ++ t) (sym (append-nil kept) ∙ ap (λ (t : List ℕ). kept ++ t) (sym (ap text_of none ∙ ap (flat_map compact_char) chars-nil)) ∙ sym parts) ∙ so_far

-- a run and a character were taken
taken : (out mid now all end kept text rest c : List ℕ) → out ++ text_of text ≡ all → text_of text ≡ kept ++ text_of end → text_of end ≡ c ++ text_of rest → mid ≡ out ++ kept → now ≡ mid ++ c → now ++ text_of rest ≡ all
taken out mid now all end kept text rest c so_far parts next is has =
    ap (λ (t : List ℕ). t ++ text_of rest) (has ∙ ap (λ (t : List ℕ). t ++ c) is) ∙ append_assoc (out ++ kept) c (text_of rest) ∙ append_assoc out kept (c ++ text_of rest)
    ∙ ap (λ (t : List ℕ). out ++ t) (ap (λ (t : List ℕ). kept ++ t) (sym next) ∙ sym parts) ∙ so_far

pub kept_run-requires-text-text : goal.kept_run-requires-text-text
kept_run-requires-text-text c = λ _. c.loop-left.invariant.utf8

pub returns-in_default : goal.returns-in_default
returns-in_default c = at_end c.loop-left.out.items c.extend_from_slice.new.self.items _ c.kept_run.result.1.now c.kept_run.result.0.now c.loop-left.rest.now c.loop-left.invariant.text
    (behind_kept c.loop-left.rest.now c.kept_run.result.0.now c.kept_run.result.1.now c.kept_run.ensures.parts c.kept_run.ensures.kept)
    (nil_from_length c.kept_run.result.1.now (ap length (sym c.chars-left.ensures.rest) ∙ c.in_default.ensures.steps.0.0)) (c.in_ok-extend_from_slice.ensures.items ∙ ap (λ t. c.loop-left.out.items ++ t) c.as_bytes.ensures.value)

pub loop-left-preserved : goal.loop-left-preserved
loop-left-preserved c = record {
  utf8 = c.as_str-rest.utf8;
  text = taken c.loop-left.out.items c.extend_from_slice.new.self.items c.add_char.new.out.items _ c.kept_run.result.1.now c.kept_run.result.0.now c.loop-left.rest.now c.as_str-rest.result.now (compact_char c.in-Some.c) c.loop-left.invariant.text
      (behind_kept c.loop-left.rest.now c.kept_run.result.0.now c.kept_run.result.1.now c.kept_run.ensures.parts c.kept_run.ensures.kept)
      (behind_char c.kept_run.result.1.now c.as_str-rest.result.now c.in-Some.c c.kept_run.ensures.utf8 (sym c.chars-left.ensures.rest ∙ c.in-Some.ensures.steps.0 ∙ ap (λ t. encode_utf8 c.in-Some.c ++ t) (sym c.as_str-rest.ensures)))
      (c.in_ok-extend_from_slice.ensures.items ∙ ap (λ t. c.loop-left.out.items ++ t) c.as_bytes.ensures.value)
      c.in_ok-add_char.ensures;
}
