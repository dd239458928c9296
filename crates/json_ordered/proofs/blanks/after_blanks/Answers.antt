use Rattle.std.proofs.Common.{ℕ, List, [], ◌∷◌, take, drop, sym, subst, arith}
use Rattle.std.specs.List.{prefix_len}
use Rattle.std.proofs.lemmas.List.{take-append-drop}
use Rattle.std.proofs.lemmas.List.Sums.{prefix_len-le-length}
use Rattle.path_name.specs.Bytes.{is_blank}
use Rattle.json_ordered.specs.JsonSteps.{NoBlank, Skips}
use Rattle.json_ordered.proofs.Runs.{Stops, all_of_run, behind_run}
use Rattle.json_ordered.proofs.blanks.after_blanks.Goals as goal

no_blank : (rest : List ℕ) → Stops is_blank rest → NoBlank rest
no_blank [] h = h
no_blank (byte ∷ rest) h = h

skips : (text : List ℕ) → Skips text (drop (prefix_len is_blank text) text)
skips text = record {
  blanks = take (prefix_len is_blank text) text;
  are_blanks = all_of_run is_blank text;
  parts = sym (take-append-drop (prefix_len is_blank text) text);
  stops = no_blank (drop (prefix_len is_blank text) text) (behind_run is_blank text);
}

pub split_at-requires : goal.split_at-requires
split_at-requires c = omega (arith, c.run_len.ensures, prefix_len-le-length is_blank c.args.text.now)

pub returns : goal.returns
returns c = subst (Skips c.args.text.now) (sym c.split_at.ensures.back) (subst (λ (n : ℕ). Skips c.args.text.now (drop n c.args.text.now)) (sym c.run_len.ensures) (skips c.args.text.now))
