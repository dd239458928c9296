use Rattle.std.proofs.Common.{◌≡◌, ℕ, List, [], ◌∷◌, take, drop, true, sym, subst, ap, ◌∙◌, arith}
use Rattle.std.specs.List.{prefix_len, list_all}
use Rattle.std.proofs.lemmas.List.Sums.{prefix_len-le-length}
use Rattle.json_ordered.specs.Json.{is_plain}
use Rattle.json_ordered.specs.JsonSteps.{StopsPlain}
use Rattle.json_ordered.proofs.Runs.{Stops, all_of_run, behind_run}
use Rattle.json_ordered.proofs.string.plain_run.Goals as goal

stops_plain : (rest : List ℕ) → Stops is_plain rest → StopsPlain rest
stops_plain [] h = h
stops_plain (byte ∷ rest) h = h

pub split_at-requires : goal.split_at-requires
split_at-requires c = omega (arith, c.run_len.ensures, prefix_len-le-length is_plain c.args.text.now)

pub returns-clause-plain : goal.returns-clause-plain
returns-clause-plain c = subst (λ (run : List ℕ). list_all is_plain run ≡ true) (sym (c.split_at.ensures.front ∙ ap (λ (n : ℕ). take n c.args.text.now) c.run_len.ensures)) (all_of_run is_plain c.args.text.now)

pub returns-clause-stops : goal.returns-clause-stops
returns-clause-stops c = subst StopsPlain (sym (c.split_at.ensures.back ∙ ap (λ (n : ℕ). drop n c.args.text.now) c.run_len.ensures)) (stops_plain (drop (prefix_len is_plain c.args.text.now) c.args.text.now) (behind_run is_plain c.args.text.now))
