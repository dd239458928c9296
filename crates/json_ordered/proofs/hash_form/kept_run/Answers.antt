use Rattle.std.proofs.Common.{◌≡◌, ℕ, List, take, true, sym, ap, ◌∙◌, subst}
use Rattle.std.specs.List.{prefix_len, list_all}
use Rattle.std.specs.Str.{IsCharBoundary}
use Rattle.std.proofs.lemmas.List.Sums.{prefix_len-le-length}
use Rattle.json_ordered.specs.JsonPrinting.{is_kept}
use Rattle.json_ordered.proofs.Kept.{cut_behind_kept}
use Rattle.json_ordered.proofs.Runs.{all_of_run}
use Rattle.json_ordered.proofs.hash_form.kept_run.Goals as goal

pub split_at-requires : goal.split_at-requires
split_at-requires c =
    let len = c.run_len.ensures ∙ ap (prefix_len is_kept) c.as_bytes.ensures.value in
    subst (λ (n : ℕ). IsCharBoundary c.args.text.now n) (sym len) (cut_behind_kept c.args.text.now (prefix_len is_kept c.args.text.now) c.utf8.text (prefix_len-le-length is_kept c.args.text.now) (all_of_run is_kept c.args.text.now))

pub returns-clause-kept : goal.returns-clause-kept
returns-clause-kept c =
    let len = c.run_len.ensures ∙ ap (prefix_len is_kept) c.as_bytes.ensures.value in
    subst (λ (run : List ℕ). list_all is_kept run ≡ true) (sym (c.split_at.ensures.front ∙ ap (λ (n : ℕ). take n c.args.text.now) len)) (all_of_run is_kept c.args.text.now)
