-- Pieces written one after the other.
use Rattle.std.proofs.Common.{ℕ, List, ◌++◌, Option, Some, None, sym, ap, ◌∙◌, append_assoc}
use Rattle.std.specs.Io.KnownBytes.{Appends}
use Rattle.tree_std.specs.Writing.{AppendsUpTo}

appends_both : (a b d : Option (List ℕ)) (first second : List ℕ) → Appends a b first → Appends b d second → Appends a d (first ++ second)
appends_both None b d first second p q = tt
appends_both (Some xs) None d first second p q = absurd p
appends_both (Some xs) (Some ys) None first second p q = absurd q
appends_both (Some xs) (Some ys) (Some zs) first second p q = q ∙ ap (λ front. front ++ second) p ∙ append_assoc xs first second

-- one write more
pub more_written : (a b d : Option (List ℕ)) (piece left less : List ℕ) → AppendsUpTo a b piece left → AppendsUpTo b d left less → AppendsUpTo a d piece less
more_written a b d piece left less p q = record {
  part = p.part ++ q.part;
  parts = p.parts ∙ ap (λ back. p.part ++ back) q.parts ∙ sym (append_assoc p.part q.part less);
  appends = appends_both a b d p.part q.part p.appends q.appends;
}
