use Rattle.std.proofs.Common.{◌≡◌, ◌∙◌, IfOk, None, length, ap, sym, subst}
use Rattle.std.proofs.lemmas.List.{length-reverse}
use Rattle.tree_dev.specs.Disk.{reading}
use Rattle.tree_dev.specs.Memory.{crashed}
use Rattle.tree_dev.specs.Remade.{safe_at}
use Rattle.tree_dev.proofs.TornChanges.{crashed_whole}
use Rattle.tree_dev.proofs.remade.Remade.settled.Goals as goal

pub returns : goal.returns
returns c =
    let all : c.len-all.result ≡ length c.args.self.pending =
    c.len-all.ensures ∙ c.self.inside.pending.ok.0 ∙ sym (length-reverse c.self.inside.pending.items) ∙ ap (λ d. length d.pending) c.self.view_is in
    let whole : crashed c.args.self c.len-all.result None ≡ reading c.args.self = ap (λ n. crashed c.args.self n None) all ∙ crashed_whole c.args.self in
    subst (λ t. IfOk c.crashed.result (λ after. after ≡ safe_at t)) whole c.crashed.ensures
