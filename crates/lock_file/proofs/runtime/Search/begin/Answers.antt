use Rattle.std.proofs.Common.{◌≡◌, ◌∙◌, ap, sym, subst, []}
use Rattle.plan_rules.specs.Sets.{set_of}
use Rattle.lock_file.specs.Searches.{with_links, IsSearch}
use Rattle.lock_file.proofs.Findings.{packages, begun, size, count}
use Rattle.lock_file.proofs.runtime.Search.begin.Goals as goal

pub returns-clause-begun : goal.returns-clause-begun
returns-clause-begun c =
    let plan = c.args.plan.now in
    let pool = plan.pool.now in
    let planned = c.as_slice.result.now in
    let is : planned ≡ set_of (count pool plan.members.now) plan.members.now = c.as_slice.ensures.value ∙ c.requires.marks in
    let all = packages pool plan.members.now in
    subst (IsSearch pool plan.members.now 0)
    (sym (c.in_ok-find_all.ensures.found all c.requires.index ∙ ap (λ found. with_links planned all found c.as_slice-2.result.now) c.new.ensures.items ∙ ap (with_links planned all []) c.as_slice-2.ensures))
    (begun pool plan.members.now planned is)

pub returns-clause-marks : goal.returns-clause-marks
returns-clause-marks c =
    let plan = c.args.plan.now in
    let pool = plan.pool.now in
    let planned = c.as_slice.result.now in
    let is : planned ≡ set_of (count pool plan.members.now) plan.members.now = c.as_slice.ensures.value ∙ c.requires.marks in
    c.in_ok-find_all.ensures.marks ∙ ap (λ n. set_of n c.find_all.new.self.found.items) (size pool plan.members.now planned is)
