use Rattle.std.proofs.Common.{◌≡◌, ◌∙◌, ap, sym, Some}
use Rattle.std.specs.List.{slice_get}
use Rattle.plan_rules.specs.Sets.{set_of}
use Rattle.lock_file.specs.Searches.{with_links}
use Rattle.lock_file.proofs.Findings.{packages, one_more, size, count, got_at}
use Rattle.lock_file.proofs.runtime.Search.go_on.Goals as goal

pub find_all-requires : goal.find_all-requires
find_all-requires c =
    let plan = c.args.plan.now in
    let pool = plan.pool.now in
    let planned = c.as_slice.result.now in
    let is : planned ≡ set_of (count pool plan.members.now) plan.members.now = c.as_slice.ensures.value ∙ c.requires.right.marks in
    c.loop-number.invariant.marks ∙ ap (λ n. set_of n c.loop-number.self.found.items) (sym (size pool plan.members.now planned is))

pub loop-number-preserved : goal.loop-number-preserved
loop-number-preserved c =
    let plan = c.args.plan.now in
    let pool = plan.pool.now in
    let planned = c.as_slice.result.now in
    let is : planned ≡ set_of (count pool plan.members.now) plan.members.now = c.as_slice.ensures.value ∙ c.requires.right.marks in
    let all = packages pool plan.members.now in
    let found = c.loop-number.self.found.items in
    let number = c.in-Some.number in
    let here : slice_get found c.loop-number.looked ≡ Some number = sym c.at.ensures ∙ c.in-Some.is in
    let got = got_at found c.loop-number.looked number here in
    record {
      search = one_more pool plan.members.now planned is c.loop-number.looked found c.find_all.new.self.found.items number got.0 got.1
          (c.in_ok-find_all.ensures.found all c.requires.right.index ∙ ap (with_links planned all found) c.requirements.ensures) c.loop-number.invariant.search;
      marks = c.in_ok-find_all.ensures.marks ∙ ap (λ n. set_of n c.find_all.new.self.found.items) (size pool plan.members.now planned is);
    }
