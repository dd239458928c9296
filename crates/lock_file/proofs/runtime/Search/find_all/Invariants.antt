use Rattle.std.proofs.Common.{◌≡◌, List, length, drop}
use Rattle.manifest_read.specs.declared.types.Package.{Package}
use Rattle.plan_rules.specs.Sets.{set_of}
use Rattle.plan_rules.specs.Offers.{IsIndexOf}
use Rattle.lock_file.specs.Searches.{with_links}
use Rattle.lock_file.proofs.runtime.Search.find_all.Given as goal

abbrev pub invariant-loop-need : goal.invariant-loop-need
invariant-loop-need l = record {
  found : (list : List Package) → IsIndexOf l.index list → with_links l.planned list l.self.found.items (drop l.need-index l.needs) ≡ with_links l.planned list l.fn.self.found.items l.needs;
  marks : l.self.marks.items ≡ set_of (length l.planned) l.self.found.items;
}
