use Rattle.std.proofs.Common.{◌≡◌, ◌∙◌, refl, sym, ap, inl, inr, arith, length, ◌+◌, []}
use Rattle.std.specs.Prelude.{None}
use Rattle.std.specs.List.{slice_get}
use Rattle.std.proofs.lemmas.Option.{slice_get_past, slice_get_read}
use Rattle.vendor_journal.proofs.PreparedParts.{part_at, pushed_get, pushed_length}
use Rattle.vendor_journal.proofs.prepared.prepare_parts.Goals as goal

pub targets-init : goal.targets-init
targets-init c = record {
  count = ap length c.new-parts.ensures.items;
  each = λ all j target part there found.
      let none : slice_get c.new-parts.result.items j ≡ None = ap (λ items. slice_get items j) c.new-parts.ensures.items ∙ slice_get_past [] j (omega arith) in
      absurd cc;
}

pub targets-preserved : goal.targets-preserved
targets-preserved c =
    let read = slice_get_read c.args.targets.now _ c.targets.number c.index-targets-number.result refl (omega arith) c.index-targets-number.is in
    record {
      count = ap length c.in_ok-push.ensures.items ∙ pushed_length _ _ ∙ ap (λ n. n + 1) c.targets.invariant.count;
      each = λ all j target part there found.
          elim (pushed_get _ _ j part (ap (λ items. slice_get items j) (sym c.in_ok-push.ensures.items) ∙ found)) [
            | inl earlier ↦ c.targets.invariant.each all j target part there earlier
            | inr last ↦ part_at c.args.project.now c.args.targets.now c.targets.number j c.index-targets-number.result target part _ (sym c.targets.invariant.count ∙ sym last.0) read there
                (c.in_ok-places.ensures (all c.targets.number c.index-targets-number.result read)) refl last.1
          ];
    }

pub returns : goal.returns
returns c = λ all. record { count = let count = c.targets.invariant.count in omega arith; each = λ number target part there found. c.targets.invariant.each all number target part there found }
