use Rattle.std.proofs.Common.{◌≡◌, Some, None, ◌<◌, ◌∷◌, [], cond, length, sym, ap, map, ◌∙◌, arith}
use Rattle.std.specs.BTreeMap.{get}
use Rattle.std.specs.Ordering.{is_eq}
use Rattle.std.proofs.lemmas.List.{map-append, length-map}
use Rattle.path_name.specs.Orders.{byte_cmp}
use Rattle.table_scan.specs.Repeats.{place_of}
use Rattle.table_scan.proofs.KeyOrder.{missing_kept, found_kept, found_keys, found_within, place_added}
use Rattle.table_scan.proofs.repeats.put_all.Goals as goal

pub index_mut-requires : goal.index_mut-requires
index_mut-requires g c =
    let key = g.R.Keyed.key_of in
    let found : place_of (key c.in-Some.row) (map key c.loop-row.kept.items) ≡ Some c.in-Some-place.place =
    sym (c.loop-row.invariant.places (key c.in-Some.row)) ∙ ap (λ k. get byte_cmp c.loop-row.places k) (sym c.key.ensures) ∙ sym c.get.ensures.value ∙ sym c.in-Some-place.ensures in
    let l : c.in-Some-place.place < length c.loop-row.kept.items = found_within key c.loop-row.kept.items c.in-Some.row c.in-Some-place.place found in
    omega (arith, l, c.loop-row.kept.ok.0)

pub loop-row-preserved-in-Some-place : goal.loop-row-preserved-in-Some-place
loop-row-preserved-in-Some-place g c =
    let key = g.R.Keyed.key_of in
    let found : place_of (key c.in-Some.row) (map key c.loop-row.kept.items) ≡ Some c.in-Some-place.place =
    sym (c.loop-row.invariant.places (key c.in-Some.row)) ∙ ap (λ k. get byte_cmp c.loop-row.places k) (sym c.key.ensures) ∙ sym c.get.ensures.value ∙ sym c.in-Some-place.ensures in
    record {
      kept = found_kept key c.loop-row.kept.items c.loop-row.yielded c.in-Some.row c.in-Some-place.place c.loop-row.invariant.kept found;
      places = λ q. c.loop-row.invariant.places q ∙ ap (place_of q) (sym (found_keys key c.loop-row.kept.items c.in-Some.row c.in-Some-place.place found));
    }

pub loop-row-preserved : goal.loop-row-preserved
loop-row-preserved g c =
    let key = g.R.Keyed.key_of in
    let none : place_of (key c.in-Some.row) (map key c.loop-row.kept.items) ≡ None =
    sym (c.loop-row.invariant.places (key c.in-Some.row)) ∙ ap (λ k. get byte_cmp c.loop-row.places k) (sym c.key.ensures) ∙ sym c.get.ensures.value ∙ sym c.in-None-place.ensures in
    let same : c.in_ok-copy-in-None-place.field-0 ≡ key c.in-Some.row = c.in_ok-copy-in-None-place.ensures ∙ c.key-in-None-place.ensures in
    let count : c.len.result ≡ length (map key c.loop-row.kept.items) = omega (arith, c.len.ensures, c.loop-row.kept.ok.0, length-map c.loop-row.kept.items key) in
    record {
      kept = c.in_ok-push-in-None-place.ensures.items ∙ missing_kept key c.loop-row.kept.items c.loop-row.yielded c.in-Some.row c.loop-row.invariant.kept none;
      places = λ q. c.in_ok-insert-in-None-place.ensures.updates.0 q
          ∙ ap (λ k. cond (is_eq (byte_cmp k q)) (Some c.len.result) (get byte_cmp c.loop-row.places q)) same
          ∙ ap (λ o. cond (is_eq (byte_cmp (key c.in-Some.row) q)) (Some c.len.result) o) (c.loop-row.invariant.places q)
          ∙ place_added (map key c.loop-row.kept.items) (key c.in-Some.row) q c.len.result count none
          ∙ ap (place_of q) (sym (map-append key c.loop-row.kept.items (c.in-Some.row ∷ [])) ∙ ap (map key) (sym c.in_ok-push-in-None-place.ensures.items));
    }
