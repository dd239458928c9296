use Rattle.std.proofs.Common.{◌≡◌, [], ◌∷◌, Some, sym, ap, ◌∙◌, arith}
use Rattle.std.proofs.lemmas.List.{append-nil}
use Rattle.table_scan.specs.TableTokens.{in_front, unquoted}
use Rattle.table_scan.proofs.Quotes.{in_front-in_front, run_read}
use Rattle.table_scan.proofs.quoted.closed_text.Goals as goal
use Rattle.table_scan.proofs.quoted.closed_text.Goals.{After-stopped_at}

-- what was read before the stop
read_so_far : (c : After-stopped_at) → in_front c.extend_from_slice.new.self.items (unquoted c.split_at.result.1.now) ≡ unquoted c.args.text.now
read_so_far c = rw c.in_ok-extend_from_slice.ensures.items (run_read c.loop-bytes.bytes.items c.split_at.result.0.now c.split_at.result.1.now c.loop-bytes.rest.now c.args.text.now c.plain_len.result c.split_at.ensures.front c.split_at.ensures.back c.plain_len.ensures.plain c.plain_len.ensures.within c.loop-bytes.invariant.so_far)

pub returns-in-End-clause-exact : goal.returns-in-End-clause-exact
returns-in-End-clause-exact c = ap (in_front c.extend_from_slice.new.self.items) c.in-End.ensures.rest ∙ read_so_far (goal.at.returns-in-End-clause-exact c).After-stopped_at

pub returns-in-Quote-clause-exact : goal.returns-in-Quote-clause-exact
returns-in-Quote-clause-exact c =
    let bytes = c.extend_from_slice.new.self.items in
    ap (λ all. Some (all, c.in-Quote.tail.now)) (sym (append-nil bytes)) ∙ ap (in_front bytes) c.in-Quote.ensures.rest ∙ read_so_far (goal.at.returns-in-Quote-clause-exact c).After-stopped_at

pub loop-bytes-preserved : goal.loop-bytes-preserved
loop-bytes-preserved c =
    let bytes = c.extend_from_slice.new.self.items in
    record {
      so_far = rw c.in_ok-push-in-Byte.ensures.items (sym (in_front-in_front bytes (c.in-Byte.byte ∷ []) (unquoted c.in-Byte.tail.now)) ∙ ap (in_front bytes) c.in-Byte.ensures.rest ∙ read_so_far (goal.at.loop-bytes-preserved c).After-stopped_at);
      within = omega (arith, c.in-Byte.ensures.shorter, c.loop-bytes.invariant.within, c.split_at.ensures.back_len);
    }
