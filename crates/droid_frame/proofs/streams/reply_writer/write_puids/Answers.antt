use Rattle.std.proofs.Common.{◌≡◌, ◌+◌, ◌++◌, List, ℕ, suc, length, take, drop, ap, sym, subst, ◌∙◌, arith}
use Rattle.std.proofs.lemmas.Grind.{common_steps}
use Rattle.droid_frame.specs.declared.io.stream_fault.WriteFault.{WriteFault}
use Rattle.droid_frame.specs.Writes.{StopsWithin, Takes}
use Rattle.droid_frame.proofs.Stopping.{takes_more}
use Rattle.droid_frame.specs.TextLists.{sized_bytes, texts_bytes}
use Rattle.droid_frame.proofs.ReplyWrites.{puid_room, puids_split, stops_on}
use Rattle.droid_frame.proofs.StreamEnds.{stop_passed}
use Rattle.droid_frame.proofs.StreamWrites.{passed_on}
use Rattle.droid_frame.proofs.streams.reply_writer.write_puids.Goals as goal

pub write_all-requires : goal.write_all-requires
write_all-requires g c =
    let puids = c.as_slice-puid-items.result.now in
    let room = puid_room puids c.loop-puid.puid-index c.puid-item.result c.loop-puid-test.true c.puid-item.is in
    let all = ap (λ (ps : List (List ℕ)). length (texts_bytes ps)) c.as_slice-puid-items.ensures in
    let part = ap (λ (bytes : List ℕ). length bytes) (c.as_slice.ensures ∙ c.sized_puid.ensures) in
    omega (arith, room, all, part, c.requires.room, c.loop-puid.invariant.counted)

pub returns-in_err-write_all-clause-err : goal.returns-in_err-write_all-clause-err
returns-in_err-write_all-clause-err g c =
    let start = g.W.Write.contents c.args.writer.now in
    let mid = g.W.Write.contents c.loop-puid.writer in
    let now = g.W.Write.contents c.write_all.new.writer in
    let puids = c.as_slice-puid-items.result.now in
    let puid = c.puid-item.result in
    let at = c.args.progress.now.written in
    let front = texts_bytes (take c.loop-puid.puid-index puids) in
    let rest = texts_bytes (drop (suc c.loop-puid.puid-index) puids) in
    let fault = c.in_err-write_all.field-0.0 in
    let sized : StopsWithin mid now (sized_bytes puid) c.loop-puid.progress.written fault.written =
    subst (λ (bytes : List ℕ). StopsWithin mid now bytes c.loop-puid.progress.written fault.written) (c.as_slice.ensures ∙ c.sized_puid.ensures) c.in_err-write_all.ensures.err in
    let split : texts_bytes c.args.puids.now ≡ front ++ (sized_bytes puid ++ rest) =
    ap texts_bytes (sym c.as_slice-puid-items.ensures) ∙ puids_split puids c.loop-puid.puid-index puid c.loop-puid-test.true c.puid-item.is in
    passed_on c.from_residual.result fault (λ (f : WriteFault). StopsWithin start now (texts_bytes c.args.puids.now) at f.written) c.from_residual.ensures.1
    (stops_on start mid now front (sized_bytes puid) rest (texts_bytes c.args.puids.now) at c.loop-puid.progress.written fault.written c.loop-puid.invariant.sent c.loop-puid.invariant.counted sized split)

pub returns-in_err-write_all-clause-counts : goal.returns-in_err-write_all-clause-counts
returns-in_err-write_all-clause-counts g c = λ start counts.
    stop_passed start _ _ _ c.from_residual.result _ c.from_residual.ensures.1 (c.in_err-write_all.ensures.counts start (c.loop-puid.invariant.counts start counts))

pub loop-puid-preserved : goal.loop-puid-preserved
loop-puid-preserved g c =
    let puids = c.as_slice-puid-items.result.now in
    let counted : c.write_all.new.progress.written ≡ c.args.progress.now.written + length (texts_bytes (take (c.loop-puid.puid-index + 1) puids)) = grind (arith, common_steps) in
    let sent : length (texts_bytes (take c.loop-puid.puid-index puids)) + length c.as_slice.result.now ≡ length (texts_bytes (take (c.loop-puid.puid-index + 1) puids)) =
    omega (arith, counted, c.loop-puid.invariant.counted, c.in_ok-write_all.ensures.counted) in
    record {
      sent = grind (arith, common_steps);
      counted = counted;
      room = subst (λ (n : ℕ). Takes (g.W.SteadyWrite.room c.args.writer.now) (g.W.SteadyWrite.room c.write_all.new.writer) n) sent
          (takes_more _ _ _ _ _ c.loop-puid.invariant.room c.in_ok-write_all.ensures.room_ok);
      counts = λ start counts. c.in_ok-write_all.ensures.counts start (c.loop-puid.invariant.counts start counts);
    }
