use Rattle.std.proofs.Common.{ℕ, ◌-◌, ap, subst, ◌∙◌, arith}
use Rattle.std.specs.Io.KnownBytes.{Appends}
use Rattle.droid_frame.proofs.BodyLimits.{limit_at_most}
use Rattle.droid_frame.specs.Frames.{frame_bytes}
use Rattle.droid_frame.specs.declared.frame.Frame.{Frame}
use Rattle.droid_client.specs.Cores.{next_frame}
use Rattle.droid_lines.specs.Stopping.{WritesFront}
use Rattle.droid_lines.proofs.Holding.{copied_some, newest_is, some_pending, same_copied}
use Rattle.droid_lines.proofs.Passing.{front_of_frame, on_err}
use Rattle.droid_lines.proofs.exchange.write_newest.Goals as goal

pub overflow_sub-newest : goal.overflow_sub-newest
overflow_sub-newest g c = omega (arith, c.pending-newest.ensures, some_pending c.args.client.now c.requires.0 c.requires.1 c.requires.3)

pub unwrap-frame-requires : goal.unwrap-frame-requires
unwrap-frame-requires g c =
    copied_some c.pending_at.result (next_frame c.requires.0 c.requires.1.version c.requires.1.request)
    (c.pending_at.ensures ∙ newest_is c.args.client.now c.requires.0 c.requires.1 _ c.requires.3 (ap (λ (n : ℕ). n - 1) c.pending-newest.ensures))

pub write_frame-requires : goal.write_frame-requires
write_frame-requires g c =
    let is = same_copied c.pending_at.result c.unwrap-frame.result (next_frame c.requires.0 c.requires.1.version c.requires.1.request) c.unwrap-frame.ensures
    (c.pending_at.ensures ∙ newest_is c.args.client.now c.requires.0 c.requires.1 _ c.requires.3 (ap (λ (n : ℕ). n - 1) c.pending-newest.ensures)) in
    rw is (omega (arith, c.requires.2.body, limit_at_most c.requires.1.version))

pub returns-in_err-write_frame-clause-err : goal.returns-in_err-write_frame-clause-err
returns-in_err-write_frame-clause-err g c = λ core asked is.
    let frame_is = same_copied c.pending_at.result c.unwrap-frame.result (next_frame core asked.version asked.request) c.unwrap-frame.ensures
    (c.pending_at.ensures ∙ newest_is c.args.client.now core asked _ is (ap (λ (n : ℕ). n - 1) c.pending-newest.ensures)) in
    on_err c.from_residual.result _
    (subst (λ (f : Frame). WritesFront (g.F.Write.contents c.args.frames.now) (g.F.Write.contents c.write_frame.new.writer) (frame_bytes f)) frame_is
    (front_of_frame _ _ _ _ c.in_err-write_frame.ensures.err))

pub returns-clause-ok : goal.returns-clause-ok
returns-clause-ok g c = λ core asked is.
    let frame_is = same_copied c.pending_at.result c.unwrap-frame.result (next_frame core asked.version asked.request) c.unwrap-frame.ensures
    (c.pending_at.ensures ∙ newest_is c.args.client.now core asked _ is (ap (λ (n : ℕ). n - 1) c.pending-newest.ensures)) in
    subst (λ (f : Frame). Appends (g.F.Write.contents c.args.frames.now) (g.F.Write.contents c.write_frame.new.writer) (frame_bytes f)) frame_is c.in_ok-write_frame.ensures.ok
