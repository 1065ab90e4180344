use Rattle.std.proofs.Common.{◌≡◌, ◌∙◌, ◌++◌, Bool, List, ℕ, length, not, sym, ap, subst, arith}
use Rattle.droid_frame.specs.ReplyFrames.{reply_frame}
use Rattle.droid_journal.specs.Fronts.{IsFront}
use Rattle.droid_journal.specs.Records.{Record, made, place_after, record_bytes}
use Rattle.droid_journal.specs.declared.records.place.Place.{Place}
use Rattle.droid_journal.proofs.Chains.{place_same}
use Rattle.droid_journal.proofs.Standing.{left_out}
use Rattle.droid_journal.proofs.journal.Journal.note.Goals as goal

pub returns-in-Ok-clause-appended : goal.returns-in-Ok-clause-appended
returns-in-Ok-clause-appended g c = λ s here.
    let old = c.args.self.now in
    let mid = c.spell-check.new.self in
    let it : Record = made (not old.unsynced) c.args.request.now (reply_frame c.args.version c.args.client c.args.number c.args.reply.now) in
    let there = subst (λ (f : g.row.F.Denot). g.F.LogFile.has f s) (sym c.spell-check.ensures.file) here in
    let one = c.in-Ok.ensures.appended s there in
    subst (λ (a : Bool). g.F.LogFile.has c.append.new.self.file (s ++ left_out a (record_bytes old.key old.place it))) c.spell-check.ensures.ahead
    (subst (λ (t : List ℕ). g.F.LogFile.has c.append.new.self.file (s ++ left_out mid.ahead t)) c.spell-check.ensures.bytes one)

pub returns-in-Ok-clause-place : goal.returns-in-Ok-clause-place
returns-in-Ok-clause-place g c =
    let old = c.args.self.now in
    let it : Record = made (not old.unsynced) c.args.request.now (reply_frame c.args.version c.args.client c.args.number c.args.reply.now) in
    let is = c.in-Ok.ensures.place in
    let at = ap (λ (p : Place). p.at) c.spell-check.ensures.place in
    let records = ap (λ (p : Place). p.records) c.spell-check.ensures.place in
    place_same c.append.new.self.place (place_after old.key old.place it) (omega (arith, is.0, at, ap length c.spell-check.ensures.bytes)) (is.1 ∙ c.spell-check.ensures.check) (omega (arith, is.2, records))

pub returns-in-Err-clause-part : goal.returns-in-Err-clause-part
returns-in-Err-clause-part g c = λ s here.
    let old = c.args.self.now in
    let mid = c.spell-check.new.self in
    let it : Record = made (not old.unsynced) c.args.request.now (reply_frame c.args.version c.args.client c.args.number c.args.reply.now) in
    let there = subst (λ (f : g.row.F.Denot). g.F.LogFile.has f s) (sym c.spell-check.ensures.file) here in
    let one = c.in-Err.ensures.part s there in (
      one.0,
      one.1,
      subst (λ (a : Bool). IsFront one.0 (left_out a (record_bytes old.key old.place it))) c.spell-check.ensures.ahead (subst (λ (t : List ℕ). IsFront one.0 (left_out mid.ahead t)) c.spell-check.ensures.bytes one.2),
    )
